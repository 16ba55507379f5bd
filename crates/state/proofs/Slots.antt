-- Sides: each is opposite to its opposite, each side and base has a counter of its own, and where neither neighbour
-- is N both are counted. Assumes nothing.
use mathlib.Core.Path.{◌≡◌, refl}
use Prim.Native.Nat.{ℕ, ◌<◌}
use native.Mathlib.Omega.{arith}
use borrow.Author.Tests.{ne_eqb}
use Rattle.dna.specs.Answer.{gives}
use Rattle.state.specs.Counted.{Kind, opposite, slot_of, counted, update_call}
use Rattle.state.specs.declared.Side.{Side}
use Rattle.state.specs.declared.Side.TheVariants.{Front, Back}

pub opposite_opposite : (s : Side) → opposite (opposite s) ≡ s
opposite_opposite Front = refl
opposite_opposite Back = refl

pub slot_inj : (s t : Side) (a b : ℕ) → a < 4 → b < 4 → slot_of s a ≡ slot_of t b → (s ≡ t) × (a ≡ b)
slot_inj Front Front a b ha hb h = (refl, h)
slot_inj Front Back a b ha hb h = absurd (omega arith)
slot_inj Back Front a b ha hb h = absurd (omega arith)
slot_inj Back Back a b ha hb h = (refl, omega arith)

pub update_done :
    (κ : Kind) (w front back : ℕ) → (front ≡ 4 → ⊥) → (back ≡ 4 → ⊥) →
    update_call κ w front back ≡ gives (counted κ (counted κ w Front front) Back back)
update_done κ w front back f b = rw (ne_eqb front 4 f, ne_eqb back 4 b)
