-- The enums' definitions tell their cases apart, and what a call that writes one text has to show. Assumes nothing.
use mathlib.Core.Path.{◌≡◌, refl, sym, ap, ◌∙◌}
use mathlib.Core.List.{List}
use Prim.Native.Nat.{ℕ, zero, suc, ◌≤◌, ◌<◌}
use native.Mathlib.Omega.{arith}
use borrow.Author.Tests.{lt-ltb, le-ltb}
use lib.ListN.{length}
use Rattle.lemmas.proofs.Building.{Built, built_all}
use Rattle.std.proofs.Common.{Result, Ok, Err}
use Rattle.dna.specs.Text.{over}
use Rattle.dna.specs.Answer.{fill}
use Rattle.dna.specs.Calls.{code_in, written_answer, Writes}
use Rattle.dna.specs.declared.Base.{Base}
use Rattle.dna.specs.declared.Base.TheVariants.{A, C, G, T, N, E}
use Rattle.dna.specs.declared.NoRoom.{NoRoom}

-- The base of a code.
unfoldable base_of : ℕ → Base
base_of zero = A
base_of (suc zero) = C
base_of (suc (suc zero)) = G
base_of (suc (suc (suc zero))) = T
base_of (suc (suc (suc (suc zero)))) = N
base_of (suc (suc (suc (suc (suc c))))) = E

back : (b : Base) → base_of (code_in b) ≡ b
unfolding base_of
back A = refl
back C = refl
back G = refl
back T = refl
back N = refl
back E = refl

-- A base is known by its code.
pub code_inj : (a b : Base) → code_in a ≡ code_in b → a ≡ b
code_inj a b h = sym (back a) ∙ ap base_of h ∙ back b

-- What was written is known by its answer.
pub written_inj : (a b : Result ℕ NoRoom) → written_answer a ≡ written_answer b → a ≡ b
written_inj (Ok n) (Ok m) h = cc
written_inj (Ok n) (Err e) h = cc
written_inj (Err d) (Ok m) h = cc
written_inj (Err d) (Err e) h = refl

module _ (text slice₀ : List ℕ) where
  -- The text does not fit.
  pub writes_none : {e : NoRoom} → length slice₀ < length text → Writes (Err e) slice₀ (fill 9 text slice₀)
  writes_none h = rw (lt-ltb (length slice₀) (length text) h) (record { answer = refl; slice = refl })

  -- It is written whole.
  pub writes_all : (slice : List ℕ) (n : ℕ) → n ≡ length text → length text ≤ length slice₀ → Built text slice₀ slice n
      → Writes (Ok n) slice (fill 9 text slice₀)
  writes_all slice n e h b =
      rw (le-ltb (length slice₀) (length text) h)
      (record { answer = rw e; slice = built_all text slice₀ slice n b (omega arith) })

-- A text that has room is written.
pub writes_over : (text slice₀ : List ℕ) {r : Result ℕ NoRoom} {slice : List ℕ} → Writes r slice (fill 9 text slice₀)
    → length text ≤ length slice₀ → slice ≡ over text slice₀
writes_over text slice₀ w h = rw (le-ltb (length slice₀) (length text) h) at w.slice
