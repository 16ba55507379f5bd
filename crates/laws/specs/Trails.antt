-- Where a walk goes, step by step and without a bound on its steps. Assumes nothing.
use Rattle.std.specs.Prelude.{ℕ, ◌+◌, ◌≡◌, Bool, true, false, cond, List, [], ◌∷◌, eqb, set}
use Rattle.state.specs.declared.Side.{Side}
use Rattle.graph.specs.declared.Step.{Step}
use Rattle.graph.specs.declared.Step.TheVariants.{Next, Stop, Missing}
use Rattle.graph.specs.Walks.{Ends, step}

-- A vertex that a walk came to, the side by which it leaves it, and the base that it appended there.
pub record Place : Type 0 where
  pub vertex : ℕ
  pub exit : Side
  pub base : ℕ

-- A step leads on.
abbrev pub is_next : Step → Bool
is_next (Next v s b) = true
is_next (Stop why) = false
is_next Missing = false

-- How often a walk was at vertex v.
unfoldable pub occ : ℕ → List Place → ℕ
occ v [] = 0
occ v (p ∷ ps) = cond (eqb p.vertex v) 1 0 + occ v ps

module _ (K : ℕ) (ks : List ℕ) (es : List Ends) (a : ℕ) (start : Side) where
  -- A walk of anchor a that is at vertex v, under these marks, and leaves it by side s: the places that it comes to, the marks
  -- that it leaves, and the step at which it ends.
  pub data Trail : List ℕ → ℕ → Side → List Place → List ℕ → Step → Type 0 where
    ends : {marks : List ℕ} {v : ℕ} {s : Side} {st : Step} → step K ks es a start marks v s ≡ st → is_next st ≡ false → Trail marks v s [] marks st
    goes : {marks after : List ℕ} {v u b : ℕ} {s t : Side} {ps : List Place} {st : Step} → step K ks es a start marks v s ≡ Next u t b
        → Trail (set marks u 1) u t ps after st → Trail marks v s (record { vertex = u; exit = t; base = b } ∷ ps) after st
