-- A rule at each byte of a text, from one comparison that is computed. Assumes nothing.
use mathlib.Core.Path.{◌≡◌, refl, sym, ap, ◌∙◌}
use mathlib.Core.Bool.{Bool, true, false, ◌||◌, false≢true}
use mathlib.Core.List.{List, [], ◌∷◌, map, head-eq_of_cons-eq, tail-eq_of_cons-eq}
use Prim.Native.Nat.{ℕ}
use borrow.Author.Tests.{eqb-true}
use lib.Dec.{eqb}
use Rattle.dna.specs.Text.{among}

-- Two rules that map a text to one list agree at each byte that is among its own.
pub at_each : {A : Type 0} (f g : ℕ → A) (s : List ℕ) → map f s ≡ map g s → (b : ℕ) → among b s ≡ true → f b ≡ g b
unfolding among
at_each f g [] e b h = absurd (false≢true h)
at_each f g (x ∷ s) e b h = go (at_each f g s (tail-eq_of_cons-eq e) b) (eqb b x) refl h
  where
    go : (among b s ≡ true → f b ≡ g b) → (t : Bool) → eqb b x ≡ t → (t || among b s) ≡ true → f b ≡ g b
    go ih true u h = ap f (eqb-true b x u) ∙ head-eq_of_cons-eq e ∙ sym (ap g (eqb-true b x u))
    go ih false u h = ih h
