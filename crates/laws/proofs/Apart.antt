-- What holds of each element of a list, and lists no two of whose elements have the same text. Assumes nothing.
use mathlib.Core.Path.{◌≡◌, refl, sym, ap}
use mathlib.Core.List.{List, [], ◌∷◌}
use Prim.Native.Nat.{ℕ, zero, suc, ◌<◌}
use native.Mathlib.Omega.{arith}
use lib.ListN.{length, get_or}
use Rattle.laws.specs.Demand.{Each, Each.none, Each.more}

module _ {A : Type 0} where
  -- No two have the same text.
  pub data Apart (text : A → List ℕ) : List A → Type 0 where
    alone : Apart text []
    beside : {x : A} {xs : List A} → Each (λ y. text x ≡ text y → ⊥) xs → Apart text xs → Apart text (x ∷ xs)

  each_at : {P : A → Type 0} {xs : List A} → Each P xs → (d : A) (i : ℕ) → i < length xs → P (get_or xs i d)
  each_at none d i h = absurd (omega arith)
  each_at (more p e) d zero h = p
  each_at (more p e) d (suc i) h = each_at e d i (omega arith)

  pub each_map : {P Q : A → Type 0} → ((x : A) → P x → Q x) → {xs : List A} → Each P xs → Each Q xs
  each_map f none = none
  each_map f (more {x = x} p e) = more (f x p) (each_map f e)

  -- Elements of the same text stand at one place.
  pub apart_at : {text : A → List ℕ} {xs : List A} → Apart text xs → (d : A) (i j : ℕ) → i < length xs → j < length xs
      → text (get_or xs i d) ≡ text (get_or xs j d) → i ≡ j
  apart_at alone d i j h k e = absurd (omega arith)
  apart_at (beside f a) d zero zero h k e = refl
  apart_at (beside f a) d zero (suc j) h k e = absurd (each_at f d j (omega arith) e)
  apart_at (beside f a) d (suc i) zero h k e = absurd (each_at f d i (omega arith) (sym e))
  apart_at (beside f a) d (suc i) (suc j) h k e = ap suc (apart_at a d i j (omega arith) (omega arith) e)
