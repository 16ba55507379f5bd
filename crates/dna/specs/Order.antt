-- Byte order, and the least rotation of a text. Assumes nothing.
use Rattle.std.specs.Prelude.{ℕ, zero, suc, ◌-◌, Bool, true, false, cond, ◌&&◌, ◌||◌, ltb, eqb}
use Rattle.std.specs.Prelude.{List, [], ◌∷◌, ◌++◌, length, take, drop}

-- One text stands before another: byte by byte, and a beginning before what continues it.
unfoldable pub before : List ℕ → List ℕ → Bool
before [] [] = false
before [] (y ∷ t) = true
before (x ∷ s) [] = false
before (x ∷ s) (y ∷ t) = ltb x y || (eqb x y && before s t)

-- A text read from place i round to i again.
abbrev pub rotation : List ℕ → ℕ → List ℕ
rotation s i = drop i s ++ take i s

-- Of the starts 0 to i, the smallest whose rotation is least.
unfoldable pub least_to : List ℕ → ℕ → ℕ
least_to s zero = 0
least_to s (suc i) = let m = least_to s i in cond (before (rotation s (suc i)) (rotation s m)) (suc i) m

-- The smallest start whose rotation is least; 0 for lengths 0 and 1.
abbrev pub least_start : List ℕ → ℕ
least_start s = least_to s (length s - 1)

-- Opens this file's definitions to a proof that computes.
unfoldable pub open_order : Unit {0}
unfolding before least_to
open_order = tt
