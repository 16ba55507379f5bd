-- Two numbers that stand side by side in a list, or at its two ends. Assumes nothing.
use Rattle.std.specs.Prelude.{ℕ, List, [], ◌∷◌, ◌++◌}

-- x directly before y.
pub data Next (x y : ℕ) : List ℕ → Type 0 where
  now : {zs : List ℕ} → Next x y (x ∷ y ∷ zs)
  later : {z : ℕ} {zs : List ℕ} → Next x y zs → Next x y (z ∷ zs)

-- Neighbours, or the two ends.
pub data Together (x y : ℕ) : List ℕ → Type 0 where
  follows : {zs : List ℕ} → Next x y zs → Together x y zs
  precedes : {zs : List ℕ} → Next y x zs → Together x y zs
  two_ends : (ms : List ℕ) → Together x y (x ∷ (ms ++ (y ∷ [])))
  ends_two : (ms : List ℕ) → Together x y (y ∷ (ms ++ (x ∷ [])))
