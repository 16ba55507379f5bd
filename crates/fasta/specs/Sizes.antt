-- The size of the text from the lengths of its labels alone. Assumes nothing.
use Rattle.std.specs.Prelude.{ℕ, zero, suc, ◌+◌, List, [], ◌∷◌}

-- The bytes of the first records: each has its label and four bytes more.
unfoldable pub size_of : ℕ → List ℕ → ℕ
size_of zero lengths = 0
size_of (suc count) [] = 0
size_of (suc count) (n ∷ lengths) = n + 4 + size_of count lengths
