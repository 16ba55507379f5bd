-- What tells most canonical k-mers by their first four bases. Assumes nothing.
use Rattle.std.specs.Prelude.{◌≡◌, cond, List, ℕ, ◌-◌, ◌*◌, ◌^◌, ◌<◌, leb, get_or}
use Rattle.kmer.specs.Kmer.{rc}

-- The least k-mer that begins with four bases turned; 0 where K is below 5.
abbrev pub bound_of : ℕ → ℕ → ℕ
bound_of k b = cond (leb 5 k) (rc 4 b * 4 ^ (k - 4)) 0

-- What a one counts in the word of a bound that is compared: the low word, the bound without its last three bases, or
-- the high word.
abbrev pub unit_of : ℕ → ℕ
unit_of k = cond (leb k 32) 1 (cond (leb k 35) 64 (2 ^ 64))

-- A slice holds the bounds of all last four bases, each as the word that is compared.
abbrev pub Bounds : ℕ → List ℕ → Type 0
Bounds k bounds = (b : ℕ) → b < 256 → get_or bounds b 0 * unit_of k ≡ bound_of k b
