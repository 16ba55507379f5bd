-- How many cells so many keys are worth, and what tells that cells are enough. Assumes nothing.
use Rattle.std.proofs.Common.{◌≡◌, ℕ, ◌<◌, ◌≤◌, true, ltb, arith}
use Rattle.std.proofs.lemmas.Bool.Decides.{nat_tests}
use Rattle.directory.specs.Directory.{bases_of, cells_for}

-- A directory is worth at most 16,385 cells.
pub cells_most : (n : ℕ) → cells_for n ≤ 16385
unfolding cells_for
cells_most n = grind (arith, nat_tests)

-- Where bases are told apart, there are cells enough.
pub bases_some : (n : ℕ) → 0 < bases_of n → ltb 1024 n ≡ true
bases_some n h = grind (arith, nat_tests)
