-- A k-mer below the bound of its last four bases is below 4 to the K and canonical. Assumes nothing.
use mathlib.Core.Path.{◌≡◌}
use mathlib.Core.Bool.{true, ◌&&◌}
use mathlib.Core.List.{List}
use Prim.Native.Nat.{ℕ, ◌+◌, ◌*◌, ◌/◌, ◌%◌, ◌^◌, ◌≤◌, ◌<◌}
use native.Mathlib.Omega.{arith}
use borrow.Author.Tests.{lt-ltb, ltb-true, leb-true}
use lib.Dec.{ltb, leb}
use lib.ListN.{get_or}
use Rattle.lemmas.proofs.Tests.{choose}
use Rattle.kmer.specs.Kmer.{joined, is_canon}
use Rattle.kmer.proofs.Ahead.{Key, ahead}
use Rattle.table.specs.Bounds.{bound_of, unit_of, Bounds}
use Rattle.table.proofs.Compared.{unit_low, unit_middle, unit_high}

bounded : (k x : ℕ) → x < bound_of k (x % 256) → Key k x
bounded k x = choose (λ (n : ℕ). x < n → Key k x) (leb 5 k) (λ a l. ahead k x (omega (arith, leb-true 5 k a)) l)
    (λ _ l. absurd (omega arith))

-- The same as a test, by words, the bounds being held in a slice: the word that is compared tells it.
module _ (k : ℕ) (bounds : List ℕ) (h : Bounds k bounds) (lo hi b : ℕ) (q : b ≡ lo % 256) where
  under : (unit : ℕ) → unit_of k ≡ unit → joined lo hi < get_or bounds b 0 * unit
      → ltb (joined lo hi) (4 ^ k) && is_canon k (joined lo hi) ≡ true
  under unit e l =
      let r : joined lo hi % 256 ≡ b = omega arith in
      let p = bounded k (joined lo hi) (rw (r, ← h b (omega arith), e) l) in
      rw (lt-ltb _ _ p.0, p.1)

  pub told_low : k ≤ 32 → hi ≡ 0 → lo < get_or bounds b 0
      → ltb (joined lo hi) (4 ^ k) && is_canon k (joined lo hi) ≡ true
  told_low f z l = under 1 (unit_low k f) (omega arith)

  pub told_middle : 32 < k → k ≤ 35 → hi ≤ 63 → (x : ℕ) → x ≡ hi % 64 * 2 ^ 58 + lo / 64
      → ltb x (get_or bounds b 0) ≡ true
      → ltb (joined lo hi) (4 ^ k) && is_canon k (joined lo hi) ≡ true
  told_middle f g m x e t = under 64 (unit_middle k f g) (omega (arith, ltb-true x (get_or bounds b 0) t))

  pub told_high : 35 < k → lo < 2 ^ 64 → ltb hi (get_or bounds b 0) ≡ true
      → ltb (joined lo hi) (4 ^ k) && is_canon k (joined lo hi) ≡ true
  told_high f l t = under (2 ^ 64) (unit_high k f) (omega (arith, ltb-true hi (get_or bounds b 0) t))
