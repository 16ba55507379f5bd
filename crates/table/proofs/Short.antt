-- A key of at most 32 bases is its low word: with a high word it is not below 4 to the K. Assumes nothing.
use mathlib.Core.Path.{◌≡◌}
use mathlib.Core.Bool.{false, ◌&&◌}
use Prim.Native.Nat.{ℕ, ◌*◌, ◌^◌, ◌≤◌, ◌<◌}
use native.Mathlib.Omega.{arith}
use borrow.Author.Tests.{le-ltb}
use lib.Dec.{ltb}
use lib.Pow.{pow_mono}
use Rattle.kmer.specs.Kmer.{joined, is_canon}
use Rattle.kmer.proofs.Wide.{four}

few : (k : ℕ) → k ≤ 32 → 4 ^ k ≤ 2 ^ 64
few k h = let l : 2 * k ≤ 64 = omega arith in rw (four k) (pow_mono l)

pub no_high : (lo hi : ℕ) → hi ≡ 0 → joined lo hi ≡ lo
no_high lo hi e = omega arith

module _ (k : ℕ) (h : k ≤ 32) (lo hi : ℕ) where
  pub low_alone : joined lo hi < 4 ^ k → joined lo hi ≡ lo
  low_alone l = no_high lo hi (omega (arith, few k h))

  pub too_high : 0 < hi → false ≡ ltb (joined lo hi) (4 ^ k) && is_canon k (joined lo hi)
  too_high p = let l : 4 ^ k ≤ joined lo hi = omega (arith, few k h) in rw (le-ltb (joined lo hi) (4 ^ k) l)
