-- The word of a bound that is compared: its unit by K, and the four bases turned at their place in it. Assumes nothing.
use mathlib.Core.Path.{◌≡◌}
use Prim.Native.Nat.{ℕ, ◌+◌, ◌-◌, ◌*◌, ◌%◌, ◌^◌, ◌≤◌, ◌<◌}
use native.Mathlib.Nat.{mul_assoc}
use native.Mathlib.Omega.{arith}
use borrow.Author.Tests.{le-leb, lt-leb}
use lib.Pow.{pow-add, shl_exact}
use Rattle.kmer.specs.Kmer.{rc}
use Rattle.kmer.proofs.Wide.{four}
use Rattle.kmer.proofs.Turned.{rc_lt}
use Rattle.table.specs.Bounds.{bound_of, unit_of}

module _ (k : ℕ) where
  pub unit_low : k ≤ 32 → unit_of k ≡ 1
  unit_low h = rw (le-leb k 32 h)

  pub unit_middle : 32 < k → k ≤ 35 → unit_of k ≡ 64
  unit_middle g h = rw (lt-leb k 32 g, le-leb k 35 h)

  pub unit_high : 35 < k → unit_of k ≡ 2 ^ 64
  unit_high g = let h : 32 < k = omega arith in rw (lt-leb k 32 h, lt-leb k 35 g)

  -- They are shifted by t, and a one counts 2 to the u. As they are eight bits, none is lost.
  pub bound_at : (b first t u : ℕ) → first ≡ rc 4 b → 5 ≤ k → t ≤ 56 → t + u ≡ 2 * (k - 4) → unit_of k ≡ 2 ^ u
      → first * 2 ^ t % 2 ^ 64 * unit_of k ≡ bound_of k b
  bound_at b first t u r h a e f =
      let l : first < 2 ^ 8 = rw r (rc_lt 4 b) in
      rw (f, le-leb 5 k h, ← r, shl_exact 8 t 64 l (omega arith), mul_assoc, ← pow-add, e, ← four)
