-- A number below its own last four bases, turned and put first among K, is a canonical k-mer, since they come first in
-- its reverse complement. Assumes nothing.
use mathlib.Core.Path.{◌≡◌, sym, ap, ◌∙◌}
use mathlib.Core.Bool.{true}
use Prim.Native.Nat.{ℕ, ◌+◌, ◌-◌, ◌*◌, ◌/◌, ◌%◌, ◌^◌, ◌≤◌, ◌<◌}
use native.Mathlib.Omega.{arith}
use borrow.Author.Tests.{le-leb}
use Rattle.kmer.specs.Kmer.{rc, is_canon}
use Rattle.kmer.proofs.Turned.{rc_cat, rc_lt, rc_low}

-- The last four bases of a number, turned: the front of its reverse complement.
abbrev pub front : ℕ → ℕ
front x = rc 4 (x % 256)

-- It is below 4 to the K and canonical.
abbrev pub Key : ℕ → ℕ → Type 0
Key k x = (x < 4 ^ k) × (is_canon k x ≡ true)

front_rc : (j x : ℕ) → front x * 4 ^ j ≤ rc (4 + j) x
front_rc j x =
    let e : rc 4 x ≡ front x = ap (rc 4) (omega arith) ∙ rc_low 4 (x % 256) (x / 256) in
    rw (rc_cat 4 j x, e) (omega arith)

pub ahead : (k x : ℕ) → 4 ≤ k → x < front x * 4 ^ (k - 4) → Key k x
unfolding is_canon
ahead k x h l =
    let j : ℕ = k - 4 in
    let e : 4 + j ≡ k = omega arith in
    let n : x < rc k x = rw (sym e) (omega (arith, front_rc j x)) in
    (omega (arith, rc_lt k x), le-leb x (rc k x) (omega arith))
