-- The two strands of a k-mer: its reverse complement, that of a roll, and the canonical form, which is one for both.
-- Assumes nothing.
use mathlib.Core.Path.{◌≡◌, sym, ap, ap₂, ◌∙◌}
use mathlib.Core.Bool.{true}
use mathlib.Core.Logic.{⊎_elim}
use Prim.Native.Nat.{ℕ, zero, suc, ◌+◌, ◌-◌, ◌*◌, ◌/◌, ◌%◌, ◌^◌, ◌<◌, ◌≤◌}
use native.Mathlib.Nat.{pow-succ', mul_comm, add_comm, mod-lt, div-add-mod', div-lt_iff_lt-mul}
use native.Mathlib.Numerals.{add-one}
use native.Mathlib.Omega.{arith}
use lib.Arith.{lt-one}
use lib.Dec.{ltb}
use borrow.Author.Tests.{leb-true, le-leb}
use Rattle.lemmas.proofs.Numbers.{true_or_false}
use Rattle.kmer.specs.Kmer.{rc, canon, is_canon, forward, backward}
use Rattle.kmer.proofs.Wide.{four_pos}
use Rattle.kmer.proofs.Turned.{rc_cat, rc_lt, rc_short, rc_low}
use Rattle.kmer.proofs.Orders.{canon_turned, canon_same}

-- Only the bases of a k-mer count.
rc_mod : (k x : ℕ) → rc k (x % 4 ^ k) ≡ rc k x
rc_mod k x =
    let e : x % 4 ^ k + 4 ^ k * (x / 4 ^ k) ≡ x =
    add_comm (x % 4 ^ k) (4 ^ k * (x / 4 ^ k)) ∙ ap (λ (n : ℕ). n + x % 4 ^ k) (mul_comm (4 ^ k) (x / 4 ^ k))
    ∙ div-add-mod' x (4 ^ k) in
    sym (rc_low k (x % 4 ^ k) (x / 4 ^ k)) ∙ ap (rc k) e

-- The first base, complemented, comes out last.
pub rc_first : (k x : ℕ) → rc (suc k) x ≡ 4 * rc k x + (3 - x / 4 ^ k % 4)
unfolding rc
rc_first k x = ap (λ (n : ℕ). rc n x) (sym (add-one k)) ∙ rc_cat k 1 x ∙ omega arith

first_lt : (k x : ℕ) → x < 4 ^ suc k → x / 4 ^ k < 4
first_lt k x h = (div-lt_iff_lt-mul (four_pos k)).1 (rw (pow-succ' 4 k) at h)

-- Turned twice, a k-mer is itself.
pub rc_rc : (K x : ℕ) → x < 4 ^ K → rc K (rc K x) ≡ x
unfolding rc
rc_rc zero x h = sym (lt-one h)
rc_rc (suc k) x h =
    let t = first_lt k x h in
    let e = rc_first k x in
    let m : rc (suc k) x % 4 ≡ 3 - x / 4 ^ k = omega arith in
    let q : rc (suc k) x / 4 ≡ rc k x = omega arith in
    let d : 3 - (3 - x / 4 ^ k) ≡ x / 4 ^ k = omega arith in
    ap₂ (λ (a b : ℕ). (3 - a) * 4 ^ k + rc k b) m q
    ∙ ap₂ (λ (a b : ℕ). a * 4 ^ k + b) d (ap (rc k) (sym (rc_mod k x)) ∙ rc_rc k (x % 4 ^ k) (mod-lt x (four_pos k)))
    ∙ div-add-mod' x (4 ^ k)

-- ---- rolls

-- A rolled k-mer is a k-mer.
pub forward_lt : (K x b : ℕ) → forward K x b < 4 ^ K
unfolding forward
forward_lt K x b = mod-lt (4 * x + b) (four_pos K)

-- Appending on one strand is putting the complement in front on the other.
pub rc_forward : (K x b : ℕ) → 1 ≤ K → b < 4 → rc K (forward K x b) ≡ backward K (rc K x) (3 - b)
unfolding rc forward backward
rc_forward zero x b one h = absurd (omega arith)
rc_forward (suc k) x b one h =
    let e : suc k - 1 ≡ k = omega arith in
    let m : (4 * x + b) % 4 ≡ b = omega arith in
    let q : (4 * x + b) / 4 ≡ x = omega arith in
    let s : rc (suc k) x / 4 ≡ rc k x = ap (λ (n : ℕ). rc n x / 4) (sym (add-one k)) ∙ rc_short k 1 x in
    rc_mod (suc k) (4 * x + b) ∙ ap₂ (λ (c y : ℕ). (3 - c) * 4 ^ k + rc k y) m q
    ∙ ap₂ (λ (j y : ℕ). (3 - b) * 4 ^ j + y) (sym e) (sym s)

-- And the other way round.
pub rc_backward : (K x b : ℕ) → 1 ≤ K → x < 4 ^ K → b < 4 → rc K (backward K x b) ≡ forward K (rc K x) (3 - b)
rc_backward K x b one h l =
    let d : 3 - (3 - b) ≡ b = omega arith in
    let e : rc K (forward K (rc K x) (3 - b)) ≡ backward K x b =
    rc_forward K (rc K x) (3 - b) one (omega arith) ∙ ap₂ (backward K) (rc_rc K x h) d in
    ap (rc K) (sym e) ∙ rc_rc K (forward K (rc K x) (3 - b)) (forward_lt K (rc K x) (3 - b))

-- ---- the canonical form

module _ (K x : ℕ) (h : x < 4 ^ K) where
  -- It is the same on either strand.
  pub canon_rc : canon K (rc K x) ≡ canon K x
  unfolding canon
  canon_rc = rw (rc_rc K x h) (omega arith)

  pub canon_lt : canon K x < 4 ^ K
  unfolding canon
  canon_lt = omega (arith, rc_lt K x)

  pub canon_canon : canon K (canon K x) ≡ canon K x
  canon_canon =
      ⊎_elim (λ t. ap (canon K) (sym (canon_turned K x t)) ∙ canon_rc) (λ t. ap (canon K) (sym (canon_same K x t)))
      (true_or_false (ltb (rc K x) x))

-- A k-mer is canonical exactly where it is its own canonical form.
pub canon_of_canonical : (K x : ℕ) → is_canon K x ≡ true → canon K x ≡ x
unfolding canon is_canon
canon_of_canonical K x t = omega (arith, leb-true x (rc K x) t)

pub canonical_of_canon : (K x : ℕ) → canon K x ≡ x → is_canon K x ≡ true
unfolding canon is_canon
canonical_of_canon K x e = le-leb x (rc K x) (omega arith)
