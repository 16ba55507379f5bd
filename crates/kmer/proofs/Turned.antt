-- Base-4 digits in reverse order, each through f; the reverse complement is the instance at 3 - d. Assumes nothing.
use mathlib.Core.Path.{◌≡◌, refl, sym, ap, ap₂, ◌∙◌}
use Prim.Native.Nat.{ℕ, zero, suc, ◌+◌, ◌-◌, ◌*◌, ◌/◌, ◌%◌, ◌^◌, ◌<◌}
use native.Mathlib.Nat.{pow-suc, pow-succ', add-mul, mul_assoc, add_assoc, zero-add, suc-add, div-one, div-div-eq-div-mul, mod-lt, zero-lt-suc}
use native.Mathlib.Omega.{arith}
use lib.Arith.{digits_lt, digits_div}
use lib.Pow.{pow-add}
use Rattle.kmer.specs.Kmer.{rc}

module _ (f : ℕ → ℕ) where
  unfoldable pub turned : ℕ → ℕ → ℕ
  turned zero x = 0
  turned (suc d) x = f (x % 4) * 4 ^ d + turned d (x / 4)

  -- The a low digits end up above the b digits over them.
  pub turned_cat : (a b x : ℕ) → turned (a + b) x ≡ turned a x * 4 ^ b + turned b (x / 4 ^ a)
  unfolding turned
  turned_cat zero b x = ap (λ (n : ℕ). turned n x) (zero-add b) ∙ ap (turned b) (sym (div-one x)) ∙ omega arith
  turned_cat (suc a) b x =
      let p : x / 4 / 4 ^ a ≡ x / 4 ^ suc a = div-div-eq-div-mul x 4 (4 ^ a) ∙ ap (λ (n : ℕ). x / n) (sym (pow-succ' 4 a)) in
      let d : ℕ = f (x % 4) in
      let r : ℕ = turned a (x / 4) in
      let s : ℕ = turned b (x / 4 / 4 ^ a) in
      ap (λ (n : ℕ). turned n x) (suc-add a b)
      ∙ ap₂ (λ (m n : ℕ). d * m + n) (pow-add 4 a b) (turned_cat a b (x / 4))
      ∙ ap (λ (m : ℕ). m + (r * 4 ^ b + s)) (sym (mul_assoc d (4 ^ a) (4 ^ b)))
      ∙ sym (add_assoc (d * 4 ^ a * 4 ^ b) (r * 4 ^ b) s)
      ∙ ap₂ ◌+◌ (sym (add-mul (d * 4 ^ a) r (4 ^ b))) (ap (turned b) p)

  pub turned_lt : ((d : ℕ) → d < 4 → f d < 4) → (d x : ℕ) → turned d x < 4 ^ d
  unfolding turned
  turned_lt small zero x = omega arith
  turned_lt small (suc d) x =
      rw (pow-succ' 4 d) (digits_lt (small (x % 4) (mod-lt x (zero-lt-suc 3))) (turned_lt small d (x / 4)))

abbrev pub same : ℕ → ℕ
same d = d

abbrev pub comp : ℕ → ℕ
comp d = 3 - d

pub same_lt : (d : ℕ) → d < 4 → same d < 4
same_lt d h = h

comp_lt : (d : ℕ) → d < 4 → comp d < 4
comp_lt d h = omega arith

pub rc_turned : (k x : ℕ) → rc k x ≡ turned comp k x
unfolding rc turned
rc_turned zero x = refl
rc_turned (suc k) x = ap (λ (m : ℕ). (3 - x % 4) * 4 ^ k + m) (rc_turned k (x / 4))

-- Complementing every digit is taking the whole from 4 ^ d - 1.
pub comp_same : (d x : ℕ) → turned comp d x + turned same d x + 1 ≡ 4 ^ d
unfolding turned
comp_same zero x = refl
comp_same (suc d) x =
    let e : (3 - x % 4) + x % 4 ≡ 3 = omega arith in
    let m : (3 - x % 4) * 4 ^ d + x % 4 * 4 ^ d ≡ 3 * 4 ^ d =
    sym (add-mul (3 - x % 4) (x % 4) (4 ^ d)) ∙ ap (λ (n : ℕ). n * 4 ^ d) e in
    omega (arith, comp_same d (x / 4), pow-suc 4 d)

-- The reverse complement in two parts, and from more digits than wanted.
pub rc_cat : (a b x : ℕ) → rc (a + b) x ≡ rc a x * 4 ^ b + rc b (x / 4 ^ a)
rc_cat a b x =
    rc_turned (a + b) x ∙ turned_cat comp a b x
    ∙ sym (ap₂ (λ (p q : ℕ). p * 4 ^ b + q) (rc_turned a x) (rc_turned b (x / 4 ^ a)))

pub rc_lt : (k x : ℕ) → rc k x < 4 ^ k
rc_lt k x = rw (rc_turned k x) (turned_lt comp comp_lt k x)

pub rc_short : (k j x : ℕ) → rc (k + j) x / 4 ^ j ≡ rc k x
rc_short k j x = ap (λ (n : ℕ). n / 4 ^ j) (rc_cat k j x) ∙ digits_div (rc k x) (rc_lt j (x / 4 ^ k))

-- Only the k low digits count.
pub rc_low : (k x y : ℕ) → rc k (x + 4 ^ k * y) ≡ rc k x
unfolding rc
rc_low zero x y = refl
rc_low (suc k) x y =
    let e : 4 ^ suc k * y ≡ 4 * (4 ^ k * y) = ap (λ (n : ℕ). n * y) (pow-succ' 4 k) ∙ mul_assoc 4 (4 ^ k) y in
    let m : (x + 4 ^ suc k * y) % 4 ≡ x % 4 = omega arith in
    let q : (x + 4 ^ suc k * y) / 4 ≡ x / 4 + 4 ^ k * y = omega arith in
    ap₂ (λ (a b : ℕ). (3 - a) * 4 ^ k + rc k b) m q ∙ ap (λ (b : ℕ). (3 - x % 4) * 4 ^ k + b) (rc_low k (x / 4) y)
