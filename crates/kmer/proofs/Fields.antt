-- A word as fields of equal width, and the mask of the low bits of each. Assumes nothing.
use mathlib.Core.Path.{◌≡◌, sym, ap, ◌∙◌}
use Prim.Native.Nat.{ℕ, zero, suc, ◌+◌, ◌-◌, ◌*◌, ◌/◌, ◌%◌, ◌^◌, ◌<◌, ◌≤◌}
use native.Mathlib.Nat.{mod-lt, add_comm, lt_of_lt_of_le}
use lib.Arith.{digits_div, digits_mod}
use lib.Pow.{pow_pos, pow_mono, split, shr-shr, ones_lt}
use lib.Bits.{bit_and, and_block, and_mask}
use Rattle.lemmas.proofs.Numbers.{mod_mod}

-- The b low bits of each of m fields of w bits.
unfoldable pub lows : ℕ → ℕ → ℕ → ℕ
lows b w zero = zero
lows b w (suc m) = lows b w m * 2 ^ w + (2 ^ b - 1)

-- The mask keeps the low bits of the lowest field, and of the others what the mask of those keeps.
pub low_field : (b w y e : ℕ) → b ≤ w → bit_and y (e * 2 ^ w + (2 ^ b - 1)) ≡ bit_and (y / 2 ^ w) e * 2 ^ w + y % 2 ^ b
low_field b w y e h =
    ap (λ (n : ℕ). bit_and n (e * 2 ^ w + (2 ^ b - 1))) (sym (split y w))
    ∙ and_block w (y / 2 ^ w) e (y % 2 ^ w) (2 ^ b - 1) (mod-lt y (pow_pos w)) (lt_of_lt_of_le (ones_lt b) (pow_mono h))
    ∙ ap (λ (n : ℕ). bit_and (y / 2 ^ w) e * 2 ^ w + n) (and_mask (y % 2 ^ w) b ∙ mod_mod y b w h)

pub shift_swap : (y j k : ℕ) → y / 2 ^ j / 2 ^ k ≡ y / 2 ^ k / 2 ^ j
shift_swap y j k = shr-shr y j k ∙ ap (λ (n : ℕ). y / 2 ^ n) (add_comm j k) ∙ sym (shr-shr y k j)

-- 2 * m, one field at a time.
abbrev pub twice : ℕ → ℕ
twice zero = zero
twice (suc m) = suc (suc (twice m))

-- The two lowest fields, and what is above them.
module _ (k a : ℕ) {o₁ o₀ : ℕ} (l₁ : o₁ < 2 ^ k) (l₀ : o₀ < 2 ^ k) where
  pub above_two : ((a * 2 ^ k + o₁) * 2 ^ k + o₀) / 2 ^ (k + k) ≡ a
  above_two =
      sym (shr-shr ((a * 2 ^ k + o₁) * 2 ^ k + o₀) k k)
      ∙ ap (λ (n : ℕ). n / 2 ^ k) (digits_div (a * 2 ^ k + o₁) l₀) ∙ digits_div a l₁

  pub second_of_two : ((a * 2 ^ k + o₁) * 2 ^ k + o₀) / 2 ^ k % 2 ^ k ≡ o₁
  second_of_two = ap (λ (n : ℕ). n % 2 ^ k) (digits_div (a * 2 ^ k + o₁) l₀) ∙ digits_mod a l₁
