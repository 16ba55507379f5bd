-- A field of b bits from bit s on, in a word n of N bits: what shifts and masks read there, and the word in which
-- they put one more there. Assumes nothing.
use mathlib.Core.Path.{◌≡◌, sym, ap, ap₂, ◌∙◌, subst}
use Prim.Native.Nat.{ℕ, ◌+◌, ◌-◌, ◌*◌, ◌/◌, ◌%◌, ◌^◌, ◌<◌, ◌≤◌}
use native.Mathlib.Nat.{add-mul, add-zero, one-mul, mod-lt, mod-eq_of_lt}
use native.Mathlib.Omega.{arith}
use lib.Pow.{pow_pos, shl_exact, shl-shr, shr_lt, split, high_ones, ones_lt, ones_split}
use lib.Bits.{bit_and, bit_or, and_mask, and_high, and_block, or_block, or_shifted, or_zero_r}

-- The complement of a mask, with r bits above the field: those bits, and the bits below.
hole : (r b s : ℕ) → (2 ^ (r + b + s) - 1) - (2 ^ b - 1) * 2 ^ s ≡ (2 ^ (r + b) - 2 ^ b) * 2 ^ s + (2 ^ s - 1)
hole r b s =
    rw (ones_split (r + b) s, ones_split r b, high_ones r b)
    (omega (arith, add-mul ((2 ^ r - 1) * 2 ^ b) (2 ^ b - 1) (2 ^ s)))

module _ (N b s n : ℕ) (room : b + s ≤ N) (fits : n < 2 ^ N) where
  -- A field's value, shifted to its place, is not cut.
  placed : (d : ℕ) → d < 2 ^ b → (d * 2 ^ s) % 2 ^ N ≡ d * 2 ^ s
  placed d h = shl_exact b s N h room

  mask_is : ((2 ^ b - 1) * 2 ^ s) % 2 ^ N ≡ (2 ^ b - 1) * 2 ^ s
  mask_is = placed (2 ^ b - 1) (ones_lt b)

  -- (n & mask) >> s
  pub masked : bit_and n (((2 ^ b - 1) * 2 ^ s) % 2 ^ N) / 2 ^ s ≡ n / 2 ^ s % 2 ^ b
  masked = rw (mask_is, ← high_ones b s, and_high n b s) (shl-shr (n / 2 ^ s % 2 ^ b) s)

  -- n & !mask
  cleared : bit_and n ((2 ^ N - 1) - ((2 ^ b - 1) * 2 ^ s) % 2 ^ N) ≡ n / 2 ^ s / 2 ^ b * 2 ^ b * 2 ^ s + n % 2 ^ s
  cleared =
      let r = N - (b + s) in
      let all : N ≡ N - (b + s) + b + s = omega arith in
      let above : n / 2 ^ s / 2 ^ b < 2 ^ r = shr_lt r b (shr_lt (r + b) s (subst (λ (m : ℕ). n < 2 ^ m) all fits)) in
      ap₂ bit_and (sym (split n s))
      (ap (λ (m : ℕ). (2 ^ N - 1) - m) mask_is ∙ ap (λ (m : ℕ). (2 ^ m - 1) - (2 ^ b - 1) * 2 ^ s) all ∙ hole r b s)
      ∙ and_block s (n / 2 ^ s) (2 ^ (r + b) - 2 ^ b) (n % 2 ^ s) (2 ^ s - 1) (mod-lt n (pow_pos s)) (ones_lt s)
      ∙ ap₂ (λ (x y : ℕ). x * 2 ^ s + y)
      (and_high (n / 2 ^ s) r b ∙ ap (λ (x : ℕ). x * 2 ^ b) (mod-eq_of_lt above))
      (and_mask (n % 2 ^ s) s ∙ mod-eq_of_lt (mod-lt n (pow_pos s)))

  -- The cleared word with d in the field.
  filled :
      (d : ℕ) → d < 2 ^ b →
      bit_or (n / 2 ^ s / 2 ^ b * 2 ^ b * 2 ^ s + n % 2 ^ s) ((d * 2 ^ s) % 2 ^ N)
      ≡ (n / 2 ^ s / 2 ^ b * 2 ^ b + d) * 2 ^ s + n % 2 ^ s
  filled d h =
      ap (bit_or (n / 2 ^ s / 2 ^ b * 2 ^ b * 2 ^ s + n % 2 ^ s)) (placed d h ∙ sym (add-zero (d * 2 ^ s)))
      ∙ or_block s (n / 2 ^ s / 2 ^ b * 2 ^ b) d (n % 2 ^ s) 0 (mod-lt n (pow_pos s)) (pow_pos s)
      ∙ ap₂ (λ (x y : ℕ). x * 2 ^ s + y) (or_shifted (n / 2 ^ s / 2 ^ b) b d h) (or_zero_r (n % 2 ^ s))

  -- (n & !mask) | ((field + 1) << s), where the field is not full
  pub one_more_lem :
      n / 2 ^ s % 2 ^ b < 2 ^ b - 1 →
      bit_or (bit_and n ((2 ^ N - 1) - ((2 ^ b - 1) * 2 ^ s) % 2 ^ N)) (((n / 2 ^ s % 2 ^ b + 1) * 2 ^ s) % 2 ^ N)
      ≡ n + 2 ^ s
  one_more_lem h =
      let q = n / 2 ^ s in
      let next : q / 2 ^ b * 2 ^ b + (q % 2 ^ b + 1) ≡ q + 1 = omega (arith, split q b) in
      ap (λ (x : ℕ). bit_or x (((q % 2 ^ b + 1) * 2 ^ s) % 2 ^ N)) cleared
      ∙ filled (q % 2 ^ b + 1) (omega arith)
      ∙ ap (λ (x : ℕ). x * 2 ^ s + n % 2 ^ s) next
      ∙ omega (arith, split n s, add-mul q 1 (2 ^ s), one-mul (2 ^ s))
