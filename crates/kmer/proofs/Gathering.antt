-- The codes of a word's bytes, moved together: a step makes one field of two neighbouring ones. Assumes nothing.
use mathlib.Core.Path.{◌≡◌, refl, sym, ap, ap₂, ◌∙◌}
use Prim.Native.Nat.{ℕ, zero, suc, ◌+◌, ◌*◌, ◌/◌, ◌%◌, ◌^◌, ◌<◌}
use native.Mathlib.Nat.{mod-eq_of_lt, lt_of_lt_of_le, mul_assoc}
use native.Mathlib.Omega.{arith}
use lib.Arith.{digits_div, digits_mod}
use lib.Bits.{bit_and, bit_or, bit_xor, and_zero_r, or_shr, or_mod, or_shifted_r, xor_shr, xor_mod}
use lib.Pow.{pow-add, pow_mono, shr-shr, mod-pow-add, field}
use Rattle.lemmas.proofs.Numbers.{mod_mod, div_is}
use Rattle.dna.specs.Letters.{valid_bits}
use Rattle.kmer.specs.Packing.{valid_packed, bytes_in}
use Rattle.kmer.proofs.Wide.{four}
use Rattle.kmer.proofs.Fields.{lows, low_field, shift_swap, twice, above_two}
use Rattle.kmer.proofs.Bytes.{length_bytes, bytes_cat}
use Rattle.kmer.proofs.Packing.{valid_append, valid_one, valid_lt}

-- The codes of the n low bytes.
abbrev codes_in : ℕ → ℕ → ℕ
codes_in n x = valid_packed (bytes_in n x)

codes_lt : (n x : ℕ) → codes_in n x < 2 ^ (2 * n)
codes_lt n x = rw (length_bytes n x, four n) at (valid_lt (bytes_in n x))

codes_cat : (n d x : ℕ) → codes_in (n + d) x ≡ codes_in n (x / 2 ^ (8 * d)) * 2 ^ (2 * d) + codes_in d x
codes_cat n d x =
    ap valid_packed (bytes_cat n d x) ∙ valid_append (bytes_in n (x / 2 ^ (8 * d))) (bytes_in d x)
    ∙ ap (λ (p : ℕ). codes_in n (x / 2 ^ (8 * d)) * p + codes_in d x) (ap (λ (m : ℕ). 4 ^ m) (length_bytes d x) ∙ four d)

-- m fields of d bytes each, with the codes of those bytes in the low bits.
rows : ℕ → ℕ → ℕ → ℕ
rows d zero x = zero
rows d (suc m) x = rows d m (x / 2 ^ (8 * d)) * 2 ^ (8 * d) + codes_in d x

-- Fields of one byte.
ones_is : (m x : ℕ) → bit_and (bit_xor (x / 2 ^ 2) (x / 2 ^ 1)) (lows 2 8 m) ≡ rows 1 m x
unfolding lows rows valid_bits bytes_in
ones_is zero x = and_zero_r (bit_xor (x / 2 ^ 2) (x / 2 ^ 1))
ones_is (suc m) x =
    let b : ℕ = x % 256 in
    let p : x / 4 % 4 ≡ b / 4 % 4 = omega arith in
    let q : x / 2 % 4 ≡ b / 2 % 4 = omega arith in
    low_field 2 8 (bit_xor (x / 4) (x / 2)) (lows 2 8 m) (omega arith)
    ∙ ap₂ (λ (r c : ℕ). bit_and r (lows 2 8 m) * 256 + c)
    (xor_shr (x / 4) (x / 2) 8 ∙ ap₂ bit_xor (shift_swap x 2 8) (shift_swap x 1 8))
    (xor_mod (x / 4) (x / 2) 2 ∙ ap₂ bit_xor p q ∙ sym (xor_mod (b / 4) (b / 2) 2) ∙ sym (valid_one b))
    ∙ ap (λ (r : ℕ). r * 256 + codes_in 1 x) (ones_is m (x / 256))

-- What a step makes of two neighbouring fields: y has c₁ and c₀ in its lowest two, each below a quarter of the field.
module _ (d A c₁ c₀ : ℕ) (l₁ : c₁ < 2 ^ (2 * d)) (l₀ : c₀ < 2 ^ (2 * d)) (y : ℕ)
    (is : y ≡ (A * 2 ^ (8 * d) + c₁) * 2 ^ (8 * d) + c₀) where
  bottom : y % 2 ^ (8 * d) ≡ c₀
  bottom = rw is (digits_mod (A * 2 ^ (8 * d) + c₁) (lt_of_lt_of_le l₀ (pow_mono (omega arith))))

  second : y / 2 ^ (8 * d) % 2 ^ (2 * d) ≡ c₁
  second =
      let B : ℕ = A * 2 ^ (8 * d) + c₁ in
      ap (λ (n : ℕ). n % 2 ^ (2 * d))
      (ap (λ (n : ℕ). n / 2 ^ (8 * d)) is ∙ digits_div B (lt_of_lt_of_le l₀ (pow_mono (omega arith))))
      ∙ sym (mod_mod B (2 * d) (8 * d) (omega arith))
      ∙ ap (λ (n : ℕ). n % 2 ^ (2 * d)) (digits_mod A (lt_of_lt_of_le l₁ (pow_mono (omega arith)))) ∙ mod-eq_of_lt l₁

  lower : y % 2 ^ (4 * d) ≡ c₀
  lower =
      sym (mod_mod y (4 * d) (8 * d) (omega arith)) ∙ ap (λ (n : ℕ). n % 2 ^ (4 * d)) bottom
      ∙ mod-eq_of_lt (lt_of_lt_of_le l₀ (pow_mono (omega arith)))

  upper : y / 2 ^ (6 * d) % 2 ^ (4 * d) ≡ c₁ * 2 ^ (2 * d)
  upper =
      let e : 4 * d + 6 * d ≡ 2 * d + 8 * d = omega arith in
      let f : 8 * d ≡ 2 * d + 6 * d = omega arith in
      let w : c₁ * 2 ^ (8 * d) ≡ c₁ * 2 ^ (2 * d) * 2 ^ (6 * d) =
      ap (λ (n : ℕ). c₁ * 2 ^ n) f ∙ ap (λ (n : ℕ). c₁ * n) (pow-add 2 (2 * d) (6 * d))
      ∙ sym (mul_assoc c₁ (2 ^ (2 * d)) (2 ^ (6 * d))) in
      sym (field y (4 * d) (6 * d)) ∙ ap (λ (n : ℕ). y % 2 ^ n / 2 ^ (6 * d)) e
      ∙ ap (λ (n : ℕ). n / 2 ^ (6 * d))
      (mod-pow-add y (2 * d) (8 * d) ∙ ap₂ (λ (p q : ℕ). p * 2 ^ (8 * d) + q) second bottom)
      ∙ div_is (c₁ * 2 ^ (8 * d) + c₀) (2 ^ (6 * d)) (c₁ * 2 ^ (2 * d)) c₀ (ap (λ (n : ℕ). n + c₀) w)
      (lt_of_lt_of_le l₀ (pow_mono (omega arith)))

  pair : bit_or y (y / 2 ^ (6 * d)) % 2 ^ (4 * d) ≡ c₁ * 2 ^ (2 * d) + c₀
  pair = or_mod y (y / 2 ^ (6 * d)) (4 * d) ∙ ap₂ bit_or lower upper ∙ or_shifted_r c₁ (2 * d) c₀ l₀

-- What the code computes at a step, with the mask as it stands there.
abbrev pub gather : (mask k t : ℕ) → ℕ
gather mask k t = bit_and (bit_or t (t / 2 ^ k)) mask

-- A step on m pairs of fields of d bytes.
pairs : (d m x : ℕ) → gather (lows (4 * d) (8 * (d + d)) m) (6 * d) (rows d (twice m) x) ≡ rows (d + d) m x
unfolding lows rows
pairs d zero x = and_zero_r (bit_or 0 (0 / 2 ^ (6 * d)))
pairs d (suc m) x =
    let v : ℕ = x / 2 ^ (8 * d) / 2 ^ (8 * d) in
    let c₁ : ℕ = codes_in d (x / 2 ^ (8 * d)) in
    let c₀ : ℕ = codes_in d x in
    let l₁ = codes_lt d (x / 2 ^ (8 * d)) in
    let l₀ = codes_lt d x in
    let A : ℕ = rows d (twice m) v in
    let y : ℕ = (A * 2 ^ (8 * d) + c₁) * 2 ^ (8 * d) + c₀ in
    let W : ℕ = 8 * (d + d) in
    let M : ℕ = lows (4 * d) (8 * (d + d)) m in
    let ww : 8 * d + 8 * d ≡ 8 * (d + d) = omega arith in
    let k₁ : c₁ < 2 ^ (8 * d) = lt_of_lt_of_le l₁ (pow_mono (omega arith)) in
    let k₀ : c₀ < 2 ^ (8 * d) = lt_of_lt_of_le l₀ (pow_mono (omega arith)) in
    let top : y / 2 ^ W ≡ A = ap (λ (n : ℕ). y / 2 ^ n) (sym ww) ∙ above_two (8 * d) A k₁ k₀ in
    low_field (4 * d) W (bit_or y (y / 2 ^ (6 * d))) M (omega arith)
    ∙ ap₂ (λ (p q : ℕ). bit_and p M * 2 ^ W + q)
    (or_shr y (y / 2 ^ (6 * d)) W ∙ ap₂ bit_or top (shift_swap y (6 * d) W ∙ ap (λ (n : ℕ). n / 2 ^ (6 * d)) top))
    (pair d A c₁ c₀ l₁ l₀ y refl ∙ sym (codes_cat d d x))
    ∙ ap (λ (n : ℕ). n * 2 ^ W + codes_in (d + d) x)
    (pairs d m v ∙ ap (rows (d + d) m) (shr-shr x (8 * d) (8 * d) ∙ ap (λ (n : ℕ). x / 2 ^ n) ww))

abbrev pub ones : ℕ → ℕ
ones x = bit_and (bit_xor (x / 2 ^ 2) (x / 2 ^ 1)) 0x0303_0303_0303_0303

abbrev pub fours : ℕ → ℕ
fours x = gather 0x0000_00ff_0000_00ff 12 (gather 0x000f_000f_000f_000f 6 (ones x))

-- Three steps, from fields of one byte to the field of all eight.
pub gathered : (x : ℕ) → gather 0xffff 24 (fours x) ≡ valid_packed (bytes_in 8 x)
unfolding lows rows
gathered x =
    let e₁ : ones x ≡ rows 1 8 x = ones_is 8 x in
    let e₂ = ap (gather 0x000f_000f_000f_000f 6) e₁ ∙ pairs 1 4 x in
    let e₄ = ap (gather 0x0000_00ff_0000_00ff 12) e₂ ∙ pairs 2 2 x in
    ap (gather 0xffff 24) e₄ ∙ pairs 4 1 x ∙ omega arith
