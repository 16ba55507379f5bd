-- A step of the swap network, `((y & e) << k) | ((y >> k) & e)` with e the k low bits of every field of k + k bits,
-- exchanges the halves of each field; two such steps reverse the four base-4 digits of each byte of a word. Assumes
-- nothing.
use mathlib.Core.Path.{◌≡◌, refl, sym, ap, ap₂, ◌∙◌, subst}
use Prim.Native.Nat.{ℕ, zero, suc, ◌+◌, ◌*◌, ◌/◌, ◌%◌, ◌^◌, ◌<◌, ◌≤◌}
use native.Mathlib.Nat.{mod-lt, mod-one, mod-eq_of_lt, add-mul, mul_assoc, mul_comm, zero-mul}
use native.Mathlib.Nat.{lt_of_lt_of_le, lt_of_le_of_lt, le-add_right, mul-le-mul_right}
use native.Mathlib.Omega.{arith}
use lib.Arith.{digits_mod, digits_div}
use lib.Pow.{pow_pos, pow_mono, shr-shr, shl_lt, mod-pow-add}
use lib.Bits.{bit_and, bit_or, and_zero_r, and_le_r, or_block, or_shifted}
use mir.Syntax.{w64}
use Rattle.std.specs.Int.{swap_bytes}
use Rattle.kmer.proofs.Wide.{four}
use Rattle.kmer.proofs.Fields.{lows, low_field, shift_swap, twice, above_two, second_of_two}
use Rattle.kmer.proofs.Turned.{turned, turned_cat, turned_lt, same, same_lt}

-- In each of the m low fields of k + k bits, the two halves exchanged.
unfoldable pub swaps : ℕ → ℕ → ℕ → ℕ
swaps k zero y = zero
swaps k (suc m) y = swaps k m (y / 2 ^ (k + k)) * 2 ^ (k + k) + (y % 2 ^ k * 2 ^ k + y / 2 ^ k % 2 ^ k)

spread : (a p q r : ℕ) → (a * p + r) * q ≡ a * q * p + r * q
spread a p q r =
    add-mul (a * p) r q
    ∙ ap (λ (n : ℕ). n + r * q) (mul_assoc a p q ∙ ap (λ (n : ℕ). a * n) (mul_comm p q) ∙ sym (mul_assoc a q p))

-- A step exchanges the halves of each field.
swap_is : (k m y : ℕ) →
    bit_or (bit_and y (lows k (k + k) m) * 2 ^ k) (bit_and (y / 2 ^ k) (lows k (k + k) m)) ≡ swaps k m y
unfolding lows swaps
swap_is k zero y =
    ap₂ (λ (p q : ℕ). bit_or (p * 2 ^ k) q) (and_zero_r y) (and_zero_r (y / 2 ^ k)) ∙ ap (λ (p : ℕ). bit_or p 0) (zero-mul (2 ^ k))
swap_is k (suc m) y =
    let e : ℕ = lows k (k + k) m in
    let a : ℕ = bit_and (y / 2 ^ (k + k)) e in
    let hi : y % 2 ^ k * 2 ^ k < 2 ^ (k + k) = shl_lt k k (mod-lt y (pow_pos k)) in
    let half : k ≤ k + k = le-add_right k k in
    let lo : y / 2 ^ k % 2 ^ k < 2 ^ (k + k) = lt_of_lt_of_le (mod-lt (y / 2 ^ k) (pow_pos k)) (pow_mono half) in
    ap₂ (λ (p q : ℕ). bit_or (p * 2 ^ k) q) (low_field k (k + k) y e half) (low_field k (k + k) (y / 2 ^ k) e half)
    ∙ ap (λ (p : ℕ). bit_or p (bit_and (y / 2 ^ k / 2 ^ (k + k)) e * 2 ^ (k + k) + y / 2 ^ k % 2 ^ k))
    (spread a (2 ^ (k + k)) (2 ^ k) (y % 2 ^ k))
    ∙ or_block (k + k) (a * 2 ^ k) (bit_and (y / 2 ^ k / 2 ^ (k + k)) e) (y % 2 ^ k * 2 ^ k) (y / 2 ^ k % 2 ^ k) hi lo
    ∙ ap₂ (λ (p q : ℕ). bit_or (a * 2 ^ k) (bit_and p e) * 2 ^ (k + k) + q) (shift_swap y k (k + k))
    (or_shifted (y % 2 ^ k) k (y / 2 ^ k % 2 ^ k) (mod-lt (y / 2 ^ k) (pow_pos k)))
    ∙ ap (λ (p : ℕ). p * 2 ^ (k + k) + (y % 2 ^ k * 2 ^ k + y / 2 ^ k % 2 ^ k)) (swap_is k m (y / 2 ^ (k + k)))

-- What the code computes at a step, with the mask as it stands there.
abbrev pub step : (mask k y : ℕ) → ℕ
step mask k y = bit_or ((bit_and y mask * 2 ^ k) % 2 ^ 64) (bit_and (y / 2 ^ k) mask)

-- Where the mask leaves room for the shift, this exchanges the halves of each field.
pub step_is : (mask k m y : ℕ) → mask ≡ lows k (k + k) m → mask * 2 ^ k < 2 ^ 64 → step mask k y ≡ swaps k m y
step_is mask k m y e h =
    ap (λ (p : ℕ). bit_or p (bit_and (y / 2 ^ k) mask)) (mod-eq_of_lt (lt_of_le_of_lt (mul-le-mul_right (2 ^ k) (and_le_r y mask)) h))
    ∙ ap (λ (n : ℕ). bit_or (bit_and y n * 2 ^ k) (bit_and (y / 2 ^ k) n)) e ∙ swap_is k m y

-- ---- fields of d digits, each turned round

-- In each of the m low fields of d digits, the digits in reverse order.
unfoldable pub flips : ℕ → ℕ → ℕ → ℕ
flips d zero x = zero
flips d (suc m) x = flips d m (x / 2 ^ (d + d)) * 2 ^ (d + d) + turned same d x

four_double : (d : ℕ) → 4 ^ d ≡ 2 ^ (d + d)
four_double d = four d ∙ ap (λ (n : ℕ). 2 ^ n) (omega arith)

turned_below : (d x : ℕ) → turned same d x < 2 ^ (d + d)
turned_below d x = subst (λ (n : ℕ). turned same d x < n) (four_double d) (turned_lt same same_lt d x)

-- Fields of one digit are what they are.
flips_one : (m x : ℕ) → flips 1 m x ≡ x % 2 ^ (m + m)
unfolding flips turned
flips_one zero x = sym (mod-one x)
flips_one (suc m) x =
    let e : suc m + suc m ≡ (m + m) + 2 = omega arith in
    ap (λ (p : ℕ). p * 2 ^ 2 + (x % 4 * 1 + 0)) (flips_one m (x / 2 ^ 2))
    ∙ omega (arith, mod-pow-add x (m + m) 2, ap (λ (n : ℕ). x % 2 ^ n) e)

-- Two neighbouring fields, each turned round, and then exchanged: the field of both, turned round.
swaps_flips : (d m x : ℕ) → swaps (d + d) m (flips d (twice m) x) ≡ flips (d + d) m x
unfolding swaps flips
swaps_flips d zero x = refl
swaps_flips d (suc m) x =
    let k : ℕ = d + d in
    let a : ℕ = flips d (twice m) (x / 2 ^ k / 2 ^ k) in
    let o₁ : ℕ = turned same d (x / 2 ^ k) in
    let o₀ : ℕ = turned same d x in
    let l₁ : o₁ < 2 ^ k = turned_below d (x / 2 ^ k) in
    let l₀ : o₀ < 2 ^ k = turned_below d x in
    let low : ((a * 2 ^ k + o₁) * 2 ^ k + o₀) % 2 ^ k ≡ o₀ = digits_mod (a * 2 ^ k + o₁) l₀ in
    (λ i. swaps k m (above_two k a l₁ l₀ i) * 2 ^ (k + k) + (low i * 2 ^ k + second_of_two k a l₁ l₀ i))
    ∙ ap (λ (n : ℕ). n * 2 ^ (k + k) + (o₀ * 2 ^ k + o₁))
    (swaps_flips d m (x / 2 ^ k / 2 ^ k) ∙ ap (λ (n : ℕ). flips k m n) (shr-shr x k k))
    ∙ ap (λ (n : ℕ). flips k m (x / 2 ^ (k + k)) * 2 ^ (k + k) + n)
    (sym (turned_cat same d d x ∙ ap₂ (λ (p q : ℕ). o₀ * p + turned same d (x / q)) (four_double d) (four_double d)))

-- So two steps, from fields of one digit to fields of four: each byte is turned round.
pub flipped : (x : ℕ) → x < 2 ^ 64 → swaps 4 8 (swaps 2 16 x) ≡ flips 4 8 x
unfolding flips
flipped x h =
    let s : swaps 2 16 x ≡ flips 2 16 x =
    ap (swaps 2 16) (sym (flips_one 32 x ∙ mod-eq_of_lt h)) ∙ swaps_flips 1 16 x in
    ap (swaps 4 8) s ∙ swaps_flips 2 8 x

-- ---- bytes in reverse order

-- The n low bytes, the lowest first.
turns : ℕ → ℕ → ℕ
turns zero y = 0
turns (suc n) y = y % 2 ^ 8 * 2 ^ (8 * n) + turns n (y / 2 ^ 8)

turns_bytes : (y : ℕ) → swap_bytes w64 y ≡ turns 8 y
unfolding turns
turns_bytes y = omega arith

-- Bytes that are each turned round, and then turned round together: all digits are.
turns_flips : (m x : ℕ) → turns m (flips 4 m x) ≡ turned same (4 * m) x
unfolding turns flips turned
turns_flips zero x = refl
turns_flips (suc m) x =
    let t : turned same 4 x < 2 ^ 8 = turned_below 4 x in
    let e : 4 * suc m ≡ 4 + 4 * m = omega arith in
    let p : 2 ^ (8 * m) ≡ 4 ^ (4 * m) = sym (four (4 * m) ∙ ap (λ (n : ℕ). 2 ^ n) (omega arith)) in
    ap₂ (λ (a b : ℕ). a * 2 ^ (8 * m) + turns m b)
    (digits_mod (flips 4 m (x / 2 ^ 8)) t) (digits_div (flips 4 m (x / 2 ^ 8)) t)
    ∙ ap₂ (λ (a b : ℕ). turned same 4 x * a + b) p (turns_flips m (x / 2 ^ 8))
    ∙ sym (ap (λ (n : ℕ). turned same n x) e ∙ turned_cat same 4 (4 * m) x)

-- Turning round the bytes of a word whose bytes are turned round turns the word round.
pub bytes_flipped : (x : ℕ) → swap_bytes w64 (flips 4 8 x) ≡ turned same 32 x
bytes_flipped x = turns_bytes (flips 4 8 x) ∙ turns_flips 8 x
