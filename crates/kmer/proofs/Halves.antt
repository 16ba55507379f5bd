-- The reverse complement of two words from those of each: moved down by the bits that K leaves free. Assumes nothing.
use mathlib.Core.Path.{◌≡◌, sym, ap, ap₂, ◌∙◌, subst}
use mathlib.Core.List.{[], ◌∷◌}
use Prim.Native.Nat.{ℕ, ◌+◌, ◌-◌, ◌*◌, ◌/◌, ◌%◌, ◌^◌, ◌<◌, ◌≤◌}
use native.Mathlib.Nat.{add-mul, mul_assoc, mul_comm, mod-lt, mul-lt-mul_of_pos_right, lt_of_le_of_lt, div-le_self}
use native.Mathlib.Omega.{arith}
use lib.Arith.{digits_lt}
use lib.Pow.{pow_pos, pow-add, shr_lt, split}
use lib.Bits.{bit_or, or_shifted_r}
use Rattle.lemmas.proofs.Numbers.{mod_is, div_is}
use Rattle.kmer.specs.Kmer.{rc, joined}
use Rattle.kmer.specs.Says.{kmer_of}
use Rattle.kmer.proofs.Wide.{four, two_words, high_of}
use Rattle.kmer.proofs.Turned.{rc_cat, rc_lt, rc_short, rc_low}

-- K up to 32: the low word alone.
pub halves_one : (k lo hi : ℕ) → k ≤ 32 → kmer_of (rc k (joined lo hi)) ≡ record { words = rc 32 lo / 2 ^ (64 - 2 * k) ∷ 0 ∷ [] }
halves_one k lo hi h =
    let e : k + (32 - k) ≡ 32 = omega arith in
    let f : 2 * (32 - k) ≡ 64 - 2 * k = omega arith in
    let r : rc k (joined lo hi) ≡ rc 32 lo / 2 ^ (64 - 2 * k) =
    sym (rc_short k (32 - k) (joined lo hi)) ∙ ap₂ (λ (a b : ℕ). rc a (joined lo hi) / b) e (four (32 - k) ∙ ap (λ (n : ℕ). 2 ^ n) f)
    ∙ ap (λ (a : ℕ). a / 2 ^ (64 - 2 * k)) (rc_low 32 lo hi) in
    two_words _ (rc 32 lo / 2 ^ (64 - 2 * k)) 0 (r ∙ omega arith) (lt_of_le_of_lt (div-le_self (rc 32 lo) (2 ^ (64 - 2 * k))) (rc_lt 32 lo))

-- ---- two words moved down by s bits

-- The two words a₁ * P + a₀ and c₁ * P + c₀, one above the other, as a multiple of P and a rest; a word has W = R * P
-- values.
parts : (a₁ a₀ c₁ c₀ P R W : ℕ) → R * P ≡ W → (a₁ * P + a₀) * W + (c₁ * P + c₀) ≡ ((a₀ * R + c₁) + a₁ * W) * P + c₀
parts a₁ a₀ c₁ c₀ P R W e =
    let l : (a₁ * P + a₀) * W ≡ a₁ * P * W + a₀ * W = add-mul (a₁ * P) a₀ W in
    let m : ((a₀ * R + c₁) + a₁ * W) * P ≡ (a₀ * R + c₁) * P + a₁ * W * P = add-mul (a₀ * R + c₁) (a₁ * W) P in
    let n : (a₀ * R + c₁) * P ≡ a₀ * R * P + c₁ * P = add-mul (a₀ * R) c₁ P in
    let o : a₀ * R * P ≡ a₀ * W = mul_assoc a₀ R P ∙ ap (λ (x : ℕ). a₀ * x) e in
    let p : a₁ * P * W ≡ a₁ * W * P = mul_assoc a₁ P W ∙ ap (λ (x : ℕ). a₁ * x) (mul_comm P W) ∙ sym (mul_assoc a₁ W P) in
    omega arith

module _ (s hi lo : ℕ) (hs : s ≤ 64) (hl : lo < 2 ^ 64) where
  whole : (64 - s) + s ≡ 64
  whole = omega arith

  width : 2 ^ (64 - s) * 2 ^ s ≡ 2 ^ 64
  width = sym (pow-add 2 (64 - s) s) ∙ ap (λ (n : ℕ). 2 ^ n) whole

  -- The high word's s low bits come in above what is left of the low word.
  pub moved : joined lo hi / 2 ^ s ≡ (hi % 2 ^ s * 2 ^ (64 - s) + lo / 2 ^ s) + hi / 2 ^ s * 2 ^ 64
  moved =
      let e : joined lo hi ≡ hi * 2 ^ 64 + lo = omega arith in
      div_is (joined lo hi) (2 ^ s) ((hi % 2 ^ s * 2 ^ (64 - s) + lo / 2 ^ s) + hi / 2 ^ s * 2 ^ 64) (lo % 2 ^ s)
      (e ∙ sym (ap₂ (λ (x y : ℕ). x * 2 ^ 64 + y) (split hi s) (split lo s))
      ∙ parts (hi / 2 ^ s) (hi % 2 ^ s) (lo / 2 ^ s) (lo % 2 ^ s) (2 ^ s) (2 ^ (64 - s)) (2 ^ 64) width)
      (mod-lt lo (pow_pos s))

  -- They are all that is left of the high word once it is moved up.
  top_bits : (hi * 2 ^ (64 - s)) % 2 ^ 64 ≡ hi % 2 ^ s * 2 ^ (64 - s)
  top_bits =
      mod_is (hi * 2 ^ (64 - s)) (2 ^ 64) (hi / 2 ^ s) (hi % 2 ^ s * 2 ^ (64 - s))
      (ap (λ (x : ℕ). x * 2 ^ (64 - s)) (sym (split hi s)) ∙ add-mul (hi / 2 ^ s * 2 ^ s) (hi % 2 ^ s) (2 ^ (64 - s))
      ∙ ap (λ (x : ℕ). x + hi % 2 ^ s * 2 ^ (64 - s))
      (mul_assoc (hi / 2 ^ s) (2 ^ s) (2 ^ (64 - s)) ∙ ap (λ (x : ℕ). hi / 2 ^ s * x) (mul_comm (2 ^ s) (2 ^ (64 - s)) ∙ width)))
      (subst (λ (n : ℕ). hi % 2 ^ s * 2 ^ (64 - s) < n) (mul_comm (2 ^ s) (2 ^ (64 - s)) ∙ width)
      (mul-lt-mul_of_pos_right (mod-lt hi (pow_pos s)) (pow_pos (64 - s))))

  low_bits : lo / 2 ^ s < 2 ^ (64 - s)
  low_bits = shr_lt (64 - s) s (subst (λ (n : ℕ). lo < 2 ^ n) (sym whole) hl)

  -- So this is the low word, as the code puts it together.
  pub low_word : bit_or (lo / 2 ^ s) ((hi * 2 ^ (64 - s)) % 2 ^ 64) ≡ hi % 2 ^ s * 2 ^ (64 - s) + lo / 2 ^ s
  low_word = ap (bit_or (lo / 2 ^ s)) top_bits ∙ or_shifted_r (hi % 2 ^ s) (64 - s) (lo / 2 ^ s) low_bits

  pub low_room : hi % 2 ^ s * 2 ^ (64 - s) + lo / 2 ^ s < 2 ^ 64
  low_room =
      subst (λ (n : ℕ). hi % 2 ^ s * 2 ^ (64 - s) + lo / 2 ^ s < n) (mul_comm (2 ^ s) (2 ^ (64 - s)) ∙ width)
      (digits_lt (mod-lt hi (pow_pos s)) low_bits)

-- K above 32: both words.
pub halves_two : (k lo hi : ℕ) → 32 < k → k ≤ 63 → lo < 2 ^ 64 →
    kmer_of (rc k (joined lo hi))
    ≡ record { words = bit_or (rc 32 hi / 2 ^ (128 - 2 * k)) ((rc 32 lo * 2 ^ (64 - (128 - 2 * k))) % 2 ^ 64) ∷ rc 32 lo / 2 ^ (128 - 2 * k) ∷ [] }
halves_two k lo hi h l hl =
    let s : ℕ = 128 - 2 * k in
    let hs : 128 - 2 * k ≤ 64 = omega arith in
    let e : k + (64 - k) ≡ 64 = omega arith in
    let f : 2 * (64 - k) ≡ 128 - 2 * k = omega arith in
    let q : joined lo hi / 4 ^ 32 ≡ hi = high_of lo hi hl in
    let w : rc 64 (joined lo hi) ≡ joined (rc 32 hi) (rc 32 lo) =
    rc_cat 32 32 (joined lo hi) ∙ ap₂ (λ (a b : ℕ). a * 2 ^ 64 + rc 32 b) (rc_low 32 lo hi) q ∙ omega arith in
    let r : rc k (joined lo hi) ≡ joined (rc 32 hi) (rc 32 lo) / 2 ^ s =
    sym (rc_short k (64 - k) (joined lo hi)) ∙ ap₂ (λ (a b : ℕ). rc a (joined lo hi) / b) e (four (64 - k) ∙ ap (λ (n : ℕ). 2 ^ n) f)
    ∙ ap (λ (a : ℕ). a / 2 ^ s) w in
    two_words _ _ (rc 32 lo / 2 ^ s)
    (r ∙ moved s (rc 32 lo) (rc 32 hi) hs (rc_lt 32 hi)
    ∙ ap (λ (x : ℕ). (rc 32 lo % 2 ^ s * 2 ^ (64 - s) + rc 32 hi / 2 ^ s) + x) (mul_comm (rc 32 lo / 2 ^ s) (2 ^ 64)))
    (low_room s (rc 32 lo) (rc 32 hi) hs (rc_lt 32 hi))
    ∙ ap (λ (x : ℕ). record { words = x ∷ rc 32 lo / 2 ^ s ∷ [] }) (sym (low_word s (rc 32 lo) (rc 32 hi) hs (rc_lt 32 hi)))
