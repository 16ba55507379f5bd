-- Shifts and masks that move a base into or out of a word, as sums, quotients and remainders. Assumes nothing.
use mathlib.Core.Path.{◌≡◌, sym, ap, ap₂, ◌∙◌}
use mathlib.Core.List.{[], ◌∷◌}
use Prim.Native.Nat.{ℕ, ◌+◌, ◌-◌, ◌*◌, ◌/◌, ◌%◌, ◌^◌, ◌<◌, ◌≤◌}
use native.Mathlib.Nat.{mod-lt, mod-le, lt_of_le_of_lt, lt_of_lt_of_le, mul_assoc}
use native.Mathlib.Omega.{arith}
use lib.Arith.{digits_lt}
use lib.Bits.{bit_and, bit_or, or_shifted, or_shifted_r, and_mask}
use lib.Pow.{pow-add, pow_pos, pow_mono, pow-lt, shl_exact}
use Rattle.lemmas.proofs.Numbers.{mod_is, div_is, mod_mod}
use Rattle.kmer.specs.Kmer.{joined, forward, backward}
use Rattle.kmer.specs.Bits.{low_bits, high_bits}
use Rattle.kmer.specs.Says.{kmer_of}
use Rattle.kmer.proofs.Wide.{four, masked, two_words}

-- A bit of a word.
pub one_shl : (n : ℕ) → n < 64 → (1 * 2 ^ n) % 2 ^ 64 ≡ 2 ^ n
one_shl n h = mod_is (1 * 2 ^ n) (2 ^ 64) 0 (2 ^ n) (omega arith) (pow-lt h)

-- A word up a base: its top base is lost.
up_low : (w b : ℕ) → b < 4 → (4 * w + b) % 2 ^ 64 ≡ 4 * (w % 2 ^ 62) + b
up_low w b h = mod_is (4 * w + b) (2 ^ 64) (w / 2 ^ 62) (4 * (w % 2 ^ 62) + b) (omega arith) (omega arith)

-- One base in at the bottom of a word.
pub push_low : (w b : ℕ) → b < 4 → bit_or ((w * 2 ^ 2) % 2 ^ 64) b ≡ (4 * w + b) % 2 ^ 64
push_low w b h =
    let e : (w * 2 ^ 2) % 2 ^ 64 ≡ (w % 2 ^ 62) * 2 ^ 2 =
    mod_is (w * 2 ^ 2) (2 ^ 64) (w / 2 ^ 62) ((w % 2 ^ 62) * 2 ^ 2) (omega arith) (omega arith) in
    ap (λ (x : ℕ). bit_or x b) e ∙ or_shifted (w % 2 ^ 62) 2 b h ∙ omega (arith, up_low w b h)

-- The last base of the word above in at the top of a word.
pub push_high : (w a : ℕ) → w < 2 ^ 64 → bit_or ((a * 2 ^ 62) % 2 ^ 64) (w / 2 ^ 2) ≡ a % 4 * 2 ^ 62 + w / 4
push_high w a l =
    let e : (a * 2 ^ 62) % 2 ^ 64 ≡ a % 4 * 2 ^ 62 = mod_is (a * 2 ^ 62) (2 ^ 64) (a / 4) (a % 4 * 2 ^ 62) (omega arith) (omega arith) in
    ap (λ (x : ℕ). bit_or x (w / 2 ^ 2)) e ∙ or_shifted (a % 4) 62 (w / 2 ^ 2) (omega arith)

-- ---- both words

-- Both words up a base, where nothing is cut off.
pub up : (lo hi b : ℕ) → b < 4 → 4 * joined lo hi + b ≡ joined ((4 * lo + b) % 2 ^ 64) (4 * hi + lo / 2 ^ 62)
up lo hi b h = let e = up_low lo b h in omega arith

-- Eight bases in at the bottom of both words, where the high word has room.
pub up_eight : (lo hi c : ℕ) → lo < 2 ^ 64 → hi < 2 ^ 48 → c < 2 ^ 16 →
    joined (bit_or ((lo * 2 ^ 16) % 2 ^ 64) c) (bit_or ((hi * 2 ^ 16) % 2 ^ 64) (lo / 2 ^ 48)) ≡ joined lo hi * 2 ^ 16 + c
up_eight lo hi c l h k =
    let e : (lo * 2 ^ 16) % 2 ^ 64 ≡ lo % 2 ^ 48 * 2 ^ 16 =
    mod_is (lo * 2 ^ 16) (2 ^ 64) (lo / 2 ^ 48) (lo % 2 ^ 48 * 2 ^ 16) (omega arith) (omega arith) in
    let f : (hi * 2 ^ 16) % 2 ^ 64 ≡ hi * 2 ^ 16 = shl_exact 48 16 64 h (omega arith) in
    ap₂ joined (ap (λ (x : ℕ). bit_or x c) e ∙ or_shifted (lo % 2 ^ 48) 16 c k)
    (ap (λ (x : ℕ). bit_or x (lo / 2 ^ 48)) f ∙ or_shifted hi 16 (lo / 2 ^ 48) (omega arith))
    ∙ omega arith

-- Both words down a base.
down : (lo hi : ℕ) → lo < 2 ^ 64 → joined lo hi / 4 ≡ joined (hi % 4 * 2 ^ 62 + lo / 4) (hi / 4)
down lo hi h = div_is (joined lo hi) 4 (joined (hi % 4 * 2 ^ 62 + lo / 4) (hi / 4)) (lo % 4) (omega arith) (omega arith)

-- The top base of the low word is carried into the high word, and both are cut to 2 * k bits.
pub rolled_up : (k lo hi b : ℕ) → k ≤ 63 → lo < 2 ^ 64 → b < 4 →
    kmer_of (forward k (joined lo hi) b)
    ≡ record {
      words =
          bit_and ((4 * lo + b) % 2 ^ 64) (2 ^ low_bits k - 1)
          ∷ bit_and ((4 * hi + lo / 2 ^ 62) % 2 ^ 64) (2 ^ high_bits k - 1)
          ∷ [];
    }
unfolding forward
rolled_up k lo hi b hk h l =
    let w : ℕ = (4 * lo + b) % 2 ^ 64 in
    let v : ℕ = 4 * hi + lo / 2 ^ 62 in
    let room : (4 * lo + b) % 2 ^ 64 < 2 ^ 64 = mod-lt (4 * lo + b) (pow_pos 64) in
    two_words _ _ _ (ap (λ (x : ℕ). x % 4 ^ k) (up lo hi b l) ∙ masked k w v room)
    (lt_of_le_of_lt (mod-le w (2 ^ low_bits k)) room)
    ∙ ap₂ (λ (x y : ℕ). record { words = x ∷ y ∷ [] }) (sym (and_mask w (low_bits k)))
    (sym (and_mask (v % 2 ^ 64) (high_bits k) ∙ mod_mod v (high_bits k) 64 (omega arith)))

-- A base moved up in a word that has room for it.
shl_in : (b s : ℕ) → b < 4 → s ≤ 62 → (b * 2 ^ s) % 2 ^ 64 ≡ b * 2 ^ s
shl_in b s h l = shl_exact 2 s 64 h (omega arith)

-- The new base goes into the low word.
pub rolled_down_low : (k lo hi b : ℕ) → lo < 2 ^ 64 → b < 4 → 2 * (k - 1) < 64 → 1 ≤ k → joined lo hi < 4 ^ k →
    kmer_of (backward k (joined lo hi) b)
    ≡ record { words = bit_or (hi % 4 * 2 ^ 62 + lo / 4) ((b * 2 ^ (2 * (k - 1))) % 2 ^ 64) ∷ hi / 4 ∷ [] }
unfolding backward
rolled_down_low k lo hi b h l s one n =
    let j : ℕ = 2 * (k - 1) in
    let rest : ℕ = hi % 4 * 2 ^ 62 + lo / 4 in
    let bits : 2 * k ≡ j + 2 = omega arith in
    let whole : 4 ^ k ≡ 2 ^ j * 2 ^ 2 = four k ∙ ap (λ (x : ℕ). 2 ^ x) bits ∙ pow-add 2 j 2 in
    let top : 2 ^ j ≤ 2 ^ 62 = pow_mono {i = j} {j = 62} (omega arith) in
    let low : rest < 2 ^ j = omega (arith, whole) in
    let put : bit_or rest ((b * 2 ^ j) % 2 ^ 64) ≡ b * 2 ^ j + rest =
    ap (bit_or rest) (shl_in b j l (omega arith)) ∙ or_shifted_r b j rest low in
    let room : b * 2 ^ j + rest < 2 ^ 64 = lt_of_lt_of_le (digits_lt l low) (omega arith) in
    ap kmer_of (ap₂ (λ (x y : ℕ). b * x + y) (four (k - 1)) (down lo hi h))
    ∙ two_words _ (b * 2 ^ j + rest) (hi / 4) (omega arith) room
    ∙ ap (λ (x : ℕ). record { words = x ∷ hi / 4 ∷ [] }) (sym put)

-- The new base goes into the high word.
pub rolled_down_high : (k lo hi b : ℕ) → lo < 2 ^ 64 → b < 4 → 64 ≤ 2 * (k - 1) → k ≤ 63 → joined lo hi < 4 ^ k →
    kmer_of (backward k (joined lo hi) b)
    ≡ record { words = (hi % 4 * 2 ^ 62 + lo / 4) ∷ bit_or (hi / 4) ((b * 2 ^ (2 * (k - 1) - 64)) % 2 ^ 64) ∷ [] }
unfolding backward
rolled_down_high k lo hi b h l s top n =
    let j : ℕ = 2 * (k - 1) - 64 in
    let rest : ℕ = hi % 4 * 2 ^ 62 + lo / 4 in
    let bits : 2 * k ≡ j + 66 = omega arith in
    let shift : 2 * (k - 1) ≡ j + 64 = omega arith in
    let whole : 4 ^ k ≡ 2 ^ j * 2 ^ 66 = four k ∙ ap (λ (x : ℕ). 2 ^ x) bits ∙ pow-add 2 j 66 in
    let unit : 4 ^ (k - 1) ≡ 2 ^ j * 2 ^ 64 = four (k - 1) ∙ ap (λ (x : ℕ). 2 ^ x) shift ∙ pow-add 2 j 64 in
    let high : hi / 4 < 2 ^ j = omega (arith, whole) in
    let put : bit_or (hi / 4) ((b * 2 ^ j) % 2 ^ 64) ≡ b * 2 ^ j + hi / 4 =
    ap (bit_or (hi / 4)) (shl_in b j l (omega arith)) ∙ or_shifted_r b j (hi / 4) high in
    ap kmer_of (ap₂ (λ (x y : ℕ). b * x + y) unit (down lo hi h))
    ∙ two_words _ rest (b * 2 ^ j + hi / 4) (omega (arith, mul_assoc b (2 ^ j) (2 ^ 64))) (omega arith)
    ∙ ap (λ (x : ℕ). record { words = rest ∷ x ∷ [] }) (sym put)
