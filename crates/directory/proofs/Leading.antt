-- The b bases of a number in two words that have s bits behind them, by the words. Assumes nothing.
use mathlib.Core.Path.{◌≡◌, sym, ap, ◌∙◌}
use Prim.Native.Nat.{ℕ, ◌+◌, ◌-◌, ◌*◌, ◌/◌, ◌%◌, ◌^◌, ◌<◌, ◌≤◌}
use native.Mathlib.Nat.{mod-lt, div-one, div-eq_of_lt, zero-mod, lt_of_lt_of_le}
use native.Mathlib.Omega.{arith}
use lib.Arith.{digits_lt}
use lib.Bits.{bit_and, bit_or, and_mask}
use lib.Pow.{pow_mono, shr-shr}
use Rattle.lemmas.proofs.Numbers.{mod_is, mod_mod}
use Rattle.kmer.specs.Kmer.{joined}
use Rattle.kmer.proofs.Wide.{four, four_pos, low_of, high_of}
use Rattle.kmer.proofs.Moves.{one_shl}
use Rattle.kmer.proofs.Halves.{moved, low_word, low_room}
use Rattle.directory.specs.Directory.{slot_of}

pub last_is : (w b : ℕ) → b ≤ 7 → bit_and w ((1 * 2 ^ (2 * b)) % 2 ^ 64 - 1) ≡ w % 4 ^ b
last_is w b h = rw (one_shl (2 * b) (omega arith), four b) (and_mask w (2 * b))

-- A number's last bases are those of what it is beyond a multiple of 2 to the 64.
cut : (n m b : ℕ) → b ≤ 7 → n % 2 ^ 64 ≡ m → m % 4 ^ b ≡ n % 4 ^ b
cut n m b h e = rw (four b) (ap (λ (x : ℕ). x % 2 ^ (2 * b)) (sym e) ∙ mod_mod n (2 * b) 64 (omega arith))

module _ (b lo hi : ℕ) (h : b ≤ 7) (l : lo < 2 ^ 64) where
  pub before_none : lo % 4 ^ b ≡ joined lo hi / 2 ^ 0 % 4 ^ b
  before_none = cut (joined lo hi) lo b h (low_of lo hi l) ∙ ap (λ (n : ℕ). n % 4 ^ b) (sym (div-one (joined lo hi)))

  module _ (s : ℕ) where
    pub before_some : s < 64 → bit_or (lo / 2 ^ s) ((hi * 2 ^ (64 - s)) % 2 ^ 64) % 4 ^ b ≡ joined lo hi / 2 ^ s % 4 ^ b
    before_some hs =
        let w : ℕ = hi % 2 ^ s * 2 ^ (64 - s) + lo / 2 ^ s in
        let k : s ≤ 64 = omega arith in
        let e : joined lo hi / 2 ^ s ≡ hi / 2 ^ s * 2 ^ 64 + w = moved s hi lo k l ∙ omega arith in
        ap (λ (n : ℕ). n % 4 ^ b) (low_word s hi lo k l)
        ∙ cut (joined lo hi / 2 ^ s) w b h
        (mod_is (joined lo hi / 2 ^ s) (2 ^ 64) (hi / 2 ^ s) w e (low_room s hi lo k l))

    pub before_word : 64 ≤ s → hi / 2 ^ (s - 64) % 4 ^ b ≡ joined lo hi / 2 ^ s % 4 ^ b
    before_word hs =
        let e : 64 + (s - 64) ≡ s = omega arith in
        ap (λ (n : ℕ). n % 4 ^ b)
        (ap (λ (n : ℕ). n / 2 ^ (s - 64)) (sym (high_of lo hi l)) ∙ shr-shr (joined lo hi) 64 (s - 64)
        ∙ ap (λ (n : ℕ). joined lo hi / 2 ^ n) e)

-- The first b bases of a k-mer.
module _ (b k x : ℕ) where
  pub slot_long : x / 2 ^ (2 * (k - b)) % 4 ^ b ≡ slot_of b k x
  slot_long = rw (four (k - b))

  pub slot_lt : slot_of b k x < 4 ^ b
  slot_lt = mod-lt (x / 4 ^ (k - b)) (four_pos b)

-- Past two words there is nothing.
pub slot_past : (b k lo hi : ℕ) → lo < 2 ^ 64 → hi < 2 ^ 64 → 63 < k - b → 0 ≡ slot_of b k (joined lo hi)
slot_past b k lo hi l h o =
    let e : joined lo hi ≡ hi * 2 ^ 64 + lo = omega arith in
    let p : 2 ^ 128 ≤ 4 ^ (k - b) = rw (four (k - b)) (pow_mono {i = 128} {j = 2 * (k - b)} (omega arith)) in
    let q : joined lo hi < 4 ^ (k - b) = rw e (lt_of_lt_of_le (digits_lt h l) p) in
    sym (ap (λ (n : ℕ). n % 4 ^ b) (div-eq_of_lt {n = joined lo hi} {m = 4 ^ (k - b)} q) ∙ zero-mod (4 ^ b))
