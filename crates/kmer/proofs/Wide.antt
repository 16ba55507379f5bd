-- A number of 2 * K bits in two words, low word first. Assumes nothing.
use mathlib.Core.Path.{◌≡◌, refl, sym, ap, ap₂, ◌∙◌}
use mathlib.Core.Logic.{⊎_elim}
use mathlib.Core.List.{List, [], ◌∷◌}
use Prim.Native.Nat.{ℕ, zero, suc, ◌+◌, ◌-◌, ◌*◌, ◌%◌, ◌^◌, ◌<◌, ◌≤◌}
use native.Mathlib.Nat.{pow-suc, mod-lt, mod-le, mod-eq_of_lt, lt_irrefl, one-le-pow, zero-lt-suc}
use native.Mathlib.Omega.{arith}
use lib.Dec.{ltb, leb}
use lib.ListN.{length, get_or}
use lib.Pow.{pow-add, pow_pos, mod-pow-add, lt_of_le_ones}
use borrow.Author.Tests.{lt-ltb, le-ltb, le-leb, lt-leb}
use Rattle.lemmas.proofs.Numbers.{lt_or_ge, mod_is, div_is, mod_mod}
use Rattle.kmer.specs.Kmer.{low, high, joined}
use Rattle.kmer.specs.Bits.{low_bits, high_bits}
use Rattle.kmer.specs.Says.{kmer_of, value_of}
use Rattle.kmer.specs.declared.Kmer.{Kmer}

-- A base is two bits.
pub four : (k : ℕ) → 4 ^ k ≡ 2 ^ (2 * k)
four zero = refl
four (suc k) =
    let e : 2 * suc k ≡ 2 * k + 2 = omega arith in
    pow-suc 4 k ∙ ap (λ (x : ℕ). x * 4) (four k) ∙ sym (ap (λ (x : ℕ). 2 ^ x) e ∙ pow-add 2 (2 * k) 2)

pub four_pos : (k : ℕ) → 0 < 4 ^ k
four_pos k = one-le-pow k 4 (zero-lt-suc 3)

-- ---- words and value

pub low_of : (lo hi : ℕ) → lo < 2 ^ 64 → low (joined lo hi) ≡ lo
low_of lo hi h = mod_is (joined lo hi) (2 ^ 64) hi lo (omega arith) h

pub high_of : (lo hi : ℕ) → lo < 2 ^ 64 → high (joined lo hi) ≡ hi
high_of lo hi h = div_is (joined lo hi) (2 ^ 64) hi lo (omega arith) h

pub joined_of : (n : ℕ) → joined (low n) (high n) ≡ n
joined_of n = omega arith

-- A number's k-mer from two words that hold it.
pub two_words : (n lo hi : ℕ) → n ≡ joined lo hi → lo < 2 ^ 64 → kmer_of n ≡ record { words = lo ∷ hi ∷ [] }
two_words n lo hi e h =
    ap kmer_of e ∙ ap₂ (λ (x y : ℕ). record { words = x ∷ y ∷ [] }) (low_of lo hi h) (high_of lo hi h)

pub value_back : {y : Kmer} (n : ℕ) → y ≡ kmer_of n → value_of y ≡ n
value_back n e = ap value_of e ∙ joined_of n

words_back : (l : List ℕ) → length l ≡ 2 → get_or l 0 0 < 2 ^ 64 → kmer_of (joined (get_or l 0 0) (get_or l 1 0)) ≡ record { words = l }
words_back [] e h = absurd (omega arith)
words_back (a ∷ []) e h = absurd (omega arith)
words_back (a ∷ b ∷ []) e h = two_words (joined a b) a b refl h
words_back (a ∷ b ∷ c ∷ l) e h = absurd (omega arith)

-- A k-mer of two 64-bit words is the k-mer of its value.
pub kmer_back : (x : Kmer) → length x.words ≡ 2 → get_or x.words 0 0 < 2 ^ 64 → kmer_of (value_of x) ≡ x
kmer_back x e h = words_back x.words e h

-- ---- the remainder by 4 to the K, word by word

masked_one : (k lo hi : ℕ) → lo < 2 ^ 64 → k < 32 →
    joined lo hi % 2 ^ (2 * k) ≡ joined (lo % 2 ^ low_bits k) (hi % 2 ^ high_bits k)
masked_one k lo hi h l =
    let a : low_bits k ≡ 2 * k = omega arith in
    let b : high_bits k ≡ 0 = omega arith in
    sym (mod_mod (joined lo hi) (2 * k) 64 (omega arith)) ∙ ap (λ (x : ℕ). x % 2 ^ (2 * k)) (low_of lo hi h) ∙ rw (a, b) (omega arith)

masked_two : (k lo hi : ℕ) → lo < 2 ^ 64 → 32 ≤ k →
    joined lo hi % 2 ^ (2 * k) ≡ joined (lo % 2 ^ low_bits k) (hi % 2 ^ high_bits k)
masked_two k lo hi h l =
    let a : low_bits k ≡ 64 = omega arith in
    let s : 2 * k ≡ high_bits k + 64 = omega arith in
    let m = rw (low_of lo hi h, high_of lo hi h) at (mod-pow-add (joined lo hi) (high_bits k) 64) in
    ap (λ (x : ℕ). joined lo hi % 2 ^ x) s ∙ m ∙ rw a (omega arith)

pub masked : (k lo hi : ℕ) → lo < 2 ^ 64 → joined lo hi % 4 ^ k ≡ joined (lo % 2 ^ low_bits k) (hi % 2 ^ high_bits k)
masked k lo hi h =
    ap (λ (x : ℕ). joined lo hi % x) (four k) ∙ ⊎_elim (masked_one k lo hi h) (masked_two k lo hi h) (lt_or_ge k 32)

-- ---- below 4 to the K, word by word

module _ (k lo hi : ℕ) (h : lo < 2 ^ 64) where
  -- Neither word uses a bit too many.
  below_yes : lo ≤ 2 ^ low_bits k - 1 → hi ≤ 2 ^ high_bits k - 1 → joined lo hi < 4 ^ k
  below_yes a b =
      let m : joined lo hi % 4 ^ k ≡ joined lo hi =
      masked k lo hi h
      ∙ ap₂ joined (mod-eq_of_lt (lt_of_le_ones (low_bits k) a)) (mod-eq_of_lt (lt_of_le_ones (high_bits k) b)) in
      rw m at (mod-lt (joined lo hi) (four_pos k))

  -- A number that the remainder makes smaller was not below.
  shrinks : joined lo hi % 4 ^ k < joined lo hi → 4 ^ k ≤ joined lo hi
  shrinks s =
      ⊎_elim (λ l. absurd (lt_irrefl (joined lo hi) (rw (mod-eq_of_lt {n = joined lo hi} {m = 4 ^ k} l) at s))) (λ l. l)
      (lt_or_ge (joined lo hi) (4 ^ k))

  -- One of the words uses a bit too many.
  pub above_low : 2 ^ low_bits k - 1 < lo → 4 ^ k ≤ joined lo hi
  above_low a =
      shrinks
      (omega (arith, masked k lo hi h, mod-lt lo (pow_pos (low_bits k)), mod-le hi (2 ^ high_bits k), pow_pos (low_bits k)))

  above_high : 2 ^ high_bits k - 1 < hi → 4 ^ k ≤ joined lo hi
  above_high a =
      shrinks
      (omega (arith, masked k lo hi h, mod-lt hi (pow_pos (high_bits k)), mod-le lo (2 ^ low_bits k), pow_pos (high_bits k)))

  -- Where the low word uses no bit too many, the high word decides.
  pub below_high : lo ≤ 2 ^ low_bits k - 1 → leb hi (2 ^ high_bits k - 1) ≡ ltb (joined lo hi) (4 ^ k)
  below_high a =
      ⊎_elim (λ l. lt-leb _ _ l ∙ sym (le-ltb _ _ (above_high l))) (λ l. le-leb _ _ l ∙ sym (lt-ltb _ _ (below_yes a l)))
      (lt_or_ge (2 ^ high_bits k - 1) hi)
