-- The keys of a slice of words, and the words of keys. Assumes nothing.
use mathlib.Core.Path.{◌≡◌, refl, ap, ◌∙◌}
use mathlib.Core.List.{List, [], ◌∷◌, ◌++◌}
use Prim.Native.Nat.{ℕ, zero, suc, ◌*◌, ◌/◌, ◌^◌, ◌≤◌, ◌<◌, min}
use native.Mathlib.Omega.{arith}
use lib.ListN.{length, get_or, take, drop}
use lib.Seq.{take-nil, drop-nil}
use Rattle.kmer.specs.Kmer.{low, high, joined}
use Rattle.graph.specs.Table.{keys_of, words_of}

pub keys_length : (n : ℕ) (words : List ℕ) → length (keys_of n words) ≡ min n (length words / 2)
unfolding keys_of
keys_length zero words = omega arith
keys_length (suc n) [] = omega arith
keys_length (suc n) (l ∷ []) = omega arith
keys_length (suc n) (l ∷ h ∷ words) = omega (arith, keys_length n words)

-- More keys than there are, are those that there are.
pub keys_most : (n : ℕ) (words : List ℕ) → keys_of (min n (length words / 2)) words ≡ keys_of n words
unfolding keys_of
keys_most zero words = let e : min 0 (length words / 2) ≡ 0 = omega arith in rw e
keys_most (suc n) [] = let e : min (suc n) (0 / 2) ≡ 0 = omega arith in rw e
keys_most (suc n) (l ∷ []) = let e : min (suc n) (1 / 2) ≡ 0 = omega arith in rw e
keys_most (suc n) (l ∷ h ∷ words) =
    let e : min (suc n) (suc (suc (length words)) / 2) ≡ suc (min n (length words / 2)) = omega arith in
    ap (λ (m : ℕ). keys_of m (l ∷ h ∷ words)) e ∙ ap (λ (ks : List ℕ). joined l h ∷ ks) (keys_most n words)

-- They are read from their own words alone.
pub keys_copied : (n : ℕ) (words : List ℕ) → keys_of n (take (2 * n) words) ≡ keys_of n words
unfolding keys_of
keys_copied zero words = refl
keys_copied (suc n) [] = ap (keys_of (suc n)) (take-nil (2 * suc n))
keys_copied (suc n) (l ∷ []) =
    let e : 2 * suc n ≡ suc (suc (2 * n)) = omega arith in ap (λ (m : ℕ). keys_of (suc n) (take m (l ∷ []))) e
keys_copied (suc n) (l ∷ h ∷ words) =
    let e : 2 * suc n ≡ suc (suc (2 * n)) = omega arith in
    ap (λ (m : ℕ). keys_of (suc n) (take m (l ∷ h ∷ words))) e ∙ ap (λ (ks : List ℕ). joined l h ∷ ks) (keys_copied n words)

pub words_length : (ks : List ℕ) → length (words_of ks) ≡ 2 * length ks
unfolding words_of
words_length [] = refl
words_length (x ∷ ks) = omega (arith, words_length ks)

pub words_append : (a b : List ℕ) → words_of (a ++ b) ≡ words_of a ++ words_of b
unfolding words_of
words_append [] b = refl
words_append (x ∷ a) b = ap (λ (ws : List ℕ). low x ∷ high x ∷ ws) (words_append a b)

pub words_take : (i : ℕ) (ks : List ℕ) → take (2 * i) (words_of ks) ≡ words_of (take i ks)
unfolding words_of
words_take zero ks = refl
words_take (suc i) [] = take-nil (2 * suc i)
words_take (suc i) (x ∷ ks) =
    let e : 2 * suc i ≡ suc (suc (2 * i)) = omega arith in
    ap (λ (m : ℕ). take m (low x ∷ high x ∷ words_of ks)) e ∙ ap (λ (ws : List ℕ). low x ∷ high x ∷ ws) (words_take i ks)

pub words_drop : (i : ℕ) (ks : List ℕ) → drop (2 * i) (words_of ks) ≡ words_of (drop i ks)
unfolding words_of
words_drop zero ks = refl
words_drop (suc i) [] = drop-nil (2 * suc i)
words_drop (suc i) (x ∷ ks) =
    let e : 2 * suc i ≡ suc (suc (2 * i)) = omega arith in
    ap (λ (m : ℕ). drop m (low x ∷ high x ∷ words_of ks)) e ∙ words_drop i ks

-- The first words are those of the first keys, where each fits its 64 bits.
pub words_keys : (n : ℕ) (words : List ℕ) → n ≤ length words / 2 → ((i : ℕ) → get_or words i 0 < 2 ^ 64) → words_of (keys_of n words) ++ drop (2 * n) words ≡ words
unfolding words_of keys_of
words_keys zero words l fits = refl
words_keys (suc n) [] l fits = absurd (omega arith)
words_keys (suc n) (x ∷ []) l fits = absurd (omega arith)
words_keys (suc n) (x ∷ y ∷ words) l fits =
    let e : 2 * suc n ≡ suc (suc (2 * n)) = omega arith in
    let lo : low (joined x y) ≡ x = omega (arith, fits 0) in
    let hi : high (joined x y) ≡ y = omega (arith, fits 0) in
    rw (e, lo, hi) (ap (λ (ws : List ℕ). x ∷ y ∷ ws) (words_keys n words (omega arith) (λ i. fits (suc (suc i)))))

-- The keys of some keys' words are those keys.
pub keys_words : (ks rest : List ℕ) → keys_of (length ks) (words_of ks ++ rest) ≡ ks
unfolding words_of keys_of
keys_words [] rest = refl
keys_words (x ∷ ks) rest =
    let e : joined (low x) (high x) ≡ x = omega arith in
    rw e (ap (λ (zs : List ℕ). x ∷ zs) (keys_words ks rest))
