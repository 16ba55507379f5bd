-- Letters read by their bits alone: their number, and that of bases it is the packed number. Assumes nothing.
use mathlib.Core.Path.{◌≡◌, refl, sym, ap, ◌∙◌}
use mathlib.Core.List.{List, [], ◌∷◌, ◌++◌, map, map-append}
use Prim.Native.Nat.{ℕ, ◌+◌, ◌*◌, ◌%◌, ◌^◌, ◌<◌, ◌≤◌}
use native.Mathlib.Nat.{lt_of_lt_of_le, le_of_lt, mod-eq_of_lt, pow-le-pow_right, zero-lt-suc}
use native.Mathlib.Numerals.{add-one}
use native.Mathlib.Omega.{arith}
use borrow.Author.Tests.{lt-ltb}
use lib.ListN.{length, get_or, take, length-map}
use lib.Seq.{take-suc, length-take-le}
use Rattle.dna.specs.Letters.{code_of, valid_bits}
use Rattle.dna.proofs.Letters.{code_letter, valid_code, valid_small}
use Rattle.kmer.specs.Kmer.{onto, packed}
use Rattle.kmer.specs.Packing.{base_in, valid_packed}
use Rattle.kmer.proofs.Windows.{Bases, packed_append, packed_lt}

code_in : (b : ℕ) → code_of (base_in b) ≡ valid_bits b
code_in b = code_letter (valid_bits b) (le_of_lt (valid_small b))

bases_in : (s : List ℕ) → Bases (map base_in s)
bases_in [] = tt
bases_in (b ∷ s) = (rw (code_in b) (valid_small b), bases_in s)

onto_valid : (x : ℕ) (s : List ℕ) → Bases s → onto x (map base_in s) ≡ onto x s
unfolding onto
onto_valid x [] h = refl
onto_valid x (b ∷ s) h =
    ap (λ (c : ℕ). onto (4 * x + c) (map base_in s)) (code_in b ∙ valid_code b (lt-ltb (code_of b) 4 h.0))
    ∙ onto_valid (4 * x + code_of b) s h.1

-- The bits of a base name that base.
pub valid_packed_lem : (s : List ℕ) → Bases s → valid_packed s ≡ packed s
valid_packed_lem s h = onto_valid 0 s h

-- A text before another.
pub valid_append : (s t : List ℕ) → valid_packed (s ++ t) ≡ valid_packed s * 4 ^ length t + valid_packed t
valid_append s t =
    ap packed (map-append base_in s t) ∙ packed_append (map base_in s) (map base_in t)
    ∙ ap (λ (n : ℕ). valid_packed s * 4 ^ n + valid_packed t) (length-map t base_in)

pub valid_one : (b : ℕ) → valid_packed (b ∷ []) ≡ valid_bits b
unfolding onto
valid_one b = omega (arith, code_in b)

pub valid_lt : (s : List ℕ) → valid_packed s < 4 ^ length s
valid_lt s = rw (length-map s base_in) at (packed_lt (map base_in s) (bases_in s))

-- ---- letter by letter, in one word

-- Up to 32 letters have room in a word.
pub word_lt : (s : List ℕ) → length s ≤ 32 → valid_packed s < 2 ^ 64
word_lt s h = lt_of_lt_of_le (valid_lt s) (pow-le-pow_right (zero-lt-suc 3) h)

-- One letter more.
pub word_more : (s : List ℕ) (i : ℕ) → length s ≤ 32 → i < length s →
    (4 * valid_packed (take i s) + valid_bits (get_or s i 0)) % 2 ^ 64 ≡ valid_packed (take (i + 1) s)
word_more s i l h =
    let more : take (i + 1) s ≡ take i s ++ (get_or s i 0 ∷ []) = rw (add-one i) (take-suc s i 0 h) in
    let e : valid_packed (take (i + 1) s) ≡ 4 * valid_packed (take i s) + valid_bits (get_or s i 0) =
    ap valid_packed more ∙ valid_append (take i s) (get_or s i 0 ∷ []) ∙ omega (arith, valid_one (get_or s i 0)) in
    let n : length (take (i + 1) s) ≡ i + 1 = length-take-le (i + 1) s (omega arith) in
    mod-eq_of_lt (rw e at (word_lt (take (i + 1) s) (omega arith))) ∙ sym e
