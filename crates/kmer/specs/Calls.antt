-- What the calls on k-mers answer, refusals in their order: packing 1, 2, 3, the others 1, 14, 10, 9. Assumes nothing.
use Rattle.std.specs.Prelude.{ℕ, ◌^◌, Bool, cond, not, List, [], ◌∷◌, ltb, length, take}
use Rattle.dna.specs.Answer.{Answer, gives, refuses, Filled, fill}
use Rattle.dna.specs.Letters.{first_bad}
use Rattle.kmer.specs.Kmer.{ok_k, joined, packed, base_at, rc, canon, is_canon, forward, backward, letters}

-- The refusal 1 of a K that is not from 1 to 63, beside which K is returned.
abbrev pub with_k : {A : Type 0} → ℕ → Answer A → Answer A
with_k K answer = cond (ok_k K) answer (refuses 1 (K ∷ []))

-- The refusals 1 and 14 of a call on a k-mer, which is to be below 4 to the K.
abbrev pub on_kmer : {A : Type 0} → ℕ → ℕ → Answer A → Answer A
on_kmer K x answer = with_k K (cond (ltb x (4 ^ K)) answer (refuses 14 []))

-- An answer where a number is below a bound; refusal 10 where it is not.
abbrev pub below : {A : Type 0} → ℕ → ℕ → Answer A → Answer A
below bound i answer = cond (ltb i bound) answer (refuses 10 [])

-- The number of a text without a bad byte; else refusal 3 with the first bad byte's place and the byte, as `first_bad`
-- lists them.
unfoldable pub pack_bases : List ℕ → List ℕ → Answer ℕ
pack_bases s [] = gives (packed s)
pack_bases s (place ∷ byte) = refuses 3 (place ∷ byte)

-- The refusals 1 and 2 of a call that packs; beside 2 the length is returned.
unfoldable pub with_letters : {A : Type 0} → ℕ → List ℕ → Answer A → Answer A
with_letters K s answer = with_k K (cond (ltb (length s) K) (refuses 2 (length s ∷ [])) answer)

-- Packing reads the first K bytes and ignores the rest.
unfoldable pub pack_call : ℕ → List ℕ → Answer ℕ
pack_call K s = with_letters K s (pack_bases (take K s) (first_bad 0 (take K s)))

-- A k-mer from its two words.
abbrev pub words_call : ℕ → ℕ → ℕ → Answer ℕ
words_call K l h = on_kmer K (joined l h) (gives (joined l h))

abbrev pub get_call : ℕ → ℕ → ℕ → Answer ℕ
get_call K x i = on_kmer K x (below K i (gives (base_at K x i)))

abbrev pub reverse_call : ℕ → ℕ → Answer ℕ
reverse_call K x = on_kmer K x (gives (rc K x))

abbrev pub canon_call : ℕ → ℕ → Answer ℕ
canon_call K x = on_kmer K x (gives (canon K x))

abbrev pub is_canon_call : ℕ → ℕ → Answer Bool
is_canon_call K x = on_kmer K x (gives (is_canon K x))

abbrev pub forward_call : ℕ → ℕ → ℕ → Answer ℕ
forward_call K x b = on_kmer K x (below 4 b (gives (forward K x b)))

abbrev pub backward_call : ℕ → ℕ → ℕ → Answer ℕ
backward_call K x b = on_kmer K x (below 4 b (gives (backward K x b)))

-- Whether the first k-mer is smaller than the second.
abbrev pub less_call : ℕ → ℕ → ℕ → Answer Bool
less_call K x y = on_kmer K x (on_kmer K y (gives (ltb x y)))

-- A k-mer's letters, written from a slice's first cell on.
abbrev pub letters_call : ℕ → ℕ → List ℕ → Filled
letters_call K x slice =
    cond (not (ok_k K)) (record { answer = refuses 1 (K ∷ []); slice = slice })
    (cond (ltb x (4 ^ K)) (fill 9 (letters K x) slice) (record { answer = refuses 14 []; slice = slice }))

-- Opens this file's definitions to a proof that computes.
unfoldable pub open_calls : Unit {0}
unfolding pack_bases with_letters pack_call
open_calls = tt
