-- Letters: A, C, G, T are 0 to 3, N, a letter that is none of them, is 4, and E, "no base", is 5. Assumes nothing.
use Rattle.std.specs.Prelude.{ℕ, suc, ◌-◌, ◌/◌, ◌%◌, Bool, cond, List, [], ◌∷◌, map, reverse, ltb, get_or}
use Rattle.std.specs.Int.Bits.{bit_xor}
use Rattle.dna.specs.Text.{bytes, among}

-- The code of a byte: upper and lower case read alike, U as T, every other byte is N.
unfoldable pub code_of : ℕ → ℕ
code_of b =
    cond (among b (bytes "Aa")) 0
    (cond (among b (bytes "Cc")) 1
    (cond (among b (bytes "Gg")) 2
    (cond (among b (bytes "TtUu")) 3 4)))

-- The letter of a code; E is written `$`.
unfoldable pub letter_of : ℕ → ℕ
letter_of c = get_or (bytes "ACGTN$") c 36

-- Complement exchanges A with T and C with G, and keeps N and E.
unfoldable pub complement : ℕ → ℕ
complement c = cond (ltb c 4) (3 - c) c

-- A byte is a base: one of A, C, G, T, U in either case.
abbrev pub is_base : ℕ → Bool
is_base b = ltb (code_of b) 4

-- The letter of a byte's complement; that of a non-base is N's.
abbrev pub complement_letter : ℕ → ℕ
complement_letter b = letter_of (complement (code_of b))

-- Two bits made of a byte's own: its code where it is a base, and of no meaning elsewhere.
unfoldable pub valid_bits : ℕ → ℕ
valid_bits b = bit_xor (b / 4) (b / 2) % 4

-- A text on the other strand: its last letter's complement comes first.
unfoldable pub reverse_complement : List ℕ → List ℕ
reverse_complement s = reverse (map complement_letter s)

-- The first place of a text, counted from i, that is no base, and its byte; nothing where all are bases.
unfoldable pub first_bad : ℕ → List ℕ → List ℕ
first_bad i [] = []
first_bad i (b ∷ s) = let rest = first_bad (suc i) s in cond (is_base b) rest (i ∷ b ∷ [])

-- Opens this file's definitions to a proof that computes.
unfoldable pub open_letters : Unit {0}
unfolding code_of letter_of complement valid_bits reverse_complement first_bad
open_letters = tt
