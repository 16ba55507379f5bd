-- A k-mer: K bases read as a number in base 4, the first base most significant. Assumes nothing.
use Rattle.std.specs.Prelude.{ℕ, zero, suc, ◌+◌, ◌-◌, ◌*◌, ◌/◌, ◌%◌, ◌^◌, min, Bool, ◌&&◌, List, [], ◌∷◌, leb}
use Rattle.dna.specs.Letters.{code_of, letter_of}

-- K is from 1 to 63.
abbrev pub ok_k : ℕ → Bool
ok_k K = leb 1 K && leb K 63

-- A k-mer is held in two 64-bit words, low word first.
abbrev pub low : ℕ → ℕ
low x = x % 2 ^ 64

abbrev pub high : ℕ → ℕ
high x = x / 2 ^ 64

-- The number that two words hold.
abbrev pub joined : ℕ → ℕ → ℕ
joined l h = l + 2 ^ 64 * h

-- A number with the bases of a text behind it.
unfoldable pub onto : ℕ → List ℕ → ℕ
onto x [] = x
onto x (b ∷ s) = onto (4 * x + code_of b) s

-- A text as a number, where every byte of it is a base.
abbrev pub packed : List ℕ → ℕ
packed s = onto 0 s

-- The base at place i below K, the first at 0.
unfoldable pub base_at : ℕ → ℕ → ℕ → ℕ
base_at K x i = x / 4 ^ (K - 1 - i) % 4

-- The reverse complement: the last base's complement comes first.
unfoldable pub rc : ℕ → ℕ → ℕ
rc zero x = 0
rc (suc k) x = (3 - x % 4) * 4 ^ k + rc k (x / 4)

-- Canonical is the smaller of a k-mer and its reverse complement.
unfoldable pub canon : ℕ → ℕ → ℕ
canon K x = min x (rc K x)

-- A k-mer is canonical where its reverse complement is not smaller; so a palindrome is.
unfoldable pub is_canon : ℕ → ℕ → Bool
is_canon K x = leb x (rc K x)

-- The first base dropped and base b appended.
unfoldable pub forward : ℕ → ℕ → ℕ → ℕ
forward K x b = (4 * x + b) % 4 ^ K

-- The last base dropped and base b put in front.
unfoldable pub backward : ℕ → ℕ → ℕ → ℕ
backward K x b = b * 4 ^ (K - 1) + x / 4

-- A k-mer's letters, first base first.
unfoldable pub letters : ℕ → ℕ → List ℕ
letters zero x = []
letters (suc k) x = letter_of (x / 4 ^ k % 4) ∷ letters k x

-- The four letters of a byte, top two bits first, first letter in the lowest byte.
unfoldable pub quad_of : ℕ → ℕ
quad_of b =
    letter_of (b / 64 % 4) + 2 ^ 8 * letter_of (b / 16 % 4) + 2 ^ 16 * letter_of (b / 4 % 4)
    + 2 ^ 24 * letter_of (b % 4)

-- Opens this file's definitions to a proof that computes.
unfoldable pub open_kmer : Unit {0}
unfolding onto base_at rc canon is_canon forward backward letters quad_of
open_kmer = tt
