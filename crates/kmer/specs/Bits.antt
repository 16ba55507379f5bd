-- Where the 2 * K bits of a k-mer stand in its two words, and the four bytes of a quad in a slice. Assumes nothing.
use Rattle.std.specs.Prelude.{ℕ, ◌+◌, ◌-◌, ◌*◌, ◌/◌, ◌^◌, cond, List, ltb, set}

-- How many stand in the high word, and in the low word.
abbrev pub high_bits : ℕ → ℕ
high_bits K = 2 * K - 64

abbrev pub low_bits : ℕ → ℕ
low_bits K = 2 * K - high_bits K

-- The bits from s on, in the word where they begin.
abbrev pub bits_from : ℕ → ℕ → ℕ → ℕ
bits_from s lo hi = cond (ltb s 64) (lo / 2 ^ s) (hi / 2 ^ (s - 64))

-- Four bytes stored from a place on.
abbrev pub four_at : List ℕ → ℕ → ℕ → ℕ → ℕ → ℕ → List ℕ
four_at slice at a b c d = set (set (set (set slice at a) (at + 1) b) (at + 2) c) (at + 3) d
