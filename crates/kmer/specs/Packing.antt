-- Letters read by their bits alone, and the bytes of a word: for the private functions that pack. Assumes nothing.
use Rattle.std.specs.Prelude.{ℕ, zero, suc, ◌/◌, ◌%◌, ◌≡◌, List, [], ◌∷◌, ◌++◌, map}
use Rattle.dna.specs.Letters.{letter_of, valid_bits, first_bad}
use Rattle.kmer.specs.Kmer.{packed}
use Rattle.kmer.specs.Says.{kmer_of}
use Rattle.kmer.specs.declared.eights.Packed.{Packed}

-- The base that a byte's two bits name: its own where it is one.
abbrev pub base_in : ℕ → ℕ
base_in b = letter_of (valid_bits b)

-- A text as a number, where no byte is tested and each is read as the base that its bits name.
abbrev pub valid_packed : List ℕ → ℕ
valid_packed s = packed (map base_in s)

-- The n low bytes of a word, the lowest last.
unfoldable pub bytes_in : ℕ → ℕ → List ℕ
bytes_in zero x = []
bytes_in (suc n) x = bytes_in n (x / 256) ++ (x % 256 ∷ [])

-- A text's k-mer, and beside it a number that is 0 only where all the text's bytes are bases.
pub record Packs (s : List ℕ) (r : Packed) : Type 0 where
  pub kmer : r.kmer ≡ kmer_of (valid_packed s)
  pub clean : r.strange ≡ 0 → first_bad 0 s ≡ []
