-- The letters against the IUPAC nucleotide code. Assumes nothing.
use mathlib.Core.Path.{◌≡◌, refl}
use mathlib.Core.Bool.{true}
use Prim.Native.Nat.{ℕ}
use Rattle.dna.specs.Text.{bytes, among, open_text}
use Rattle.dna.specs.Letters.{code_of, letter_of, complement_letter, open_letters}
use Rattle.dna.specs.Iupac.{bases_of, complements, contains, open_iupac}
use Rattle.dna.proofs.Text.{at_each}

-- The code that a byte is read as, and its complement, stand for the byte's own set and that set's complement.
pub record Agrees (b : ℕ) : Type 0 where
  pub reading : bases_of (letter_of (code_of b)) ≡ bases_of b
  pub complement : bases_of (complement_letter b) ≡ complements (bases_of b)

-- A, C, G, T, U and N agree, in either case.
pub six_agree : (b : ℕ) → among b (bytes "ACGTUNacgtun") ≡ true → Agrees b
unfolding open_text open_letters open_iupac
six_agree b h = record {
  reading = at_each (λ x. bases_of (letter_of (code_of x))) (λ x. bases_of x) (bytes "ACGTUNacgtun") refl b h;
  complement = at_each (λ x. bases_of (complement_letter x)) (λ x. complements (bases_of x)) (bytes "ACGTUNacgtun") refl b h;
}

-- A byte is read as N, whose set holds the byte's own, and so does its complement's.
pub record Widened (b : ℕ) : Type 0 where
  pub reading : code_of b ≡ code_of 78
  pub wider : contains (bases_of 78) (bases_of b) ≡ true
  pub complement : contains (bases_of (complement_letter b)) (complements (bases_of b)) ≡ true

-- The other ten letters of the code are widened to N, in either case.
pub ten_widened : (b : ℕ) → among b (bytes "RYSWKMBDHVryswkmbdhv") ≡ true → Widened b
unfolding open_text open_letters open_iupac
ten_widened b h = record {
  reading = at_each (λ x. code_of x) (λ x. code_of 78) (bytes "RYSWKMBDHVryswkmbdhv") refl b h;
  wider = at_each (λ x. contains (bases_of 78) (bases_of x)) (λ x. true) (bytes "RYSWKMBDHVryswkmbdhv") refl b h;
  complement =
      at_each (λ x. contains (bases_of (complement_letter x)) (complements (bases_of x))) (λ x. true) (bytes "RYSWKMBDHVryswkmbdhv")
      refl b h;
}
