-- What the answer of this crate says in document 01's numbers. Assumes nothing.
use Rattle.std.specs.Prelude.{ℕ, ◌≡◌, List, [], Result, Ok, Err}
use Rattle.dna.specs.Answer.{Answer, gives, refuses, Filled}
use Rattle.fasta.specs.declared.FastaError.{FastaError}
use Rattle.fasta.specs.declared.FastaError.TheVariants.{NoRoom, OutOfLabels}

-- The bytes written, or why none were.
abbrev pub fasta_answer : Result ℕ FastaError → Answer ℕ
fasta_answer (Ok n) = gives n
fasta_answer (Err NoRoom) = refuses 11 []
fasta_answer (Err OutOfLabels) = refuses 12 []

-- The call that lists labels: its answer, and the slice at exit.
pub record Lists (r : Result ℕ FastaError) (out : List ℕ) (f : Filled) : Type 0 where
  pub answer : fasta_answer r ≡ f.answer
  pub slice : out ≡ f.slice
