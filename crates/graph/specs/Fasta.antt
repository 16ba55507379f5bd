-- The list as FASTA. Assumes nothing.
use Rattle.std.specs.Prelude.{ℕ, cond, List, [], ◌∷◌, ◌++◌}
use Rattle.dna.specs.Text.{bytes}
use Rattle.dna.specs.Answer.{refuses, Filled, fill}
use Rattle.label_index.specs.Entries.{listed, within}

-- `>0`, newline, label, newline.
abbrev pub record_of : List ℕ → List ℕ
record_of label = bytes ">0\n" ++ (label ++ bytes "\n")

-- The records of some labels, one behind the other.
unfoldable pub records_of : List (List ℕ) → List ℕ
records_of [] = []
records_of (l ∷ ls) = record_of l ++ records_of ls

-- The refusals 12 and 11; the answer is the bytes written.
unfoldable pub fasta : List ℕ → List ℕ → List ℕ → ℕ → List ℕ → Filled
fasta labels starts lengths count slice =
    cond (within labels count starts lengths) (fill 11 (records_of (listed count labels starts lengths)) slice)
    (record { answer = refuses 12 []; slice = slice })

-- Opens this file's definitions to a proof that computes.
unfoldable pub open_fasta : Unit {0}
unfolding records_of fasta
open_fasta = tt
