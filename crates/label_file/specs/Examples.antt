-- Document 01's sample of the program, a file without labels, and some that are refused with 13, 1 and 3, computed.
-- Assumes nothing.
use Rattle.std.specs.Prelude.{ℕ, ◌≡◌, refl, List, [], ◌∷◌, ◌++◌, map, length}
use Prim.Native.String.{String}
use Rattle.dna.specs.Text.{bytes, open_text}
use Rattle.dna.specs.Letters.{open_letters}
use Rattle.dna.specs.Order.{open_order}
use Rattle.kmer.specs.Kmer.{open_kmer}
use Rattle.state.specs.Counted.{open_counted}
use Rattle.label_index.specs.Entries.{open_entries}
use Rattle.graph.specs.Table.{open_table}
use Rattle.graph.specs.Sightings.{open_sightings}
use Rattle.graph.specs.Adding.{open_adding}
use Rattle.graph.specs.Several.{open_several}
use Rattle.graph.specs.Walks.{open_walks}
use Rattle.graph.specs.Labels.{open_labels}
use Rattle.graph.specs.Contraction.{open_contraction}
use Rattle.graph.specs.Fasta.{open_fasta}
use Rattle.label_file.specs.LabelFile.{open_label_file}
use Rattle.label_file.specs.Output.{unitigs, open_output}

-- A `KC` record with a cutoff below 256, and an `LB` record.
abbrev pub kc : ℕ → ℕ → List ℕ
kc K cutoff = bytes "KC" ++ (K ∷ cutoff ∷ 0 ∷ 0 ∷ 0 ∷ [])

abbrev pub lb : String → List ℕ
lb s = bytes "LB" ++ (length (bytes s) ∷ 0 ∷ bytes s)

abbrev examples : List (List ℕ × String)
examples =
    (0x4B ∷ 0x43 ∷ 0x03 ∷ 0x01 ∷ 0 ∷ 0 ∷ 0 ∷ 0x4C ∷ 0x42 ∷ 0x05 ∷ 0 ∷ 0x41 ∷ 0x43 ∷ 0x43 ∷ 0x43 ∷ 0x43 ∷ [], ">0\nACCC\n")
    ∷ ([], "R 13 0\n")
    ∷ (lb "ACCCC", "R 13 0\n")
    ∷ (kc 3 1, "")
    ∷ (kc 64 1, "R 1 0\n")
    ∷ (kc 64 1 ++ bytes "LB", "R 13 1\n")
    ∷ (kc 3 1 ++ lb "ACCCC" ++ kc 3 1, "R 13 2\n")
    ∷ (kc 3 1 ++ lb "AC" ++ lb "ACCN", "R 3 2\n")
    ∷ []

pub sample : map (λ (e : List ℕ × String). unitigs e.0) examples ≡ map (λ (e : List ℕ × String). bytes e.1) examples
unfolding open_text open_letters open_order open_kmer open_counted open_table open_sightings open_adding open_entries open_several open_walks open_labels open_contraction open_fasta open_label_file open_output
sample = refl
