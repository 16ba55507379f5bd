-- Reads of two strains that differ in one base, as in sample/strains.fa, at K = 15 and cutoff 2: their list and a
-- panel of it, computed. Assumes nothing.
use mathlib.Core.Path.{◌≡◌, refl}
use mathlib.Core.List.{List, [], ◌∷◌, ◌++◌}
use Prim.Native.Nat.{ℕ}
use lib.ListN.{replicate}
use Rattle.std.proofs.Common.{Ok}
use Rattle.dna.specs.Text.{bytes, open_text}
use Rattle.dna.specs.Letters.{open_letters}
use Rattle.dna.specs.Order.{open_order}
use Rattle.kmer.specs.Kmer.{open_kmer}
use Rattle.state.specs.Counted.{four_bits, open_counted}
use Rattle.state.specs.declared.EdgeKind.TheVariants.{Counted}
use Rattle.label_index.specs.Entries.{listed, open_entries}
use Rattle.graph.specs.Table.{open_table}
use Rattle.graph.specs.Sightings.{same_canonical, open_sightings}
use Rattle.graph.specs.Adding.{open_adding}
use Rattle.graph.specs.Several.{Several, untried, add_each, open_several}
use Rattle.graph.specs.Walks.{open_walks}
use Rattle.graph.specs.Labels.{open_labels}
use Rattle.graph.specs.Contraction.{Contracted, contract, open_contraction}
use Rattle.contraction.specs.Says.{Contracts}
use Rattle.panel.specs.Probes.{none, open_probes}
use Rattle.panel.specs.Panel.{panel, open_panel}
use Rattle.panel.specs.Says.{Panels}
use Rattle.demands.specs.Probes.{probe_at, Unshared}
use Rattle.demands.proofs.Panels.{panel_unshared}
use Rattle.std.specs.Prelude.{Ok}

-- Each strain is read from both strands; the last read has an error, which is seen once and so falls below the cutoff.
unfoldable pub reads : List (List ℕ)
reads =
    bytes "CGGATCCTTACTACACTAACTTGAACGCCTAGTGG" ∷ bytes "CCACTAGGCGTTCAAGTTAGTGTAGTAAGGATCCG"
    ∷ bytes "CGGATCCTTACTACACTGACTTGAACGCCTAGTGG" ∷ bytes "CCACTAGGCGTTCAAGTCAGTGTAGTAAGGATCCG"
    ∷ bytes "CGGATCCTAACTACACTAACTTGAACGCCTAGTGG" ∷ []

abbrev zeros : ℕ → List ℕ
zeros n = replicate n 0

unfoldable pub table : Several
table = add_each four_bits same_canonical 15 (untried 0 (zeros 90) (zeros 45)) reads

abbrev list : Contracted
list = contract four_bits 15 2 table.stored table.keys table.counts (zeros 92) (zeros 4) (zeros 4) (zeros 45)

-- The labels end to end, as they were found, and their index.
abbrev labels : List ℕ
labels =
    bytes "ATCCTTACTACACTAACTTGAACGCCTAG" ++ bytes "ATCCTTACTACACTGACTTGAACGCCTAG"
    ++ bytes "ACTTGAACGCCTAGTGG" ++ bytes "AGTGTAGTAAGGATCCG"

abbrev starts : List ℕ
starts = 58 ∷ 75 ∷ 0 ∷ 29 ∷ []

abbrev lengths : List ℕ
lengths = 17 ∷ 17 ∷ 29 ∷ 29 ∷ []

pub strains_contracted : Contracts (Ok (record { labels = 4; bases = 92 })) labels starts lengths list.marks list
unfolding reads table open_text open_letters open_order open_kmer open_counted open_table open_sightings open_adding open_several open_walks open_labels open_contraction
strains_contracted = record {
  answer = refl;
  labels_after = refl;
  starts_after = refl;
  lengths_after = refl;
  marks_after = refl;
}

-- What both strains have behind and before the base in which they differ, and what each has around it.
pub list_is : listed 4 labels starts lengths
    ≡ bytes "ACTTGAACGCCTAGTGG" ∷ bytes "AGTGTAGTAAGGATCCG"
    ∷ bytes "ATCCTTACTACACTAACTTGAACGCCTAG" ∷ bytes "ATCCTTACTACACTGACTTGAACGCCTAG" ∷ []
unfolding open_text open_entries
list_is = refl

-- Probes of 20 bases of which 9 to 11 are G or C: the first two labels are too short.
abbrev found : List ℕ
found = none ∷ none ∷ 6 ∷ 5 ∷ []

pub panel_is : Panels (Ok 4) found (panel 15 2 20 9 11 labels starts lengths 4 (zeros 4))
unfolding open_text open_entries open_probes open_panel
panel_is = record { answer = refl; slice = refl }

pub probes_are : probe_at 20 labels starts lengths found 2 ∷ probe_at 20 labels starts lengths found 3 ∷ []
    ≡ bytes "ACTACACTAACTTGAACGCC" ∷ bytes "TACTACACTGACTTGAACGC" ∷ []
unfolding open_text
probes_are = refl

-- All that `panel_unshared` asks is met.
pub strains_unshared : Unshared 15 20 labels starts lengths 4 found
strains_unshared =
    panel_unshared Counted 15 2 table.stored table.keys table.counts (zeros 92) (zeros 4) (zeros 4) (zeros 45)
    strains_contracted refl 2 20 9 11 (zeros 4) panel_is refl
