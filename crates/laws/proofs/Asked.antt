-- What demand 3 asks is met by ACGG for K=3: the call is not refused, its index lists ACGG, and the edge of its two k-mers is the
-- only one at both ends. Assumes nothing.
use mathlib.Core.Path.{◌≡◌, refl}
use mathlib.Core.List.{List, [], ◌∷◌}
use Prim.Native.Nat.{ℕ}
use native.Mathlib.Omega.{arith}
use lib.ListN.{replicate}
use Rattle.dna.specs.Text.{bytes, open_text}
use Rattle.dna.specs.Letters.{open_letters}
use Rattle.dna.specs.Order.{open_order}
use Rattle.dna.specs.Answer.{gives}
use Rattle.kmer.specs.Kmer.{open_kmer}
use Rattle.state.specs.declared.Side.TheVariants.{Back}
use Rattle.state.specs.Counted.{four_bits, open_counted}
use Rattle.label_index.specs.Entries.{listed, open_entries}
use Rattle.graph.specs.Table.{table_of, keys_of, open_table}
use Rattle.graph.specs.Sightings.{same_canonical, open_sightings}
use Rattle.graph.specs.Adding.{open_adding}
use Rattle.graph.specs.Walks.{open_walks}
use Rattle.graph.specs.Labels.{open_labels}
use Rattle.graph.specs.Contraction.{Contracted, ends_in, contract, open_contraction}
use Rattle.laws.specs.Grown.{Grown, fresh, accepts}
use Rattle.laws.specs.Demand.{Sole, OneBase, Demand3, open_demand}
use Rattle.laws.proofs.Symmetry.{lawful_canonical}
use Rattle.laws.proofs.Demand.{demand3}
use Rattle.laws.proofs.Example.{p1_grown}

abbrev keys : List ℕ
keys = 6 ∷ 0 ∷ 22 ∷ 0 ∷ []

abbrev counts : List ℕ
counts = 0x01000000 ∷ 0x10000000 ∷ []

-- The keys of ACG and CCG are 6 and 22.
grown : Grown four_bits same_canonical 3 (bytes "ACGG" ∷ []) 2 keys counts
unfolding open_text open_letters open_kmer open_counted open_table open_sightings open_adding
grown = accepts (fresh (replicate 4 0) (replicate 2 0)) (bytes "ACGG") (record { edges = 1; stored = 2 }) refl

abbrev called : Contracted
called = contract four_bits 3 1 2 keys counts (replicate 8 0) (replicate 2 0) (replicate 2 0) (replicate 2 0)

accepted : called.answer ≡ gives (record { labels = 1; bases = 4 })
unfolding open_text open_letters open_order open_kmer open_counted open_table open_walks open_labels open_contraction
accepted = refl

pub met : Demand3 3 (keys_of 2 keys) (ends_in four_bits 1 (table_of 2 keys counts)) (OneBase 3) (listed 1 called.labels called.starts called.lengths)
met = demand3 (lawful_canonical 3) grown 1 (replicate 8 0) (replicate 2 0) (replicate 2 0) (replicate 2 0) (record { labels = 1; bases = 4 }) accepted

pub met_label : listed 1 called.labels called.starts called.lengths ≡ bytes "ACGG" ∷ []
unfolding open_text open_letters open_order open_kmer open_counted open_table open_entries open_walks open_labels open_contraction open_demand
met_label = refl

pub met_sole : Sole 3 (keys_of 2 keys) (ends_in four_bits 1 (table_of 2 keys counts)) 0 Back 1 Back
unfolding open_letters open_kmer open_counted open_table open_walks open_contraction
met_sole = record { at_u = omega arith; at_v = omega arith; joins = record { there = refl; back = refl } }

-- P1's table meets it too.
abbrev p1_called : Contracted
p1_called =
    contract four_bits 3 1 2 (5 ∷ 0 ∷ 21 ∷ 0 ∷ []) (0x00100000 ∷ 0x00100001 ∷ []) (replicate 8 0) (replicate 2 0) (replicate 2 0) (replicate 2 0)

p1_accepted : p1_called.answer ≡ gives (record { labels = 1; bases = 4 })
unfolding open_text open_letters open_order open_kmer open_counted open_table open_walks open_labels open_contraction
p1_accepted = refl

pub p1_met :
    Demand3 3 (keys_of 2 (5 ∷ 0 ∷ 21 ∷ 0 ∷ [])) (ends_in four_bits 1 (table_of 2 (5 ∷ 0 ∷ 21 ∷ 0 ∷ []) (0x00100000 ∷ 0x00100001 ∷ []))) (OneBase 3)
    (listed 1 p1_called.labels p1_called.starts p1_called.lengths)
p1_met = demand3 (lawful_canonical 3) p1_grown 1 (replicate 8 0) (replicate 2 0) (replicate 2 0) (replicate 2 0) (record { labels = 1; bases = 4 }) p1_accepted
