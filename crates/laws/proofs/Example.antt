-- What the theorems ask is met by P1's label, and what they except is needed: in P1 the loop of CCC, in P4 an even K; and what the
-- definitions count, computed. Assumes nothing.
use mathlib.Core.Path.{◌≡◌, refl}
use mathlib.Core.Bool.{true}
use mathlib.Core.List.{[], ◌∷◌}
use lib.ListN.{get_or, replicate}
use Rattle.dna.specs.Text.{bytes, open_text}
use Rattle.dna.specs.Letters.{open_letters}
use Rattle.dna.specs.Order.{open_order}
use Rattle.kmer.specs.Kmer.{open_kmer}
use Rattle.state.specs.declared.Side.TheVariants.{Front, Back}
use Rattle.state.specs.Counted.{slot_of, count, four_bits, open_counted}
use Rattle.graph.specs.Table.{table_of, keys_of, open_table}
use Rattle.graph.specs.Sightings.{same_canonical, open_sightings}
use Rattle.graph.specs.Adding.{open_adding}
use Rattle.graph.specs.Walks.{isolated, open_walks}
use Rattle.graph.specs.Labels.{run, open_labels}
use Rattle.graph.specs.Contraction.{ends_in, open_contraction}
use Rattle.laws.specs.Grown.{Grown, fresh, accepts, Joins, seen_in, sighted_in, open_grown}
use Rattle.laws.specs.Windows.{occurs, occurrences, open_windows}

-- P1: the keys of ACC and CCC are 5 and 21.
pub p1_grown : Grown four_bits same_canonical 3 (bytes "ACCCC" ∷ []) 2 (5 ∷ 0 ∷ 21 ∷ 0 ∷ []) (0x00100000 ∷ 0x00100001 ∷ [])
unfolding open_text open_letters open_kmer open_counted open_table open_sightings open_adding
p1_grown = accepts (fresh (replicate 4 0) (replicate 2 0)) (bytes "ACCCC") (record { edges = 2; stored = 2 }) refl

-- C leads from ACC's Back to CCC's Front, and A the same way back.
pub p1_joins : Joins 3 (5 ∷ 21 ∷ []) 0 Back 1 1 Front 0
unfolding open_letters open_kmer
p1_joins = record { there = refl; back = refl }

-- C leads from CCC's Back to its own Front; the one counter is 1, the other 0.
pub p1_loop : Joins 3 (5 ∷ 21 ∷ []) 1 Back 1 1 Front 1 × (count four_bits 0x00100001 (slot_of Back 1) ≡ 1)
    × (count four_bits 0x00100001 (slot_of Front 1) ≡ 0)
unfolding open_letters open_kmer open_counted
p1_loop = (record { there = refl; back = refl }, refl, refl)

-- P4: the keys of AT and CA are 3 and 4.
pub p4_grown : Grown four_bits same_canonical 2 (bytes "ATG" ∷ bytes "CAT" ∷ []) 2 (3 ∷ 0 ∷ 4 ∷ 0 ∷ []) (0x01000010 ∷ 0x20000000 ∷ [])
unfolding open_text open_letters open_kmer open_counted open_table open_sightings open_adding
p4_grown =
    accepts (accepts (fresh (replicate 4 0) (replicate 2 0)) (bytes "CAT") (record { edges = 1; stored = 2 }) refl) (bytes "ATG")
    (record { edges = 1; stored = 2 }) refl

-- T leads from CA's Back to AT's Front; the one counter is 2, the other 1.
pub p4_joins : Joins 2 (3 ∷ 4 ∷ []) 1 Back 3 0 Front 1 × (count four_bits 0x20000000 (slot_of Back 3) ≡ 2)
    × (count four_bits 0x01000010 (slot_of Front 1) ≡ 1)
unfolding open_letters open_kmer open_counted
p4_joins = (record { there = refl; back = refl }, refl, refl)

-- At cutoff 2 AT is isolated, and a walk from CA comes to it.
pub p4_isolated : let ks = keys_of 2 (3 ∷ 0 ∷ 4 ∷ 0 ∷ []) in
    let es = ends_in four_bits 2 (table_of 2 (3 ∷ 0 ∷ 4 ∷ 0 ∷ []) (0x01000010 ∷ 0x20000000 ∷ [])) in
    (isolated es 0 ≡ true) × (occurrences 2 (get_or ks 0 0) (run 2 ks es 2).labels ≡ 1)
unfolding open_text open_letters open_order open_kmer open_counted open_table open_walks open_labels open_contraction open_windows
p4_isolated = (refl, refl)

-- A k-mer is shown and occurs on either strand, and every label is counted.
pub either_strand : (seen_in 3 (bytes "GGGGT" ∷ []) 5 ≡ true) × (occurs 3 5 (bytes "GGT") ≡ 1)
unfolding open_text open_letters open_kmer open_grown open_windows
either_strand = (refl, refl)

pub every_label :
    (sighted_in same_canonical 3 (bytes "ACGG" ∷ bytes "ACGG" ∷ []) 6 (slot_of Back 2) ≡ 2)
    × (occurrences 3 6 (bytes "ACG" ∷ bytes "CCG" ∷ []) ≡ 1)
unfolding open_text open_letters open_kmer open_counted open_sightings open_grown open_windows
every_label = (refl, refl)
