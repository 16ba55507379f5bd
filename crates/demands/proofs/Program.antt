-- Demand 3 of the very bytes that the program prints: where nothing is refused, they are the records of a list that meets it. Assumes nothing.
use mathlib.Core.Path.{◌≡◌, ap, ◌∙◌}
use mathlib.Core.Bool.{true}
use mathlib.Core.List.{List, []}
use Prim.Native.Nat.{ℕ, suc, ◌≤◌}
use borrow.Author.Tests.{le-ltb}
use lib.ListN.{length, drop, length-replicate}
use lib.Seq.{take-append_seam}
use Rattle.dna.specs.Text.{over}
use Rattle.dna.specs.Answer.{gives, Filled}
use Rattle.kmer.specs.Kmer.{ok_k}
use Rattle.state.specs.Counted.{four_bits}
use Rattle.label_index.specs.Entries.{listed, within}
use Rattle.graph.specs.Sightings.{same_canonical}
use Rattle.graph.specs.Adding.{Edges}
use Rattle.graph.specs.Several.{Several, untried}
use Rattle.graph.specs.Contraction.{Totals, Contracted}
use Rattle.graph.specs.Fasta.{records_of, fasta}
use Rattle.label_file.specs.LabelFile.{holds, file_of}
use Rattle.label_file.specs.Output.{Buffers, with_table, with_list, with_text, printed, listed_after, list_all, output, zeros, printing, unitigs}
use Rattle.laws.specs.Grown.{Grown.fresh}
use Rattle.laws.specs.Demand.{OneBase, Demand3}
use Rattle.laws.proofs.Symmetry.{lawful_canonical}
use Rattle.laws.proofs.Demand.{demand3}
use Rattle.laws.proofs.Listed.{contract_within}
use Rattle.demands.specs.Printed.{table, keys, ends, result, list}
use Rattle.demands.proofs.Growing.{grows}

-- A list whose index lies within its bytes, and whose records fit the text, is printed whole.
module _ (p : ℕ) (b : Buffers) (c : Contracted) {t : Totals} (given : c.answer ≡ gives t)
    (inside : within c.labels t.labels c.starts c.lengths ≡ true)
    (room : length (records_of (listed t.labels c.labels c.starts c.lengths)) ≤ length b.text) where
  abbrev all : List ℕ
  all = records_of (listed t.labels c.labels c.starts c.lengths)

  filled : fasta c.labels c.starts c.lengths t.labels b.text ≡ record { answer = gives (length all); slice = over all b.text }
  unfolding fasta
  filled = rw (inside, le-ltb (length b.text) (length all) room)

  pub list_printed : printing (listed_after p b c) ≡ all
  unfolding listed_after printed
  list_printed =
      rw (given, listed_after)
      (ap (λ (f : Filled). printing (with_text (with_list b c) (printed p b.text f))) filled ∙ take-append_seam all (drop (length all) b.text))

module _ (K cutoff : ℕ) (labels : List (List ℕ)) {t : Totals} (given : (result K cutoff labels).answer ≡ gives t) where
  abbrev start : Several
  start = untried 0 zeros.keys zeros.counts

  pub list_meets : Demand3 K (keys K labels) (ends K cutoff labels) (OneBase K) (list K cutoff labels t.labels)
  list_meets =
      demand3 (lawful_canonical K) (grows four_bits same_canonical K start labels [] (fresh zeros.keys zeros.counts)).grown cutoff zeros.labels zeros.starts zeros.lengths
      zeros.marks t given

  pub list_inside : (let c = result K cutoff labels in within c.labels t.labels c.starts c.lengths ≡ true)
  list_inside =
      let s = table K labels in
      contract_within four_bits K cutoff s.stored s.keys s.counts zeros.labels zeros.starts zeros.lengths zeros.marks t given

-- Where no label is refused, the program lists the table.
pub lists : (file : List ℕ) {K cutoff : ℕ} {labels : List (List ℕ)} → file_of file ≡ holds K cutoff labels → ok_k K ≡ true
    → {e : Edges} → (table K labels).answer ≡ gives e
    → (let s = table K labels in
    output zeros file ≡ listed_after (suc s.labels) (with_table zeros s.keys s.counts) (result K cutoff labels))
unfolding output list_all
lists file sound supported added = rw (sound, output, supported, added, list_all)

-- Where the form, K, the labels and contraction are not refused, and the records fit the text: they are what is printed, and the list meets
-- demand 3.
pub program_prints : (file : List ℕ) {K cutoff : ℕ} {labels : List (List ℕ)} → file_of file ≡ holds K cutoff labels → ok_k K ≡ true
    → {e : Edges} → (table K labels).answer ≡ gives e
    → {t : Totals} → (result K cutoff labels).answer ≡ gives t
    → length (records_of (list K cutoff labels t.labels)) ≤ 8192
    → (unitigs file ≡ records_of (list K cutoff labels t.labels))
    × Demand3 K (keys K labels) (ends K cutoff labels) (OneBase K) (list K cutoff labels t.labels)
program_prints file {K} {cutoff} {labels} sound supported added {t} given fits =
    let s = table K labels in
    let room : length (records_of (list K cutoff labels t.labels)) ≤ length zeros.text = rw (length-replicate {A = ℕ} 8192 0) fits in (
      ap printing (lists file sound supported added)
          ∙ list_printed (suc s.labels) (with_table zeros s.keys s.counts) (result K cutoff labels) given (list_inside K cutoff labels given) room,
      list_meets K cutoff labels given,
    )
