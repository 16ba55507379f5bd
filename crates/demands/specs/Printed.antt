-- What the program `unitigs` works out of a file, and what it may print. Assumes nothing.
use Rattle.std.specs.Prelude.{ℕ, suc, ◌≤◌, ◌<◌, ◌≡◌, true, false, List, length}
use Rattle.dna.specs.Answer.{gives, refuses}
use Rattle.kmer.specs.Kmer.{ok_k}
use Rattle.state.specs.Counted.{four_bits}
use Rattle.label_index.specs.Entries.{listed}
use Rattle.graph.specs.Table.{table_of, keys_of}
use Rattle.graph.specs.Walks.{Ends}
use Rattle.graph.specs.Sightings.{same_canonical}
use Rattle.graph.specs.Adding.{Edges}
use Rattle.graph.specs.Several.{Several, untried, add_each}
use Rattle.graph.specs.Contraction.{Totals, Contracted, ends_in, contract}
use Rattle.graph.specs.Fasta.{records_of}
use Rattle.label_file.specs.LabelFile.{damaged, holds, file_of}
use Rattle.label_file.specs.Output.{zeros, refusal}
use Rattle.laws.specs.Demand.{OneBase, Demand3}

-- ---- in the program's own buffers, for K, a cutoff and labels

-- The labels added in order, to no vertices,
abbrev pub table : ℕ → List (List ℕ) → Several
table K labels = add_each four_bits same_canonical K (untried 0 zeros.keys zeros.counts) labels

-- the k-mers that are stored then,
abbrev pub keys : ℕ → List (List ℕ) → List ℕ
keys K labels = let t = table K labels in keys_of t.stored t.keys

-- what the cutoff retains on the sides of each,
abbrev pub ends : ℕ → ℕ → List (List ℕ) → List Ends
ends K cutoff labels = let t = table K labels in ends_in four_bits cutoff (table_of t.stored t.keys t.counts)

-- the table contracted,
abbrev pub result : ℕ → ℕ → List (List ℕ) → Contracted
result K cutoff labels =
    let t = table K labels in
    contract four_bits K cutoff t.stored t.keys t.counts zeros.labels zeros.starts zeros.lengths zeros.marks

-- and the labels that so many entries of its index list.
abbrev pub list : ℕ → ℕ → List (List ℕ) → ℕ → List (List ℕ)
list K cutoff labels count = let c = result K cutoff labels in listed count c.labels c.starts c.lengths

-- ---- for a file

-- Why the program prints the line of a refusal, with its number and the record: the form of the file; its K; a label, in the record behind `KC` and the
-- labels before it; and with the number of records, contraction, or a list that exceeds the text. Each comes after those before it.
pub data Refuses (file : List ℕ) : ℕ → ℕ → Type 0 where
  form : {i : ℕ} → file_of file ≡ damaged i → Refuses file 13 i
  bad_k : {K cutoff : ℕ} {labels : List (List ℕ)} → file_of file ≡ holds K cutoff labels → ok_k K ≡ false → Refuses file 1 0
  label : {K cutoff : ℕ} {labels : List (List ℕ)} → file_of file ≡ holds K cutoff labels → ok_k K ≡ true
      → {r : ℕ} {vs : List ℕ} → (table K labels).answer ≡ refuses r vs → Refuses file r (suc (table K labels).labels)
  contraction : {K cutoff : ℕ} {labels : List (List ℕ)} → file_of file ≡ holds K cutoff labels → ok_k K ≡ true
      → {e : Edges} → (table K labels).answer ≡ gives e
      → {r : ℕ} {vs : List ℕ} → (result K cutoff labels).answer ≡ refuses r vs → Refuses file r (suc (length labels))
  text : {K cutoff : ℕ} {labels : List (List ℕ)} → file_of file ≡ holds K cutoff labels → ok_k K ≡ true
      → {e : Edges} → (table K labels).answer ≡ gives e
      → {t : Totals} → (result K cutoff labels).answer ≡ gives t
      → 8192 < length (records_of (list K cutoff labels t.labels)) → Refuses file 11 (suc (length labels))

-- The line of a refusal for its reason; or, where nothing is refused, the records of the file's list, which meets demand 3.
pub data Prints (file text : List ℕ) : Type 0 where
  refusing : {r p : ℕ} → Refuses file r p → text ≡ refusal r p → Prints file text
  listing : {K cutoff : ℕ} {labels : List (List ℕ)} → file_of file ≡ holds K cutoff labels → ok_k K ≡ true
      → {e : Edges} → (table K labels).answer ≡ gives e
      → {t : Totals} → (result K cutoff labels).answer ≡ gives t
      → length (records_of (list K cutoff labels t.labels)) ≤ 8192
      → text ≡ records_of (list K cutoff labels t.labels)
      → Demand3 K (keys K labels) (ends K cutoff labels) (OneBase K) (list K cutoff labels t.labels) → Prints file text
