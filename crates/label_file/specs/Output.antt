-- What the program `unitigs` does with the bytes that it reads: what it prints, and what it leaves in its buffers.
-- Assumes nothing.
use Rattle.std.specs.Prelude.{ℕ, zero, suc, ◌+◌, ◌/◌, ◌%◌, cond, List, [], ◌∷◌, ◌++◌, ltb, take, replicate}
use Rattle.dna.specs.Text.{bytes}
use Rattle.dna.specs.Answer.{Answer, gives, refuses, Filled, fill}
use Rattle.kmer.specs.Kmer.{ok_k}
use Rattle.state.specs.Counted.{four_bits}
use Rattle.graph.specs.Sightings.{same_canonical}
use Rattle.graph.specs.Several.{untried, add_each}
use Rattle.graph.specs.Contraction.{contract, Contracted, Totals}
use Rattle.graph.specs.Fasta.{fasta}
use Rattle.label_file.specs.LabelFile.{damaged, holds, file_of}

-- A number in decimal in front of a text: its last digits, at most so many. Twenty are enough for a word of 64 bits.
unfoldable pub decimal : ℕ → ℕ → List ℕ → List ℕ
decimal zero x s = s
decimal (suc most) x s =
    let d = (48 + x % 10) ∷ s in
    let more = decimal most (x / 10) d in
    cond (ltb x 10) d more

-- Two numbers, a space between, and a newline.
abbrev pub numbers : ℕ → ℕ → List ℕ
numbers x y = decimal 20 x (bytes " " ++ decimal 20 y (bytes "\n"))

-- The line of a refusal, `R n p` and a newline: n the refusal, p the record, or the number of records after the last.
abbrev pub refusal : ℕ → ℕ → List ℕ
refusal n p = bytes "R " ++ numbers n p

-- The buffers that the program lends to the calls.
pub record Buffers : Type 0 where
  pub keys : List ℕ
  pub counts : List ℕ
  pub labels : List ℕ
  pub starts : List ℕ
  pub lengths : List ℕ
  pub marks : List ℕ
  pub text : List ℕ

-- The buffers whose contents are these lists.
abbrev pub lent : List ℕ → List ℕ → List ℕ → List ℕ → List ℕ → List ℕ → List ℕ → Buffers
lent keys counts labels starts lengths marks text = record {
  keys = keys;
  counts = counts;
  labels = labels;
  starts = starts;
  lengths = lengths;
  marks = marks;
  text = text;
}

-- How many bytes of the text are to be printed, and the buffers afterwards. 11 where not even a refusal's line fits the
-- text.
pub record Left : Type 0 where
  pub answer : Answer ℕ
  pub buffers : Buffers

-- The buffers with the table's slices after adding.
abbrev pub with_table : Buffers → List ℕ → List ℕ → Buffers
with_table b keys counts = lent keys counts b.labels b.starts b.lengths b.marks b.text

-- The buffers with what contraction left.
abbrev pub with_list : Buffers → Contracted → Buffers
with_list b c = lent b.keys b.counts c.labels c.starts c.lengths c.marks b.text

-- The buffers with the text that was filled, and the answer of filling it.
abbrev pub with_text : Buffers → Filled → Left
with_text b f = record { answer = f.answer; buffers = lent b.keys b.counts b.labels b.starts b.lengths b.marks f.slice }

-- A refusal prints its line only.
unfoldable pub refused : ℕ → ℕ → Buffers → Left
refused r p b = with_text b (fill 11 (refusal r p) b.text)

-- Success prints the FASTA only; a refusal, after p records, its line only.
unfoldable pub printed : ℕ → List ℕ → Filled → Filled
printed p text f = elim f.answer [ gives n ↦ f | refuses r vs ↦ fill 11 (refusal r p) text ]

-- The list of a table that was contracted after p records.
unfoldable pub listed_after : ℕ → Buffers → Contracted → Left
listed_after p b c =
    let after = with_list b c in
    let text : Totals → Filled = λ t. fasta c.labels c.starts c.lengths t.labels b.text in
    elim c.answer [ gives t ↦ with_text after (printed p b.text (text t)) | refuses r vs ↦ refused r p after ]

-- The labels in order, then contraction and FASTA. The first record is `KC`, so a label with m before it stands in
-- record m + 1.
unfoldable pub list_all : ℕ → ℕ → List (List ℕ) → Buffers → Left
list_all K cutoff labels b =
    let t = add_each four_bits same_canonical K (untried 0 b.keys b.counts) labels in
    let c = contract four_bits K cutoff t.stored t.keys t.counts b.labels b.starts b.lengths b.marks in
    let after = with_table b t.keys t.counts in
    elim t.answer [ gives e ↦ listed_after (suc t.labels) after c | refuses r vs ↦ refused r (suc t.labels) after ]

-- The form is checked first, then K, labels in order, contraction, FASTA.
unfoldable pub output : Buffers → List ℕ → Left
output b file = elim (file_of file) [
  | damaged i ↦ refused 13 i b
  | holds K cutoff labels ↦ cond (ok_k K) (list_all K cutoff labels b) (refused 1 0 b)
]

-- The program's own buffers: 1,024 vertices, 1,024 index entries, 8,192 label bytes and 8,192 FASTA bytes, filled with
-- zeros.
abbrev pub zeros : Buffers
zeros = record {
  keys = replicate 2048 0;
  counts = replicate 1024 0;
  labels = replicate 8192 0;
  starts = replicate 1024 0;
  lengths = replicate 1024 0;
  marks = replicate 1024 0;
  text = replicate 8192 0;
}

-- What is printed.
abbrev pub printing : Left → List ℕ
printing l = elim l.answer [ gives n ↦ take n l.buffers.text | refuses r vs ↦ [] ]

-- The program: what it prints for a file.
abbrev pub unitigs : List ℕ → List ℕ
unitigs file = printing (output zeros file)

-- Opens this file's definitions to a proof that computes.
unfoldable pub open_output : Unit {0}
unfolding decimal refused printed listed_after list_all output
open_output = tt
