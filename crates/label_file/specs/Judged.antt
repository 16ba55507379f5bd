-- What the program `judge` does with a label file and a list: what it prints, and what it leaves in its buffers.
-- Assumes nothing.
use Rattle.std.specs.Prelude.{ℕ, suc, cond, List, [], ◌++◌, eqb, replicate}
use Rattle.dna.specs.Text.{bytes}
use Rattle.dna.specs.Answer.{Answer, gives, refuses, fill}
use Rattle.kmer.specs.Kmer.{ok_k}
use Rattle.state.specs.Counted.{four_bits}
use Rattle.graph.specs.Sightings.{same_canonical}
use Rattle.graph.specs.Several.{untried, add_each}
use Rattle.rules.specs.Verdict.{Verdict, yes, no}
use Rattle.rules.specs.Judging.{Judgement, judge}
use Rattle.label_file.specs.LabelFile.{damaged, holds, file_of}
use Rattle.label_file.specs.Output.{Buffers, Left, lent, with_table, with_text, numbers, refusal, refused, zeros}
use Rattle.label_file.specs.Output.{printing}

-- The line of a verdict: `yes`; or `no`, the broken rule and the label.
abbrev pub verdict_line : Verdict → List ℕ
verdict_line yes = bytes "yes\n"
verdict_line (no rule label) = bytes "no " ++ numbers rule label

-- The line of what a judgement answers after p records. Refusal 16 is about K, which stands in record 0.
abbrev pub answer_line : ℕ → Answer Verdict → List ℕ
answer_line p (gives v) = verdict_line v
answer_line p (refuses r vs) = refusal r (cond (eqb r 16) 0 p)

-- The buffers that the program lends to the calls: none for labels, and none for an index.
abbrev pub lent_few : List ℕ → List ℕ → List ℕ → List ℕ → Buffers
lent_few keys counts marks text = lent keys counts [] [] [] marks text

-- The buffers with the marks that a judgement after p records left, and with its line.
abbrev pub judged_after : ℕ → Buffers → Judgement → Left
judged_after p b j =
    let after = lent b.keys b.counts b.labels b.starts b.lengths j.marks b.text in
    with_text after (fill 11 (answer_line p j.answer) b.text)

-- The labels in order, as `list_all` has them, then the judgement of the list.
unfoldable pub judge_all : List ℕ → ℕ → ℕ → List (List ℕ) → Buffers → Left
judge_all list K cutoff labels b =
    let t = add_each four_bits same_canonical K (untried 0 b.keys b.counts) labels in
    let j = judge four_bits K cutoff t.stored t.keys t.counts list b.marks in
    let after = with_table b t.keys t.counts in
    elim t.answer [ gives e ↦ judged_after (suc t.labels) after j | refuses r vs ↦ refused r (suc t.labels) after ]

-- The form of the file is checked first, then K, labels in order, the list.
unfoldable pub judgement : Buffers → List ℕ → List ℕ → Left
judgement b file list = elim (file_of file) [
  | damaged i ↦ refused 13 i b
  | holds K cutoff labels ↦ cond (ok_k K) (judge_all list K cutoff labels b) (refused 1 0 b)
]

-- The program's own buffers, filled with zeros: the table and the marks of `unitigs`, and 64 bytes for the line.
abbrev pub few_zeros : Buffers
few_zeros = lent_few zeros.keys zeros.counts zeros.marks (replicate 64 0)

-- The program: what it prints for a file and a list.
abbrev pub judged : List ℕ → List ℕ → List ℕ
judged file list = printing (judgement few_zeros file list)

-- Opens this file's definitions to a proof that computes.
unfoldable pub open_judged : Unit {0}
unfolding judge_all judgement
open_judged = tt
