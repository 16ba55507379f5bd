-- The size that is to be printed lies within the text. Assumes nothing.
use mathlib.Core.Path.{◌≡◌}
use mathlib.Core.Bool.{cond}
use mathlib.Core.List.{List}
use Prim.Native.Nat.{ℕ, suc, ◌≤◌}
use lib.ListN.{length}
use Rattle.lemmas.proofs.Tests.{choose}
use Rattle.dna.specs.Answer.{gives, Filled}
use Rattle.dna.proofs.Inside.{Inside, refused_inside, fill_inside}
use Rattle.dna.proofs.Answers.{either}
use Rattle.kmer.specs.Kmer.{ok_k}
use Rattle.state.specs.Counted.{four_bits}
use Rattle.label_index.specs.Entries.{listed, within}
use Rattle.graph.specs.Sightings.{same_canonical}
use Rattle.graph.specs.Several.{untried, add_each}
use Rattle.graph.specs.Contraction.{Contracted}
use Rattle.graph.specs.Fasta.{records_of, fasta}
use Rattle.rules.specs.Judging.{judge}
use Rattle.label_file.specs.LabelFile.{LabelFile, damaged, holds, file_of}
use Rattle.label_file.specs.Output.{Buffers, Left, with_list, refusal, refused, printed, listed_after, list_all, output}
use Rattle.label_file.specs.Judged.{answer_line, judge_all, judgement}
use Rattle.label_file.specs.Says.{Doing}

abbrev pub Within : Left → Type 0
Within l = (n : ℕ) → l.answer ≡ gives n → n ≤ length l.buffers.text

fasta_inside : (labels starts lengths : List ℕ) (count : ℕ) (text : List ℕ)
    → Inside (fasta labels starts lengths count text)
unfolding fasta
fasta_inside labels starts lengths count text =
    choose Inside (within labels count starts lengths)
    (λ _. fill_inside 11 (records_of (listed count labels starts lengths)) text)
    (λ _. refused_inside 12 _ text)

printed_inside : (p : ℕ) (text : List ℕ) (f : Filled) → Inside f → Inside (printed p text f)
unfolding printed
printed_inside p text f i = either Inside f.answer {f = λ n. f} (λ n _. i) (λ r vs _. fill_inside 11 (refusal r p) text)

refused_within : (r p : ℕ) (b : Buffers) → Within (refused r p b)
unfolding refused
refused_within r p b = fill_inside 11 (refusal r p) b.text

listed_within : (p : ℕ) (b : Buffers) (c : Contracted) → Within (listed_after p b c)
unfolding listed_after
listed_within p b c =
    either Within c.answer
    (λ t _. printed_inside p b.text _ (fasta_inside c.labels c.starts c.lengths t.labels b.text))
    (λ r vs _. refused_within r p (with_list b c))

list_all_within : (K cutoff : ℕ) (labels : List (List ℕ)) (b : Buffers) → Within (list_all K cutoff labels b)
unfolding list_all
list_all_within K cutoff labels b =
    let t = add_each four_bits same_canonical K (untried 0 b.keys b.counts) labels in
    either Within t.answer (λ e _. listed_within (suc t.labels) _ _) (λ r vs _. refused_within r (suc t.labels) _)

judge_all_within : (list : List ℕ) (K cutoff : ℕ) (labels : List (List ℕ)) (b : Buffers)
    → Within (judge_all list K cutoff labels b)
unfolding judge_all
judge_all_within list K cutoff labels b =
    let t = add_each four_bits same_canonical K (untried 0 b.keys b.counts) labels in
    let j = judge four_bits K cutoff t.stored t.keys t.counts list b.marks in
    either Within t.answer (λ e _. fill_inside 11 (answer_line (suc t.labels) j.answer) b.text)
    (λ r vs _. refused_within r (suc t.labels) _)

-- The form and K, and whatever is done with what the file holds.
of_file : (doing : Doing) → ((K cutoff : ℕ) (labels : List (List ℕ)) (b : Buffers) → Within (doing K cutoff labels b))
    → (b : Buffers)
    (f : LabelFile) → Within (elim f [
      | damaged i ↦ refused 13 i b
      | holds K cutoff labels ↦ cond (ok_k K) (doing K cutoff labels b) (refused 1 0 b)
    ])
of_file doing within b (damaged i) = refused_within 13 i b
of_file doing within b (holds K cutoff labels) =
    choose Within (ok_k K) (λ _. within K cutoff labels b) (λ _. refused_within 1 0 b)

pub output_within : (b : Buffers) (file : List ℕ) → Within (output b file)
unfolding output
output_within b file = of_file list_all list_all_within b (file_of file)

pub judgement_within : (b : Buffers) (file list : List ℕ) → Within (judgement b file list)
unfolding judgement
judgement_within b file list = of_file (judge_all list) (judge_all_within list) b (file_of file)
