-- A whole run: the form and K, the labels added, then what is done with the table. Assumes nothing.
use mathlib.Core.Path.{◌≡◌, refl, sym, ◌∙◌}
use mathlib.Core.List.{List}
use Prim.Native.Nat.{ℕ, suc}
use Rattle.std.specs.Prelude.{Ok, Err}
use Rattle.dna.specs.Answer.{gives, refuses, fill}
use Rattle.state.specs.Counted.{four_bits}
use Rattle.graph.specs.Sightings.{same_canonical}
use Rattle.graph.specs.Several.{Several, untried, add_each}
use Rattle.label_file.specs.LabelFile.{file_of, labels_of}
use Rattle.label_file.specs.Output.{Buffers, Left, lent, with_table, refusal, refused, listed_after, list_all, output}
use Rattle.label_file.specs.Reasons.{number_of, besides}
use Rattle.label_file.specs.Says.{Fills, Lists, Takes, Leaves, on_file, head_says}
use Rattle.label_file.specs.declared.form.Head.{Head}
use Rattle.label_file.specs.declared.list.Taken.{Taken}
use Rattle.label_file.specs.declared.refusal.Refusal.{Refusal}
use Rattle.label_file.proofs.Listing.{contracted}

-- What is done with K, the cutoff, the number of vertices, the number of records, and the buffers with the table.
abbrev pub Stage : Type 0
Stage = ℕ → ℕ → ℕ → ℕ → Buffers → Left

abbrev pub added : ℕ → List (List ℕ) → Buffers → Several
added k all b = add_each four_bits same_canonical k (untried 0 b.keys b.counts) all

-- It is done with the table of a file's labels, as `output` and `judgement` have it.
abbrev pub on_table : Stage → ℕ → ℕ → List (List ℕ) → Buffers → Left
on_table stage k cutoff all b =
    let t = added k all b in
    let after = with_table b t.keys t.counts in
    let p = suc t.labels in
    elim t.answer [ gives e ↦ stage k cutoff t.stored p after | refuses r vs ↦ refused r p after ]

abbrev pub run : Stage → Buffers → List ℕ → Left
run stage b file = on_file (on_table stage) b file

module _ (stage : Stage) (b : Buffers) where
  module _ (k cutoff : ℕ) (all : List (List ℕ)) {keys counts : List ℕ} where
    table_refused : (e : Refusal) → Takes (Err e) keys counts (added k all b)
        → on_table stage k cutoff all b ≡ refused (number_of e.reason) e.at (with_table b keys counts)
    table_refused e t =
        let a : (added k all b).answer ≡ refuses (number_of e.reason) (besides (added k all b).answer) = t.says.0 in
        rw (a, on_table, ← t.says.1, ← t.keys_after, ← t.counts_after)

    table_taken : (x : Taken) → Takes (Ok x) keys counts (added k all b)
        → on_table stage k cutoff all b ≡ stage k cutoff x.vertices x.records (with_table b keys counts)
    table_taken x t =
        let a : (added k all b).answer ≡ gives t.says.0.0 = t.says.0.1 in
        rw (a, on_table, ← t.says.1, ← t.says.2, ← t.keys_after, ← t.counts_after)

  module _ (file : List ℕ) where
    pub run_headless : (e : Refusal) → head_says (Err e) file → run stage b file ≡ refused (number_of e.reason) e.at b
    run_headless e s = s (on_table stage) b

    module _ (h : Head) (s : head_says (Ok h) file) {keys counts : List ℕ} where
      -- A label is refused.
      pub run_stopped : (e : Refusal) → Takes (Err e) keys counts (added h.k (labels_of (file_of file)) b)
          → run stage b file ≡ refused (number_of e.reason) e.at (with_table b keys counts)
      run_stopped e t = s.1 (on_table stage) b ∙ table_refused h.k h.cutoff (labels_of (file_of file)) e t

      -- None is.
      pub run_taken : (x : Taken) → Takes (Ok x) keys counts (added h.k (labels_of (file_of file)) b)
          → run stage b file ≡ stage h.k h.cutoff x.vertices x.records (with_table b keys counts)
      run_taken x t = s.1 (on_table stage) b ∙ table_taken h.k h.cutoff (labels_of (file_of file)) x t

-- ---- the list

abbrev pub listing : Stage
listing k cutoff n p b = listed_after p b (contracted k cutoff n b)

pub output_run : (b : Buffers) (file : List ℕ) → output b file ≡ run listing b file
unfolding output list_all
output_run b file = refl

-- The line of a refusal put into the text.
pub leaves_line : (e : Refusal) (b : Buffers) (l : Left) → Leaves (Err e) b l → {r : _} {text : List ℕ}
    → Fills r text (fill 11 (refusal (number_of e.reason) e.at) b.text)
    → Lists r (lent b.keys b.counts b.labels b.starts b.lengths b.marks text) l
unfolding refused
leaves_line e b l s f = rw s (record { answer = f.answer; after = rw f.text_after })
