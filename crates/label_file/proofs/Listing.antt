-- What listing a table leaves in the text and in the buffers. Assumes nothing.
use mathlib.Core.Path.{◌≡◌, refl, sym, ◌∙◌}
use mathlib.Core.List.{List}
use Prim.Native.Nat.{ℕ}
use lib.Dec.{ltb}
use lib.ListN.{length}
use Rattle.std.specs.Prelude.{Ok, Err}
use Rattle.lemmas.proofs.Tests.{choose}
use Rattle.dna.specs.Answer.{gives, refuses, Filled}
use Rattle.dna.proofs.Answers.{ungiven}
use Rattle.state.specs.Counted.{four_bits}
use Rattle.label_index.specs.Entries.{listed, within}
use Rattle.graph.specs.Contraction.{contract, Contracted}
use Rattle.graph.specs.Fasta.{records_of, fasta}
use Rattle.fasta.specs.declared.FastaError.{FastaError}
use Rattle.fasta.specs.Says.{fasta_answer, Lists as ListsFasta}
use Rattle.contraction.specs.declared.Unitigs.{Unitigs}
use Rattle.contraction.specs.declared.ContractError.{ContractError}
use Rattle.contraction.specs.Says.{contract_answer, Contracts}
use Rattle.label_file.specs.Output.{Buffers, lent, with_text, refused, printed, listed_after}
use Rattle.label_file.specs.Reasons.{number_of, besides, Numbers}
use Rattle.label_file.specs.declared.refusal.Reason.{Reason}

module _ (labels starts lengths : List ℕ) (count : ℕ) (text : List ℕ) where
  -- A list that is refused leaves the text.
  fasta_kept : (r : ℕ) (vs : List ℕ) → (fasta labels starts lengths count text).answer ≡ refuses r vs
      → (fasta labels starts lengths count text).slice ≡ text
  unfolding fasta
  fasta_kept r vs =
      let all = records_of (listed count labels starts lengths) in
      choose (λ (f : Filled). f.answer ≡ refuses r vs → f.slice ≡ text) (within labels count starts lengths)
      (λ w. choose (λ (f : Filled). f.answer ≡ refuses r vs → f.slice ≡ text) (ltb (length text) (length all))
      (λ s h. refl) (λ s h. ungiven (length all) r vs h))
      (λ w h. refl)

-- The table of the buffers contracted.
abbrev pub contracted : ℕ → ℕ → ℕ → Buffers → Contracted
contracted k cutoff n b = contract four_bits k cutoff n b.keys b.counts b.labels b.starts b.lengths b.marks

module _ (p : ℕ) (b : Buffers) (c : Contracted) (labels starts lengths marks : List ℕ) where
  -- The table is not contracted.
  pub listed_refused : (r : Reason) {e : ContractError} → Contracts (Err e) labels starts lengths marks c
      → Numbers (contract_answer (Err e)) r
      → listed_after p b c ≡ refused (number_of r) p (lent b.keys b.counts labels starts lengths marks b.text)
  unfolding listed_after
  listed_refused r t n =
      let a : c.answer ≡ refuses (number_of r) (besides (contract_answer (Err _))) = sym t.answer ∙ n in
      rw (a, listed_after, ← t.labels_after, ← t.starts_after, ← t.lengths_after, ← t.marks_after)

  module _ (u : Unitigs) where
    abbrev written : Filled
    written = fasta labels starts lengths u.labels b.text

    module _ (t : Contracts (Ok u) labels starts lengths marks c) where
      -- What is printed of a contracted one.
      after : listed_after p b c
          ≡ with_text (lent b.keys b.counts labels starts lengths marks b.text) (printed p b.text written)
      unfolding listed_after
      after =
          let a : c.answer ≡ contract_answer (Ok u) = sym t.answer in
          rw (a, listed_after, ← t.labels_after, ← t.starts_after, ← t.lengths_after, ← t.marks_after)

      -- Its list is written.
      pub listed_all : {n : ℕ} {out : List ℕ} → ListsFasta (Ok n) out written
          → listed_after p b c
          ≡ record { answer = gives n; buffers = lent b.keys b.counts labels starts lengths marks out }
      unfolding printed
      listed_all w =
          let a : written.answer ≡ gives _ = sym w.answer in
          after ∙ rw (a, printed, a, ← w.slice)

      -- Its list is not.
      pub listed_large : (r : Reason) {e : FastaError} {out : List ℕ} → ListsFasta (Err e) out written
          → Numbers (fasta_answer (Err e)) r
          → listed_after p b c ≡ refused (number_of r) p (lent b.keys b.counts labels starts lengths marks out)
      unfolding printed refused
      listed_large r w n =
          let a : written.answer ≡ refuses (number_of r) (besides (fasta_answer (Err _))) = sym w.answer ∙ n in
          let kept = w.slice ∙ fasta_kept labels starts lengths u.labels b.text _ _ a in
          after ∙ rw (a, printed, kept)
