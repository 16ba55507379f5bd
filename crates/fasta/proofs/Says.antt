-- The definition of the answers tells them apart, so the call's contract allows one answer and one content of the
-- slice; what each answer has to show. Assumes nothing.
use mathlib.Core.Path.{◌≡◌, refl, sym, ◌∙◌}
use mathlib.Core.Bool.{true, false}
use mathlib.Core.List.{List}
use Prim.Native.Nat.{ℕ, ◌≤◌, ◌<◌}
use Rattle.std.specs.Prelude.{Result, Ok, Err}
use borrow.Author.Tests.{lt-ltb, le-ltb}
use lib.ListN.{length}
use Rattle.dna.specs.Text.{over}
use Rattle.dna.specs.Answer.{Filled}
use Rattle.label_index.specs.Entries.{listed, within}
use Rattle.graph.specs.Fasta.{records_of, fasta}
use Rattle.fasta.specs.Sizes.{size_of}
use Rattle.fasta.specs.Says.{fasta_answer, Lists}
use Rattle.fasta.proofs.Records.{records_size}
use Rattle.fasta.specs.declared.FastaError.{FastaError}
use Rattle.fasta.specs.declared.FastaError.TheVariants.{NoRoom, OutOfLabels}

pub fasta_inj : (a b : Result ℕ FastaError) → fasta_answer a ≡ fasta_answer b → a ≡ b
fasta_inj (Ok n) (Ok m) h = cc
fasta_inj (Ok n) (Err NoRoom) h = cc
fasta_inj (Ok n) (Err OutOfLabels) h = cc
fasta_inj (Err NoRoom) (Ok m) h = cc
fasta_inj (Err NoRoom) (Err NoRoom) h = refl
fasta_inj (Err NoRoom) (Err OutOfLabels) h = cc
fasta_inj (Err OutOfLabels) (Ok m) h = cc
fasta_inj (Err OutOfLabels) (Err NoRoom) h = cc
fasta_inj (Err OutOfLabels) (Err OutOfLabels) h = refl

pub lists_one : (r s : Result ℕ FastaError) {out out' : List ℕ} {f : Filled} → Lists r out f → Lists s out' f
    → (r ≡ s) × (out ≡ out')
lists_one r s p q = (fasta_inj r s (p.answer ∙ sym q.answer), p.slice ∙ sym q.slice)

module _ (labels starts lengths : List ℕ) (count : ℕ) (slice : List ℕ) where
  -- An entry is not there or lies past the labels.
  pub lists_outside : within labels count starts lengths ≡ false
      → Lists (Err OutOfLabels) slice (fasta labels starts lengths count slice)
  unfolding fasta
  lists_outside w = rw w (record { answer = refl; slice = refl })

  module _ (w : within labels count starts lengths ≡ true) where
    -- The text does not fit.
    pub lists_none : length slice < size_of count lengths
        → Lists (Err NoRoom) slice (fasta labels starts lengths count slice)
    unfolding fasta
    lists_none h =
        let l : length slice < length (records_of (listed count labels starts lengths)) = rw
        (records_size labels count starts lengths w) h in
        rw (w, lt-ltb (length slice) (length (records_of (listed count labels starts lengths))) l)
        (record { answer = refl; slice = refl })

    -- It is written whole.
    pub lists_all : (n : ℕ) (out : List ℕ) → size_of count lengths ≤ length slice → n ≡ size_of count lengths
        → out ≡ over (records_of (listed count labels starts lengths)) slice
        → Lists (Ok n) out (fasta labels starts lengths count slice)
    unfolding fasta
    lists_all n out h e o =
        let s : length (records_of (listed count labels starts lengths))
        ≡ size_of count lengths = records_size labels count starts lengths w in
        let l : length (records_of (listed count labels starts lengths)) ≤ length slice = rw s h in
        rw (w, le-ltb (length slice) (length (records_of (listed count labels starts lengths))) l)
        (record { answer = rw (e, s); slice = o })
