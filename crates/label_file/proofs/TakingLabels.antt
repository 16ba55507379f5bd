-- A file's labels added by its index, which lies within the file, and what is done with the table. Assumes nothing.
use mathlib.Core.Path.{◌≡◌, refl, sym, ap, subst}
use mathlib.Core.Bool.{not}
use mathlib.Core.List.{List, [], ◌∷◌}
use Prim.Native.Nat.{ℕ, suc, ◌+◌, ◌≤◌}
use native.Mathlib.Numerals.{add-one}
use native.Mathlib.Omega.{arith}
use lib.Dec.{ltb}
use lib.ListN.{length}
use Rattle.std.specs.Prelude.{Result, Ok, Err, IsOk}
use Rattle.lemmas.proofs.Tests.{choose}
use Rattle.dna.specs.Answer.{Answer, gives, refuses}
use Rattle.dna.proofs.Answers.{either}
use Rattle.dna.specs.Letters.{first_bad}
use Rattle.kmer.specs.Kmer.{ok_k}
use Rattle.state.specs.Counted.{Kind, four_bits}
use Rattle.label_index.proofs.Entries.{listed_few}
use Rattle.graph.specs.Sightings.{Rule, same_canonical}
use Rattle.graph.specs.Adding.{Edges, Added, added, add_bases, add_label}
use Rattle.graph.specs.Table.{table_of, capacity, fit_for}
use Rattle.graph.specs.Several.{Several, untried, add_next, add_each, add_labels}
use Rattle.graph.proofs.Several.{each_few}
use Rattle.adding.specs.declared.Addition.{Addition}
use Rattle.adding.specs.declared.Additions.{Additions}
use Rattle.adding.specs.declared.AddError.{AddError}
use Rattle.adding.specs.declared.OutOfText.{OutOfText}
use Rattle.adding.specs.Says.{add_answer, labels_say, AddsLabels}
use Rattle.label_file.specs.LabelFile.{file_of, labels_of}
use Rattle.label_file.specs.Says.{Indexes, Takes}
use Rattle.label_file.specs.Reasons.{Numbers}
use Rattle.label_file.specs.declared.refusal.Reason.{Reason}

-- ---- a label is refused by a number up to 6, an index by 12

abbrev Low : Answer Edges → Type 0
Low (gives e) = Unit {0}
Low (refuses r vs) = r ≤ 6

module _ (κ : Kind) (rule : Rule) (K : ℕ) where
  module _ (n : ℕ) (keys counts label : List ℕ) where
    abbrev LowAfter : Added → Type 0
    LowAfter a = Low a.answer

    bases_low : (bad : List ℕ) → LowAfter (add_bases κ rule K n keys counts label bad)
    unfolding add_bases
    bases_low [] =
        let t = added κ rule K label (table_of n keys counts) in
        choose LowAfter (ltb (capacity keys counts) (length t.keys)) (λ _. omega arith) (λ _. tt)
    bases_low (place ∷ byte) = omega arith

    label_low : LowAfter (add_label κ rule K n keys counts label)
    unfolding add_label
    label_low =
        choose LowAfter (not (ok_k K)) (λ _. omega arith)
        (λ _. choose LowAfter (not (fit_for κ K n keys counts)) (λ _. omega arith)
        (λ _. choose LowAfter (ltb 4096 (length label)) (λ _. omega arith)
        (λ _. choose LowAfter (ltb (length label) K) (λ _. tt) (λ _. bases_low (first_bad 0 label)))))

  next_low : (s : Several) (label : List ℕ) → Low (add_next κ rule K s label).answer
  unfolding add_next
  next_low s label =
      let a = add_label κ rule K s.stored s.keys s.counts label in
      either (λ (t : Several). Low t.answer) a.answer (λ e _. tt)
      (λ r vs e. rw e at (label_low s.stored s.keys s.counts label))

  each_low : (s : Several) (ls : List (List ℕ)) → Low s.answer → Low (add_each κ rule K s ls).answer
  unfolding add_each
  each_low s [] h = h
  each_low s (l ∷ ls) h =
      either (λ (t : Several). Low t.answer) s.answer (λ e _. each_low (add_next κ rule K s l) ls (next_low s l))
      (λ r vs e. h)

-- ---- the labels of a file

module _ (k : ℕ) (file keys₀ counts₀ : List ℕ) where
  abbrev whole : Several
  whole = add_each four_bits same_canonical k (untried 0 keys₀ counts₀) (labels_of (file_of file))

  module _ {count : ℕ} {starts lengths : List ℕ} (x : Indexes file count starts lengths) where
    by_index : add_labels four_bits same_canonical k 0 keys₀ counts₀ file starts lengths count ≡ whole
    unfolding add_labels
    by_index = rw (x.inside, x.labels)

    few : whole.labels ≤ 4096
    few =
        omega (
          arith,
          each_few four_bits same_canonical k (untried 0 keys₀ counts₀) (labels_of (file_of file)),
          ap length x.labels,
          listed_few count file starts lengths,
          x.few,
        )

    abbrev by_entries : Several
    by_entries = add_labels four_bits same_canonical k 0 keys₀ counts₀ file starts lengths count

    module _ {a : Result Additions OutOfText} {keys counts : List ℕ} (t : AddsLabels 0 a keys counts by_entries) where
      same : AddsLabels 0 a keys counts whole
      same = rw by_index at t

      -- The index is not refused.
      pub tried : IsOk a
      tried = go a same.says
        where
          go : (a : Result Additions OutOfText) → labels_say 0 a whole → IsOk a
          go (Ok b) s = refl
          go (Err e) s =
              let each = each_low four_bits same_canonical k (untried 0 keys₀ counts₀) (labels_of (file_of file)) tt in
              let low : Low (refuses 12 []) = rw (← s.2) at each in
              absurd (omega arith)

      module _ {b : Additions} (e : a ≡ Ok b) where
        said : labels_say 0 (Ok b) whole
        said = rw e at same.says

        pub taken_few : b.labels ≤ 4096
        taken_few = omega (arith, few, said.0)

        -- None is refused.
        pub takes_all : {d : Addition} → b.last ≡ Ok d
            → Takes (Ok (record { vertices = b.stored; records = b.labels + 1 })) keys counts whole
        takes_all {d} q = record {
          says = (
            (record { edges = d.edges; stored = d.stored }, rw q at (sym said.2)),
            said.1,
            rw (add-one b.labels) (ap suc said.0),
          );
          keys_after = same.keys_after;
          counts_after = same.counts_after;
        }

        -- One is refused.
        pub takes_some : {d : AddError} {r : Reason} → b.last ≡ Err d → Numbers (add_answer (Err d)) r
            → Takes (Err (record { reason = r; at = b.labels + 1 })) keys counts whole
        takes_some {d} {r} q n = record {
          says = (subst (λ (z : Answer Edges). Numbers z r) (rw q at said.2) n, rw (add-one b.labels) (ap suc said.0));
          keys_after = same.keys_after;
          counts_after = same.counts_after;
        }
