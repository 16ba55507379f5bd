-- Contraction called again over what it left gives the same answer and leaves the same. Assumes nothing.
use mathlib.Core.Path.{◌≡◌, ◌∙◌}
use mathlib.Core.Bool.{Bool, true, false, not, ◌||◌}
use mathlib.Core.List.{List, [], map}
use Prim.Native.Nat.{ℕ, ◌≤◌}
use native.Mathlib.Omega.{arith}
use borrow.Author.Tests.{ltb-false, not-false}
use lib.Dec.{ltb}
use lib.ListN.{length, replicate, length-map, length-replicate}
use Rattle.lemmas.proofs.Tests.{choose, or_first, or_second}
use Rattle.dna.specs.Text.{over}
use Rattle.dna.specs.Answer.{refuses}
use Rattle.dna.proofs.Overwriting.{length_over, over_over}
use Rattle.kmer.specs.Kmer.{ok_k}
use Rattle.state.specs.Counted.{Kind, answers_for}
use Rattle.graph.specs.Table.{table_of, keys_of, fit_for}
use Rattle.graph.specs.Labels.{Run, run}
use Rattle.graph.specs.Contraction.{Entry, Contracted, entries, sorted, end_to_end, ends_in, written, finish, contract}
use Rattle.graph.proofs.Accepted.{fit_for_both, fit_length}
use Rattle.laws.proofs.Runs.{run_toured}
use Rattle.laws.proofs.Indexed.{sorted_length}

-- The same text twice.
twice : (text slice : List ℕ) → over text (over text slice) ≡ over text slice
twice text slice = over_over text text slice (omega arith)

module _ (κ : Kind) (K cutoff n : ℕ) (keys counts : List ℕ) where
  -- The same call over what c left.
  abbrev Same : Contracted → Type 0
  Same c = contract κ K cutoff n keys counts c.labels c.starts c.lengths c.marks ≡ c

  module _ (labels starts lengths marks : List ℕ) where
    abbrev all : Run
    all = run K (keys_of n keys) (ends_in κ cutoff (table_of n keys counts)) n

    abbrev lacking : Bool
    lacking =
        ltb (length labels) (length (end_to_end all.labels)) || ltb (length starts) (length all.labels)
        || ltb (length lengths) (length all.labels)

    module _ (ok : not (ok_k K) ≡ false) (fits : not (fit_for κ K n keys counts) ≡ false) (answers : not (answers_for κ cutoff) ≡ false) (marked : ltb (length marks) n ≡ false) where
      room : n ≤ length marks
      room = ltb-false (length marks) n marked

      cleared : length (over (replicate n 0) marks) ≡ length marks
      cleared = length_over (replicate n 0) marks (omega (arith, room, length-replicate {A = ℕ} n 0))

      -- A refusal that clears the marks.
      abbrev blank : ℕ → Contracted
      blank r = record { answer = refuses r []; labels = labels; starts = starts; lengths = lengths; marks = over (replicate n 0) marks }

      after_8 : all.missed ≡ true → Same (blank 8)
      unfolding contract finish
      after_8 h = rw (ok, fits, answers, cleared, marked, h, twice (replicate n 0) marks)

      after_9 : all.missed ≡ false → lacking ≡ true → Same (blank 9)
      unfolding contract finish
      after_9 h l = rw (ok, fits, answers, cleared, marked, h, l, twice (replicate n 0) marks)

      -- Where all has room, what is written is as long as before.
      after_list : all.missed ≡ false → lacking ≡ false → Same (written κ K cutoff n keys counts labels starts lengths marks all)
      unfolding contract finish written
      after_list h l =
          let ls = all.labels in
          let es = sorted (entries 0 all.labels) in
          let text = end_to_end all.labels in
          let ss = map (λ (e : Entry). e.start) (sorted (entries 0 all.labels)) in
          let zs = map (λ (e : Entry). length e.label) (sorted (entries 0 all.labels)) in
          let b : Bool = ltb (length labels) (length (end_to_end all.labels)) in
          let s : Bool = ltb (length starts) (length all.labels) in
          let z : Bool = ltb (length lengths) (length all.labels) in
          let k = fit_length K n keys counts (fit_for_both κ K n keys counts (not-false (fit_for κ K n keys counts) fits)).0 in
          let lb : length (over text labels) ≡ length labels = length_over text labels (ltb-false _ _ (or_first b s (or_first (b || s) z l))) in
          let ns : length ss ≡ length ls = length-map es (λ (e : Entry). e.start) ∙ sorted_length 0 ls in
          let nz : length zs ≡ length ls = length-map es (λ (e : Entry). length e.label) ∙ sorted_length 0 ls in
          let lt : length (over ss starts) ≡ length starts =
          length_over ss starts (omega (arith, ns, ltb-false (length starts) (length ls) (or_second b s (or_first (b || s) z l)))) in
          let lz : length (over zs lengths) ≡ length lengths =
          length_over zs lengths (omega (arith, nz, ltb-false (length lengths) (length ls) (or_second (b || s) z l))) in
          let m = (run_toured K (keys_of n keys) (ends_in κ cutoff (table_of n keys counts)) n (omega (arith, k))).long in
          let lm : length (over all.marks marks) ≡ length marks = length_over all.marks marks (omega (arith, m, k, room)) in
          rw (ok, fits, answers, lm, marked, h, lb, lt, lz, l, twice text labels, twice ss starts, twice zs lengths, twice all.marks marks)

      after_finish : Same (finish κ K cutoff n keys counts labels starts lengths marks all)
      unfolding finish
      after_finish = choose Same all.missed after_8 (λ h. choose Same lacking (after_9 h) (after_list h))

    pub contract_again : Same (contract κ K cutoff n keys counts labels starts lengths marks)
    unfolding contract
    contract_again =
        choose Same (not (ok_k K)) (λ ok. rw ok)
        (λ ok. choose Same (not (fit_for κ K n keys counts)) (λ fits. rw (ok, fits))
        (λ fits. choose Same (not (answers_for κ cutoff)) (λ answers. rw (ok, fits, answers))
        (λ answers. choose Same (ltb (length marks) n) (λ few. rw (ok, fits, answers, few)) (λ marked. after_finish ok fits answers marked))))
