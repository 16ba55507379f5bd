-- Marks of which only the first n are lent: the rest stay, and all else is the same. Assumes nothing.
use mathlib.Core.Path.{◌≡◌, refl, ap, ◌∙◌}
use mathlib.Core.Bool.{Bool, true, false, cond, ◌||◌}
use mathlib.Core.List.{List, ◌++◌}
use Prim.Native.Nat.{ℕ, ◌≤◌}
use native.Mathlib.Omega.{arith}
use lib.Dec.{ltb}
use Rattle.std.specs.Prelude.{Result}
use lib.ListN.{length, take, drop, replicate, length-replicate}
use lib.Seq.{length-take-le}
use Rattle.state.specs.Counted.{Kind}
use Rattle.graph.specs.Table.{keys_of, table_of}
use Rattle.graph.specs.Labels.{Run, run}
use Rattle.graph.specs.Contraction.{Contracted, end_to_end, ends_in, written, finish}
use Rattle.graph.proofs.Keys.{keys_length}
use Rattle.laws.proofs.Runs.{run_toured}
use Rattle.marks.specs.Ready.{FitTable}
use Rattle.contraction.specs.Says.{Contracts, finish_in}
use Rattle.contraction.specs.declared.Unitigs.{Unitigs}
use Rattle.contraction.specs.declared.ContractError.{ContractError}
use Rattle.dna.proofs.Overwriting.{over_first}

-- Two contractions that differ in marks alone: the second has some more behind.
record Wider (rest : List ℕ) (c d : Contracted) : Type 0 where
  answer : c.answer ≡ d.answer
  labels : c.labels ≡ d.labels
  starts : c.starts ≡ d.starts
  lengths : c.lengths ≡ d.lengths
  marks : c.marks ++ rest ≡ d.marks

arms : (P : Contracted → Contracted → Type 0) (t : Bool) {a b c d : Contracted} → P a c → P b d
    → P (cond t a b) (cond t c d)
arms P true p q = p
arms P false p q = q

module _ (κ : Kind) (K cutoff n : ℕ) (keys counts labels starts lengths marks : List ℕ) (h : n ≤ length marks) where
  finish_wider : (r : Run) → length r.marks ≤ n
      → Wider (drop n marks) (finish κ K cutoff n keys counts labels starts lengths (take n marks) r)
      (finish κ K cutoff n keys counts labels starts lengths marks r)
  unfolding finish written
  finish_wider r l =
      let zeros = over_first (replicate n 0) marks n (omega (arith, length-replicate {A = ℕ} n 0)) h in
      arms (Wider (drop n marks)) r.missed
      (record { answer = refl; labels = refl; starts = refl; lengths = refl; marks = zeros })
      (arms (Wider (drop n marks))
      (ltb (length labels) (length (end_to_end r.labels)) || ltb (length starts) (length r.labels)
      || ltb (length lengths) (length r.labels))
      (record { answer = refl; labels = refl; starts = refl; lengths = refl; marks = zeros })
      (record { answer = refl; labels = refl; starts = refl; lengths = refl; marks = over_first r.marks marks n l h }))

  pub first_marks : FitTable K keys counts (take n marks)
      → {z : Result Unitigs ContractError} {labels' starts' lengths' marks' : List ℕ}
      → Contracts z labels' starts' lengths' marks'
      (finish_in κ K cutoff (length (take n marks)) keys counts labels starts lengths (take n marks))
      → Contracts z labels' starts' lengths' (marks' ++ drop n marks)
      (finish_in κ K cutoff n keys counts labels starts lengths marks)
  first_marks t c₀ =
      let e : length (take n marks) ≡ n = length-take-le n marks h in
      let k : n ≤ length (keys_of n keys) = omega (arith, t.room, keys_length n keys) in
      let c = rw e at c₀ in
      let w = finish_wider (run K (keys_of n keys) (ends_in κ cutoff (table_of n keys counts)) n)
      (omega (
        arith,
        (run_toured K (keys_of n keys) (ends_in κ cutoff (table_of n keys counts)) n k).long,
        keys_length n keys,
      )) in
      record {
        answer = c.answer ∙ w.answer;
        labels_after = c.labels_after ∙ w.labels;
        starts_after = c.starts_after ∙ w.starts;
        lengths_after = c.lengths_after ∙ w.lengths;
        marks_after = ap (λ (m : List ℕ). m ++ drop n marks) c.marks_after ∙ w.marks;
      }
