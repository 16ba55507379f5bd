-- How contraction ends before a walk is followed: the refusals 1, 5, 15, 7, and what the rest may rely on. Assumes
-- nothing.
use mathlib.Core.Path.{◌≡◌, refl}
use mathlib.Core.Bool.{true, false}
use mathlib.Core.List.{List}
use Prim.Native.Nat.{ℕ, ◌≤◌, ◌<◌}
use lib.ListN.{length, take}
use Rattle.std.specs.Prelude.{Result, Ok, Err}
use borrow.Author.Tests.{lt-ltb, le-ltb}
use Rattle.kmer.specs.Kmer.{ok_k}
use Rattle.state.specs.Counted.{Kind, answers_for}
use Rattle.graph.specs.Table.{fit, fit_for}
use Rattle.graph.specs.Contraction.{Contracted, contract}
use Rattle.graph.proofs.Accepted.{fit_for_both}
use Rattle.table.specs.Calls.{fit_answer, fit_call}
use Rattle.table.specs.declared.FitError.{FitError}
use Rattle.table.specs.declared.FitError.TheVariants.{Unfit, UnsupportedK}
use Rattle.table.proofs.Told.{told_unsupported, told_unfit, told_fit}
use Rattle.marks.specs.Ready.{FitTable}
use Rattle.marks.proofs.Made.{fit_first}
use Rattle.contraction.specs.Says.{contract_answer, refused_fit, Contracts, finish_in}
use Rattle.contraction.specs.declared.Unitigs.{Unitigs}
use Rattle.contraction.specs.declared.ContractError.{ContractError}
use Rattle.contraction.specs.declared.ContractError.TheVariants.{WrongCutoff, FewMarks}

-- An answer that changes nothing.
stays : {r : Result Unitigs ContractError} {labels starts lengths marks : List ℕ}
    → Contracts r labels starts lengths marks
    (record { answer = contract_answer r; labels = labels; starts = starts; lengths = lengths; marks = marks })
stays = record { answer = refl; labels_after = refl; starts_after = refl; lengths_after = refl; marks_after = refl }

abbrev whole : Kind → ℕ → ℕ → ℕ → List ℕ → List ℕ → List ℕ → List ℕ → List ℕ → List ℕ → Contracted
whole κ K cutoff n keys counts labels starts lengths marks = contract κ K cutoff n keys counts labels starts lengths
    marks

module _ (κ : Kind) (K cutoff n : ℕ) (keys counts labels starts lengths marks : List ℕ) {r : Result (Unit {0}) FitError}
    (t : fit_answer r ≡ fit_call κ K n keys counts) where
  pub unfit : (e : FitError) → r ≡ Err e
      → Contracts (Err (refused_fit e)) labels starts lengths marks
      (whole κ K cutoff n keys counts labels starts lengths marks)
  unfolding contract
  unfit (UnsupportedK k) e =
      let q = told_unsupported κ K n keys counts t e in
      rw (q.0, q.1) stays
  unfit Unfit e =
      let q = told_unfit κ K n keys counts t e in
      rw (q.0, q.1) stays

  module _ (e : r ≡ Ok tt) where
    ok : (ok_k K ≡ true) × (fit_for κ K n keys counts ≡ true)
    ok = told_fit κ K n keys counts t e

    keys_ok : fit K n keys counts ≡ true
    keys_ok = (fit_for_both κ K n keys counts ok.1).0

    pub wrong_cutoff : answers_for κ cutoff ≡ false
        → Contracts (Err WrongCutoff) labels starts lengths marks
        (whole κ K cutoff n keys counts labels starts lengths marks)
    unfolding contract
    wrong_cutoff a = rw (ok.0, ok.1, a) stays

    pub few_marks : answers_for κ cutoff ≡ true → length marks < n
        → Contracts (Err FewMarks) labels starts lengths marks
        (whole κ K cutoff n keys counts labels starts lengths marks)
    unfolding contract
    few_marks a h = rw (ok.0, ok.1, a, lt-ltb (length marks) n h) stays

    module _ (h : n ≤ length marks) where
      pub lent_first : FitTable K keys counts (take n marks)
      lent_first = fit_first K n keys counts marks ok.0 keys_ok h

      pub goes_on : answers_for κ cutoff ≡ true → {z : Result Unitigs ContractError}
          {labels' starts' lengths' marks' : List ℕ}
          → Contracts z labels' starts' lengths' marks' (finish_in κ K cutoff n keys counts labels starts lengths marks)
          → Contracts z labels' starts' lengths' marks' (whole κ K cutoff n keys counts labels starts lengths marks)
      unfolding contract
      goes_on a c = rw (ok.0, ok.1, a, le-ltb (length marks) n h) c
