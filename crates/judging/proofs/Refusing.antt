-- Each answer of the code is the definition's. Assumes nothing.
use Prim.Native.Nat.{ℕ, ◌%◌, ◌≤◌, ◌<◌}
use mathlib.Core.Path.{◌≡◌, refl, sym, ap, ap₂, ◌∙◌, subst}
use mathlib.Core.Bool.{Bool, true, false}
use Rattle.std.proofs.Common.{Option, Some, None, Result, Ok, Err}
use Rattle.std.proofs.lemmas.Result.{IfOk-at_ok}
use mathlib.Core.List.{List, [], ◌++◌, map}
use native.Mathlib.Omega.{arith}
use borrow.Author.Tests.{lt-ltb, le-ltb, eq-eqb, ne_eqb}
use lib.Dec.{ltb}
use lib.ListN.{length, take, drop, replicate, length-replicate}
use lib.Seq.{length-take-le}
use Rattle.lemmas.proofs.Tests.{never}
use Rattle.dna.specs.Text.{over}
use Rattle.dna.specs.Answer.{Answer, gives}
use Rattle.kmer.specs.Kmer.{ok_k}
use Rattle.state.specs.Counted.{Kind, answers_for}
use Rattle.graph.specs.Table.{keys_of, table_of, fit_for}
use Rattle.graph.specs.Walks.{Ends, ends_of}
use Rattle.graph.specs.Contraction.{ends_in}
use Rattle.table.specs.Calls.{fit_answer, fit_call}
use Rattle.table.specs.declared.FitError.{FitError}
use Rattle.table.specs.declared.FitError.TheVariants as fits
use Rattle.table.proofs.Told.{told_unsupported, told_unfit, told_fit}
use Rattle.marks.specs.Marks.{mark_of, ends}
use Rattle.marks.proofs.Marking.{ends_length}
use Rattle.marks.proofs.Made.{long, ends_are}
use Rattle.rules.specs.Listing.{Listing, holds, no_list, listing}
use Rattle.rules.specs.Verdict.{Test, Verdict, no, first_of, breaks1, breaks2, breaks3, lacks, verdict}
use Rattle.rules.specs.Judging.{judge, on_list}
use Rattle.rules.proofs.Firsts.{first_le}
use Rattle.judging.specs.declared.AllPlaced.{AllPlaced}
use Rattle.judging.specs.declared.Broken.{Broken}
use Rattle.judging.specs.declared.JudgeError.{JudgeError}
use Rattle.judging.specs.declared.JudgeError.TheVariants as errors
use Rattle.marks.specs.Ready.{keys_for, FitTable, Ready}
use Rattle.judging.specs.Places.{is_held}
use Rattle.judging.specs.Passing.{labels_in, Finds}
use Rattle.judging.specs.Answers.{judge_answer, refused_fit, Judges, ends_verdict, kmers_verdict}
use Rattle.judging.specs.Standing.{Stood, stands_in, first_in, Placed, Lacking}
use Rattle.judging.proofs.Lacked.{lacking_is}

-- ---- the first label found

module _ (test : Test) (ls : List (List ℕ)) {f : Option ℕ} (g : Finds test ls f) where
  some_found : {i : ℕ} → f ≡ Some i → (ltb (first_of test [] ls) (length ls) ≡ true) × (first_of test [] ls ≡ i)
  some_found {i} e =
      let h : Finds test ls (Some i) = subst (Finds test ls) e g in
      (lt-ltb (first_of test [] ls) (length ls) (omega (arith, h.0, h.1)), h.0)

  none_found : f ≡ None → (ltb (first_of test [] ls) (length ls) ≡ false) × (length ls ≤ first_of test [] ls)
  none_found e =
      let h : Finds test ls None = subst (Finds test ls) e g in
      (le-ltb (first_of test [] ls) (length ls) h, h)

-- ---- rules 2 and 3

module _ {K : ℕ} {keys ms text after : List ℕ} (ready : Ready K keys ms) {f : Result AllPlaced ℕ}
    (p : Placed K keys ms text f after) where
  abbrev labels : List (List ℕ)
  labels = labels_in (listing K text)

  abbrev test2 : Test
  test2 = breaks2 K (keys_for ms keys) (ends ms)

  abbrev test3 : Test
  test3 = breaks3 K (keys_for ms keys) (ends ms)

  module _ {all : AllPlaced} (q : f ≡ Ok all) {r : Bool} (l : Lacking after r) where
    none_misplaced : (ltb (first_of test2 [] labels) (length labels) ≡ false)
        × (length labels ≤ first_of test2 [] labels)
    none_misplaced = none_found test2 labels p.found (ap first_in q)

    number_is : length labels ≡ all.labels
    number_is = IfOk-at_ok (λ (a : AllPlaced). length labels ≡ a.labels) q p.counted

    lack : r ≡ lacks K (keys_for ms keys) (ends ms) labels
    lack = lacking_is ready p.ends_kept labels
        (IfOk-at_ok (λ _. Stood (keys_for ms keys) after (stands_in K labels)) q p.stood) l

    steps_are : Finds test3 labels all.bad
    steps_are = IfOk-at_ok (λ (a : AllPlaced). Finds test3 labels a.bad) q p.stepped

    pub one_missing : r ≡ true → gives (no 2 all.labels) ≡ gives (kmers_verdict K (keys_for ms keys) (ends ms) labels)
    one_missing t =
        let h = none_misplaced in
        let m : first_of test2 [] labels ≡ all.labels = omega (arith, h.1, number_is, first_le test2 [] labels) in
        let k : lacks K (keys_for ms keys) (ends ms) labels ≡ true = sym lack ∙ t in
        rw (h.0, k, m)

    module _ (t : r ≡ false) where
      none_lacks : lacks K (keys_for ms keys) (ends ms) labels ≡ false
      none_lacks = sym lack ∙ t

      pub third_broken : {b : ℕ} → all.bad ≡ Some b
          → gives (no 3 b) ≡ gives (kmers_verdict K (keys_for ms keys) (ends ms) labels)
      third_broken e =
          let k = some_found test3 labels steps_are e in
          rw (none_misplaced.0, none_lacks, k.0, k.1)

      pub third_kept : all.bad ≡ None → {a : Answer Verdict}
          → a ≡ gives (ends_verdict K (keys_for after keys) (ends after) labels)
          → a ≡ gives (kmers_verdict K (keys_for ms keys) (ends ms) labels)
      third_kept e {a} s =
          let k = none_found test3 labels steps_are e in
          let same : a ≡ gives (ends_verdict K (keys_for ms keys) (ends ms) labels) = rw
          (← ends_length ms after p.ends_kept, ← p.ends_kept) s in
          rw (none_misplaced.0, none_lacks, k.0) same

-- ---- rule 1 and the marks

module _ (κ : Kind) (K cutoff : ℕ) (keys counts ms₀ : List ℕ) (t : FitTable K keys counts ms₀) {ms : List ℕ}
    (digested : ms ≡ over (map (mark_of κ cutoff) (take (length ms₀) counts)) ms₀) where
  pub first_kept : (ls : List (List ℕ)) {f : Option ℕ} → Finds breaks1 ls f → f ≡ None → {a : Answer Verdict}
      → a ≡ gives (kmers_verdict K (keys_for ms keys) (ends ms) ls)
      → a ≡ gives (verdict K (keys_for ms₀ keys) (ends_in κ cutoff (table_of (length ms₀) keys counts)) ls)
  unfolding verdict ends_in
  first_kept ls g q {a} e =
      let h = none_found breaks1 ls g q in
      let same : a ≡ gives (kmers_verdict K (keys_for ms₀ keys)
      (map (ends_of κ cutoff) (take (length ms₀) counts)) ls) =
      e ∙ ap₂ (λ (ks : List ℕ) (es : List Ends). gives (kmers_verdict K ks es ls))
      (ap (λ (m : ℕ). keys_of m keys) (long κ K cutoff keys counts ms₀ t digested))
      (ends_are κ K cutoff keys counts ms₀ t digested) in
      rw h.0 same

pub first_broken : (K : ℕ) (ks : List ℕ) (es : List Ends) (ls : List (List ℕ)) {f : Option ℕ} → Finds breaks1 ls f
    → {i : ℕ} → f ≡ Some i
    → gives (no 1 i) ≡ gives (verdict K ks es ls)
unfolding verdict
first_broken K ks es ls g e = let h = some_found breaks1 ls g e in rw (h.0, h.1)

-- ---- the call

module _ (κ : Kind) (K cutoff n : ℕ) (keys counts text marks : List ℕ) where
  -- Judged over the first n marks; those behind stay.
  pub first_n : n ≤ length marks → is_held (listing K text) ≡ true
      → {r : Result (Option Broken) JudgeError} {exit : List ℕ}
      → (judge_answer r ≡ gives (verdict K (keys_for (take n marks) keys)
      (ends_in κ cutoff (table_of (length (take n marks)) keys counts)) (labels_in (listing K text))))
      × (exit ≡ replicate (length (take n marks)) 0)
      → Judges r (exit ++ drop n marks) (on_list κ K cutoff n keys counts text marks (listing K text))
  unfolding on_list
  first_n h held {r} {exit} e = go (listing K text) held e
    where
      l : length (take n marks) ≡ n
      l = length-take-le n marks h

      go : (t : Listing) → is_held t ≡ true
          → (judge_answer r ≡ gives (verdict K (keys_for (take n marks) keys)
          (ends_in κ cutoff (table_of (length (take n marks)) keys counts)) (labels_in t)))
          × (exit ≡ replicate (length (take n marks)) 0)
          → Judges r (exit ++ drop n marks) (on_list κ K cutoff n keys counts text marks t)
      go (holds ls) q (a, b) = record {
        answer = rw l at a;
        marks_after = ap (λ (z : List ℕ). z ++ drop n marks)
            (b ∙ ap (λ (m : ℕ). replicate m 0) l) ∙ rw (length-replicate {A = ℕ} n 0);
      }
      go no_list q e = never false q refl

  stays : {r : Result (Option Broken) JudgeError} → Judges r marks (record { answer = judge_answer r; marks = marks })
  stays = record { answer = refl; marks_after = refl }

  module _ {r : Result (Unit {0}) FitError} (t : fit_answer r ≡ fit_call κ K n keys counts) where
    pub not_taken : (e : FitError) → r ≡ Err e
        → Judges (Err (refused_fit e)) marks (judge κ K cutoff n keys counts text marks)
    unfolding judge
    not_taken (fits.UnsupportedK k) e = let q = told_unsupported κ K n keys counts t e in rw (q.0, q.1) stays
    not_taken fits.Unfit e = let q = told_unfit κ K n keys counts t e in rw (q.0, q.1) stays

    module _ (e : r ≡ Ok tt) where
      ok : (ok_k K ≡ true) × (fit_for κ K n keys counts ≡ true)
      ok = told_fit κ K n keys counts t e

      pub wrong_cutoff : answers_for κ cutoff ≡ false
          → Judges (Err errors.WrongCutoff) marks (judge κ K cutoff n keys counts text marks)
      unfolding judge
      wrong_cutoff a = rw (ok.0, ok.1, a) stays

      pub few_marks : answers_for κ cutoff ≡ true → length marks < n
          → Judges (Err errors.FewMarks) marks (judge κ K cutoff n keys counts text marks)
      unfolding judge
      few_marks a h = rw (ok.0, ok.1, a, lt-ltb (length marks) n h) stays

      module _ (a : answers_for κ cutoff ≡ true) (h : n ≤ length marks) where
        pub even_K : K % 2 ≡ 0 → Judges (Err errors.EvenK) marks (judge κ K cutoff n keys counts text marks)
        unfolding judge
        even_K q = rw (ok.0, ok.1, a, le-ltb (length marks) n h, eq-eqb (K % 2) 0 q) stays

        module _ (q : K % 2 ≡ 0 → ⊥) {s : Bool} (told : s ≡ is_held (listing K text)) where
          pub goes_on : {z : Result (Option Broken) JudgeError} {exit : List ℕ}
              → Judges z exit (on_list κ K cutoff n keys counts text marks (listing K text))
              → Judges z exit (judge κ K cutoff n keys counts text marks)
          unfolding judge
          goes_on j = rw (ok.0, ok.1, a, le-ltb (length marks) n h, ne_eqb (K % 2) 0 q) j

          pub no_list_lem : s ≡ false → Judges (Err errors.NoList) marks (judge κ K cutoff n keys counts text marks)
          unfolding on_list
          no_list_lem z = goes_on (go (listing K text) (sym told ∙ z))
            where
              go : (l : Listing) → is_held l ≡ false
                  → Judges (Err errors.NoList) marks (on_list κ K cutoff n keys counts text marks l)
              go (holds ls) w = never true refl w
              go no_list w = stays
