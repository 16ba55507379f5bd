-- Rule 2, label by label: the k-mers that have stood are those whose vertices are visited. Assumes nothing.
use Prim.Native.Nat.{ℕ, zero, suc, ◌+◌, ◌-◌, ◌≤◌, ◌<◌}
use mathlib.Core.Path.{◌≡◌, refl, sym, ap, ◌∙◌, subst}
use mathlib.Core.Logic.{⊎_elim}
use mathlib.Core.Bool.{Bool, true, false, cond, not, ◌||◌}
use mathlib.Core.List.{List, [], ◌∷◌, map, map-append}
use native.Mathlib.Omega.{arith}
use borrow.Author.Tests.{eqb-true, eqb-false, eq-eqb, ltb-true, ltb-false, lt-ltb, not-true, not-false}
use lib.Dec.{eqb, ltb}
use lib.ListN.{length, set}
use lib.Seq.{get_or-set_other}
use Rattle.lemmas.proofs.Tests.{both, never, or_first, or_second, or_cases, or_on}
use Rattle.lemmas.proofs.Numbers.{true_or_false}
use Rattle.kmer.specs.Kmer.{canon}
use Rattle.graph.specs.Table.{rank, stored}
use Rattle.graph.specs.Walks.{Ends, visited, isolated}
use Rattle.graph.specs.Sightings.{window, windows}
use Rattle.graph.proofs.Rank.{stored_lt, same_rank}
use Rattle.graph.proofs.Keys.{keys_length}
use Rattle.laws.specs.Windows.{windows_from, tally, occurs, occurrences}
use Rattle.laws.proofs.Occurrences.{tally_append}
use Rattle.laws.proofs.Windows.{windows_snoc}
use Rattle.marks.specs.Marks.{ends, visits}
use Rattle.marks.proofs.Marking.{ends_length, visited_now}
use Rattle.marks.proofs.Still.{ready_still}
use Rattle.rules.specs.Verdict.{any_of, is_live, kmers_of, breaks2, breaks3}
use Rattle.rules.proofs.Telling.{any_found, found_any}
use Rattle.marks.specs.Ready.{keys_for, Ready}
use Rattle.judging.specs.declared.Tested.{Tested}
use Rattle.judging.specs.declared.Tested.TheVariants as tested
use Rattle.judging.specs.Standing.{is_misplaced, is_bad, joined_at, Marked, TestsWindow, Stood, stands_in, Stands}
use Rattle.judging.specs.Standing.{row_to, Sofar, Testing}

-- ---- the k-mers of a label, one after the other

module _ (K : ℕ) (label : List ℕ) where
  row_next : (x o : ℕ) → tally x (row_to K label (suc o)) ≡ tally x (row_to K label o)
      + cond (eqb (canon K (window K label o)) x) 1 0
  unfolding tally
  row_next x o =
      ap (λ (ws : List ℕ). tally x (map (canon K) ws)) (windows_snoc K o label)
      ∙ ap (tally x) (map-append (canon K) (windows_from K o label) (window K label o ∷ []))
      ∙ tally_append x (row_to K label o) (canon K (window K label o) ∷ []) ∙ omega arith

  row_one : (o : ℕ) → let c = canon K (window K label o) in tally c (row_to K label (suc o))
      ≡ suc (tally c (row_to K label o))
  row_one o =
      let c = canon K (window K label o) in
      row_next c o ∙ rw (eq-eqb c c refl) (omega arith)

  row_other : (o x : ℕ) → eqb (canon K (window K label o)) x ≡ false
      → tally x (row_to K label (suc o)) ≡ tally x (row_to K label o)
  row_other o x e = row_next x o ∙ rw e (omega arith)

  row_le : (x o d : ℕ) → tally x (row_to K label o) ≤ tally x (row_to K label (o + d))
  row_le x o zero = let e : o + 0 ≡ o = omega arith in rw e (omega arith)
  row_le x o (suc d) =
      let e : o + suc d ≡ suc (o + d) = omega arith in
      rw e (omega (arith, row_le x o d, row_next x (o + d)))

  row_whole : (x o : ℕ) → o ≤ windows K label → tally x (row_to K label o) ≤ occurs K x label
  row_whole x o h =
      let e : o + (windows K label - o) ≡ windows K label = omega arith in
      subst (λ (m : ℕ). tally x (row_to K label o) ≤ tally x (row_to K label m)) e (row_le x o (windows K label - o))

-- ---- one label

module _ (K : ℕ) (ks : List ℕ) (es : List Ends) (label : List ℕ) (done : List (List ℕ)) where
  abbrev wrong : ℕ → Bool
  wrong x = not (is_live K ks es x) || ltb 1 (occurrences K x (label ∷ done))

  sofar_start : {ms : List ℕ} → Stood ks ms (stands_in K done) → Sofar K ks es ms label 0 done
  unfolding tally windows_from
  sofar_start s = record {
    stood = λ x h. let e : 0 + occurrences K x done ≡ occurrences K x done = omega arith in s x h ∙ ap (ltb 0) (sym e);
    fine = λ x h. absurd (omega arith);
  }

  module _ {ms : List ℕ} {o : ℕ} (f : Sofar K ks es ms label o done) where
    abbrev c : ℕ
    c = canon K (window K label o)

    live_stored : (x : ℕ) → is_live K ks es x ≡ true → stored ks x ≡ true
    unfolding is_live
    live_stored x h = (both (stored ks x) (not (isolated es (rank ks x))) h).0

    module _ {r : Bool} (told : r ≡ (not (is_live K ks es c) || visited (visits ms) (rank ks c))) where
      sofar_found : o < windows K label → r ≡ true → r ≡ breaks2 K ks es done label
      unfolding breaks2 occurrences
      sofar_found h t =
          let one = row_one K label o in
          let most = row_whole K label c (suc o) h in
          let bad : wrong c ≡ true = ⊎_elim
          (λ q. rw (or_hold q))
          (λ q.
          let n = ltb-true 0 (tally c (row_to K label o) + occurrences K c done)
          (sym (f.stood c (live_stored c (live q))) ∙ seen q) in
          or_on (not (is_live K ks es c)) (lt-ltb 1 (occurs K c label + occurrences K c done) (omega arith)))
          (true_or_false (not (is_live K ks es c))) in
          t ∙ sym (found_any wrong (kmers_of K ks es label) c (omega arith) bad)
        where
          live : not (is_live K ks es c) ≡ false → is_live K ks es c ≡ true
          live q = not-false (is_live K ks es c) q

          or_hold : not (is_live K ks es c) ≡ true → not (is_live K ks es c) ≡ true
          or_hold q = q

          seen : not (is_live K ks es c) ≡ false → visited (visits ms) (rank ks c) ≡ true
          seen q = ⊎_elim (λ z. never (not (is_live K ks es c)) z q) (λ z. z)
              (or_cases (not (is_live K ks es c)) (visited (visits ms) (rank ks c)) (sym told ∙ t))

      module _ (t : r ≡ false) (room : rank ks c < length ms) (after : List ℕ)
          (marked : visits after ≡ set (visits ms) (rank ks c) 1) where
        now_live : is_live K ks es c ≡ true
        now_live = not-false (is_live K ks es c)
            (or_first (not (is_live K ks es c)) (visited (visits ms) (rank ks c)) (sym told ∙ t))

        now_new : tally c (row_to K label o) + occurrences K c done ≤ 0
        now_new =
            ltb-false 0 (tally c (row_to K label o) + occurrences K c done)
            (sym (f.stood c (live_stored c now_live))
            ∙ or_second (not (is_live K ks es c)) (visited (visits ms) (rank ks c)) (sym told ∙ t))

        stood_next : Stood ks after (λ x. tally x (row_to K label (suc o)) + occurrences K x done)
        stood_next x s = ⊎_elim same other (true_or_false (eqb c x))
          where
            same : eqb c x ≡ true → visited (visits after) (rank ks x)
                ≡ ltb 0 (tally x (row_to K label (suc o)) + occurrences K x done)
            same q =
                let e : c ≡ x = eqb-true c x q in
                subst (λ (y : ℕ). visited (visits after) (rank ks y)
                ≡ ltb 0 (tally y (row_to K label (suc o)) + occurrences K y done)) e
                (ap (λ (vs : List ℕ). visited vs (rank ks c)) marked ∙ visited_now ms (rank ks c) room
                ∙ sym (lt-ltb 0 (tally c (row_to K label (suc o)) + occurrences K c done)
                (omega (arith, row_one K label o))))

            other : eqb c x ≡ false → visited (visits after) (rank ks x)
                ≡ ltb 0 (tally x (row_to K label (suc o)) + occurrences K x done)
            other q =
                let n : rank ks x ≡ rank ks c → ⊥ = λ z. eqb-false c x q
                (same_rank ks c x (live_stored c now_live) s (sym z)) in
                ap (λ (vs : List ℕ). visited vs (rank ks x)) marked
                ∙ ap (λ (v : ℕ). eqb v 1) (get_or-set_other (visits ms) (rank ks c) (rank ks x) 1 0 n)
                ∙ f.stood x s ∙ ap (λ (m : ℕ). ltb 0 (m + occurrences K x done)) (sym (row_other K label o x q))

        sofar_next : Sofar K ks es after label (suc o) done
        sofar_next = record { stood = stood_next; fine = λ x h. ⊎_elim (same x) (other x h) (true_or_false (eqb c x)) }
          where
            same : (x : ℕ) → eqb c x ≡ true → (is_live K ks es x ≡ true)
                × (tally x (row_to K label (suc o)) + occurrences K x done ≤ 1)
            same x q =
                subst (λ (y : ℕ). (is_live K ks es y ≡ true)
                × (tally y (row_to K label (suc o)) + occurrences K y done ≤ 1)) (eqb-true c x q)
                (now_live, omega (arith, row_one K label o, now_new))

            other : (x : ℕ) → 1 ≤ tally x (row_to K label (suc o)) → eqb c x ≡ false
                → (is_live K ks es x ≡ true) × (tally x (row_to K label (suc o)) + occurrences K x done ≤ 1)
            other x h q =
                let e = row_other K label o x q in
                let g = f.fine x (omega arith) in
                (g.0, omega (arith, g.1))

  -- All of them.
  sofar_end : {ms : List ℕ} → Sofar K ks es ms label (windows K label) done → false ≡ breaks2 K ks es done label
  unfolding breaks2 occurrences
  sofar_end f = ⊎_elim
      (λ q.
      let a = any_found wrong (kmers_of K ks es label) q in
      let g = f.fine a.one a.stands in
      ⊎_elim (λ z. never (is_live K ks es a.one) g.0 (not-true (is_live K ks es a.one) z))
      (λ z. absurd (omega (arith, g.1, ltb-true 1 (occurs K a.one label + occurrences K a.one done) z)))
      (or_cases (not (is_live K ks es a.one)) (ltb 1 (occurrences K a.one (label ∷ done))) a.passes))
      (λ q. sym q) (true_or_false (any_of wrong (kmers_of K ks es label)))

  stood_end : {ms : List ℕ} → Sofar K ks es ms label (windows K label) done → Stood ks ms (stands_in K (label ∷ done))
  unfolding occurrences
  stood_end f = f.stood

-- ---- the loop over a label

pub testing_start : {K : ℕ} {keys ms : List ℕ} (label : List ℕ) → Ready K keys ms → Testing K keys ms label ms 0
testing_start {K} {keys} {ms} label r =
    record {
      ready = r;
      kept = refl;
      inside = omega arith;
      sofar = λ done s. sofar_start K (keys_for ms keys)
          (ends ms) label done s;
    }

module _ {K : ℕ} {keys ms₀ label ms : List ℕ} {o : ℕ} (t : Testing K keys ms₀ label ms o) where
  module _ (h : o < windows K label) {x : ℕ} (is : x ≡ canon K (window K label o)) {r : Bool} {after : List ℕ}
      (m : Marked K keys ms x r after) where
    abbrev here : ℕ
    here = canon K (window K label o)

    long : length ms ≡ length ms₀
    long = ends_length ms₀ ms t.kept

    told_is : r ≡ (not (is_live K (keys_for ms₀ keys) (ends ms₀) here) || visited (visits ms)
        (rank (keys_for ms₀ keys) here))
    told_is = rw (← is, ← long, ← t.kept) m.told

    pub testing_found : r ≡ true → Stands K keys ms₀ label tested.Misplaced after
    testing_found q = record {
      ends_kept = m.ends_kept ∙ t.kept;
      told = λ done s. sym q ∙ sofar_found K (keys_for ms₀ keys) (ends ms₀) label done (t.sofar done s) told_is h q;
      stood = λ done s z. never true refl z;
      stepped = λ z. never true refl z;
    }

    room_is : is_live K (keys_for ms₀ keys) (ends ms₀) here ≡ true → rank (keys_for ms₀ keys) here < length ms
    unfolding is_live
    room_is q =
        let ks = keys_for ms₀ keys in
        omega (
          arith,
          stored_lt ks here (both (stored ks here) (not (isolated (ends ms₀) (rank ks here))) q).0,
          keys_length
              (length ms₀) keys,
          long,
        )

    pub testing_next : r ≡ false → Testing K keys ms₀ label after (o + 1)
    testing_next q =
        let ks = keys_for ms₀ keys in
        let n : suc o ≡ o + 1 = omega arith in
        let live : is_live K ks (ends ms₀) here ≡ true =
        not-false (is_live K ks (ends ms₀) here)
        (or_first (not (is_live K ks (ends ms₀) here)) (visited (visits ms) (rank ks here))
        (sym told_is ∙ q)) in
        let marked : visits after ≡ set (visits ms) (rank ks here) 1 = rw (← is, ← long) (m.marked q) in
        record {
          ready = ready_still t.ready m.ends_kept;
          kept = m.ends_kept ∙ t.kept;
          inside = omega arith;
          sofar = λ done s.
              subst (λ (p : ℕ). Sofar K ks (ends ms₀) after label p done) n
              (sofar_next K ks (ends ms₀) label done (t.sofar done s) told_is q (room_is live) after marked);
        }

  -- Its edges are told as they were before any label.
  pub testing_joined : {found : Tested} {after : List ℕ} → TestsWindow K keys ms label o found after
      → is_misplaced found ≡ false
      → is_bad found ≡ not (joined_at K (keys_for ms₀ keys) (ends ms₀) label o)
  testing_joined w q = rw (← ends_length ms₀ ms t.kept, ← t.kept) (w.joined q)

  pub testing_end : windows K label ≤ o → (found : Tested) → is_misplaced found ≡ false
      → ((done : List (List ℕ)) → is_bad found ≡ breaks3 K (keys_for ms₀ keys) (ends ms₀) done label)
      → Stands K keys ms₀ label found ms
  testing_end h found fine steps =
      let ks = keys_for ms₀ keys in
      let e : o ≡ windows K label = omega (arith, t.inside) in
      record {
        ends_kept = t.kept;
        told = λ done s. fine ∙ sofar_end K ks (ends ms₀) label done
            (subst (λ (p : ℕ). Sofar K ks (ends ms₀) ms label p done) e (t.sofar done s));
        stood = λ done s _. stood_end K ks (ends ms₀) label done
            (subst (λ (p : ℕ). Sofar K ks (ends ms₀) ms label p done) e (t.sofar done s));
        stepped = λ _. steps;
      }
