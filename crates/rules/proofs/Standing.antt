-- Rule 2: the lowest label where a k-mer stands a second time or may not stand, a k-mer that is only missing, or neither.
-- Assumes nothing.
use Prim.Native.Nat.{ℕ, zero, suc, ◌+◌, ◌≤◌, ◌<◌}
use mathlib.Core.Path.{◌≡◌, refl, ap, ◌∙◌}
use mathlib.Core.Logic.{inl, inr, ⊎_elim}
use mathlib.Core.Bool.{Bool, true, false, not, ◌&&◌, ◌||◌}
use mathlib.Core.List.{List, [], ◌∷◌}
use native.Mathlib.Omega.{arith}
use borrow.Author.Tests.{eqb-true, eqb-false, eq-eqb, ltb-true, ltb-false, lt-ltb, not-true, not-false}
use lib.Dec.{eqb, ltb}
use lib.ListN.{length, get_or}
use Rattle.lemmas.proofs.Tests.{both, never, or_first, or_second, or_cases, or_on}
use Rattle.lemmas.proofs.Numbers.{true_or_false, lt_or_ge}
use Rattle.graph.specs.Table.{fit_from}
use Rattle.graph.specs.Walks.{Ends}
use Rattle.laws.specs.Windows.{tally, occurs, occurrences}
use Rattle.rules.specs.Rules.{Live, Rule2}
use Rattle.rules.specs.Verdict.{first_of, is_live, kmers_of, breaks2, lacks}
use Rattle.rules.specs.Judged.{At, At.here, At.there, Lowest, Misplaced, Missing}
use Rattle.rules.proofs.Firsts.{Clear, Clear.clear_none, Clear.clear_more, first_clear, first_lowest, first_nowhere}
use Rattle.rules.proofs.Telling.{any_found, found_any, live_sound, live_complete}

and_on : {a b : Bool} → a ≡ true → b ≡ true → a && b ≡ true
and_on {a} {b} p q = rw (p, q)

-- A key stands among the keys.
pub key_stands : (ks : List ℕ) (v : ℕ) → v < length ks → 1 ≤ tally (get_or ks v 0) ks
unfolding tally
key_stands [] v h = absurd (omega arith)
key_stands (x ∷ ks) zero h = rw (eq-eqb x x refl) (omega arith)
key_stands (x ∷ ks) (suc v) h = omega (arith, key_stands ks v (omega arith))

module _ (K : ℕ) (ks : List ℕ) (es : List Ends) (fit : fit_from K 0 ks ≡ true) where
  -- The test of one k-mer of a label.
  abbrev wrong : List (List ℕ) → List ℕ → ℕ → Bool
  wrong done l x = not (is_live K ks es x) || ltb 1 (occurrences K x (l ∷ done))

  tells : (done : List (List ℕ)) (l : List ℕ) (rest : List (List ℕ)) → breaks2 K ks es done l ≡ true → Misplaced K ks es done l rest
  unfolding breaks2 occurrences
  tells done l rest h =
      let f = any_found (wrong done l) (kmers_of K ks es l) h in
      record {
        kmer = f.one;
        stands = f.stands;
        why = ⊎_elim (λ q. inl (λ live. never (is_live K ks es f.one) (live_complete K ks es fit f.one live)
            (not-true (is_live K ks es f.one) q)))
            (λ q. inr (ltb-true 1 (occurs K f.one l + occurrences K f.one done) q))
            (or_cases (not (is_live K ks es f.one)) (ltb 1 (occurrences K f.one (l ∷ done))) f.passes);
      }

  told : (done : List (List ℕ)) (l : List ℕ) (rest : List (List ℕ)) → Misplaced K ks es done l rest → breaks2 K ks es done l ≡ true
  unfolding breaks2 occurrences
  told done l rest m = found_any (wrong done l) (kmers_of K ks es l) m.kmer m.stands (⊎_elim dead twice m.why)
    where
      dead : (Live K ks es m.kmer → ⊥) → wrong done l m.kmer ≡ true
      dead n = ⊎_elim (λ q. absurd (n (live_sound K ks es fit m.kmer q))) (λ q. rw q) (true_or_false (is_live K ks es m.kmer))

      twice : 2 ≤ occurs K m.kmer l + occurrences K m.kmer done → wrong done l m.kmer ≡ true
      twice n = or_on (not (is_live K ks es m.kmer)) (lt-ltb 1 (occurs K m.kmer l + occurrences K m.kmer done) n)

  -- The first label that breaks rule 2 is the lowest where a k-mer is misplaced; where none does, none is.
  pub lowest_2 : (ls : List (List ℕ)) → first_of (breaks2 K ks es) [] ls < length ls
      → Lowest (Misplaced K ks es) ls (first_of (breaks2 K ks es) [] ls)
  lowest_2 ls h = first_lowest (breaks2 K ks es) (Misplaced K ks es) (λ _ _. Unit {0}) (λ _ _ _ _ _. tt)
      (λ done l rest _ q. tells done l rest q)
      (λ done l rest _ q. told done l rest q) ls tt h

  pub nowhere_2 : (ls : List (List ℕ)) → length ls ≤ first_of (breaks2 K ks es) [] ls → (j : ℕ) → At (Misplaced K ks es) [] ls j → ⊥
  nowhere_2 ls h = first_nowhere (breaks2 K ks es) (Misplaced K ks es) (λ _ _. Unit {0}) (λ _ _ _ _ _. tt)
      (λ done l rest _ q. tells done l rest q)
      (λ done l rest _ q. told done l rest q) ls tt h

  -- A k-mer of a label that does not break it may stand, and stands for the first time.
  fine : (done : List (List ℕ)) (l : List ℕ) → breaks2 K ks es done l ≡ false → (x : ℕ) → 1 ≤ occurs K x l
      → Live K ks es x × (occurs K x l + occurrences K x done ≤ 1)
  unfolding breaks2 occurrences
  fine done l q x h =
      let f : wrong done l x ≡ false =
      ⊎_elim (λ t. never (breaks2 K ks es done l) (found_any (wrong done l) (kmers_of K ks es l) x h t) q) (λ t. t)
      (true_or_false (wrong done l x)) in (
        live_sound K ks es fit x (not-false (is_live K ks es x) (or_first (not (is_live K ks es x)) (ltb 1 (occurrences K x (l ∷ done))) f)),
        ltb-false 1 (occurs K x l + occurrences K x done) (or_second (not (is_live K ks es x)) (ltb 1 (occurrences K x (l ∷ done))) f),
      )

  clear_once : {done ls : List (List ℕ)} → Clear (breaks2 K ks es) done ls → (x : ℕ) → occurrences K x done ≤ 1
      → occurrences K x ls + occurrences K x done ≤ 1
  unfolding occurrences
  clear_once clear_none x h = omega arith
  clear_once {done} (clear_more {ls = ls} {l = l} q c) x h =
      let m : occurs K x l + occurrences K x done ≤ 1 =
      ⊎_elim (λ z. omega arith) (λ z. (fine done l q x z).1) (lt_or_ge (occurs K x l) 1) in
      omega (arith, clear_once c x m)

  clear_live : {done ls : List (List ℕ)} → Clear (breaks2 K ks es) done ls → (x : ℕ) → 1 ≤ occurrences K x ls → Live K ks es x
  unfolding occurrences
  clear_live clear_none x h = absurd (omega arith)
  clear_live {done} (clear_more {ls = ls} {l = l} q c) x h =
      ⊎_elim (λ z. clear_live c x (omega arith)) (λ z. (fine done l q x z).0) (lt_or_ge (occurs K x l) 1)

  -- Where no label breaks it and no k-mer is missing, the list keeps rule 2.
  pub keeps_2 : (ls : List (List ℕ)) → length ls ≤ first_of (breaks2 K ks es) [] ls → lacks K ks es ls ≡ false → Rule2 K ks es ls
  unfolding lacks occurrences
  keeps_2 ls h n =
      let c = first_clear (breaks2 K ks es) [] ls h in
      record {
        exactly_once = λ v lt i.
            let x = get_or ks v 0 in
            let live = live_complete K ks es fit x (record { vertex = v; stored_one = lt; not_isolated = i; is = refl }) in
            ⊎_elim
            (λ q. never (lacks K ks es ls) (found_any (λ y. is_live K ks es y && eqb (occurrences K y ls) 0) ks x
            (key_stands ks v lt) (and_on live q)) n)
            (λ q. let z : occurrences K x ls ≡ 0 → ⊥ = eqb-false (occurrences K x ls) 0 q in omega (arith, clear_once c x (omega arith), z))
            (true_or_false (eqb (occurrences K x ls) 0));
        no_other = λ x k. clear_live c x k;
      }

  pub missing_2 : (ls : List (List ℕ)) → lacks K ks es ls ≡ true → Missing K ks es ls
  unfolding lacks
  missing_2 ls h =
      let f = any_found (λ y. is_live K ks es y && eqb (occurrences K y ls) 0) ks h in
      let b = both (is_live K ks es f.one) (eqb (occurrences K f.one ls) 0) f.passes in
      let live = live_sound K ks es fit f.one b.0 in
      record {
        vertex = live.vertex;
        stored_one = live.stored_one;
        not_isolated = live.not_isolated;
        nowhere = ap (λ (x : ℕ). occurrences K x ls) live.is ∙ eqb-true (occurrences K f.one ls) 0 b.1;
      }

-- A list with a k-mer misplaced or missing does not keep it.
module _ (K : ℕ) (ks : List ℕ) (es : List Ends) where
  pub lacking_2 : {ls : List (List ℕ)} → Missing K ks es ls → Rule2 K ks es ls → ⊥
  lacking_2 m r = omega (arith, m.nowhere, r.exactly_once m.vertex m.stored_one m.not_isolated)

  misplaced : {done ls : List (List ℕ)} {i : ℕ} → At (Misplaced K ks es) done ls i → ((x : ℕ) → 1 ≤ occurrences K x ls → Live K ks es x)
      → ((x : ℕ) → occurrences K x ls + occurrences K x done ≤ 1) → ⊥
  unfolding occurrences
  misplaced (here m) live once =
      ⊎_elim (λ q. q (live m.kmer (omega (arith, m.stands)))) (λ q. omega (arith, once m.kmer)) m.why
  misplaced (there a) live once = misplaced a (λ x h. live x (omega arith)) (λ x. omega (arith, once x))

  -- Under rule 2 no k-mer stands twice.
  pub once_2 : {ls : List (List ℕ)} → Rule2 K ks es ls → (x : ℕ) → occurrences K x ls ≤ 1
  once_2 {ls} r x = ⊎_elim (λ h. omega arith)
      (λ h.
      let live = r.no_other x h in
      omega (arith, ap (λ (y : ℕ). occurrences K y ls) live.is, r.exactly_once live.vertex live.stored_one live.not_isolated))
      (lt_or_ge (occurrences K x ls) 1)

  pub broken_2 : {ls : List (List ℕ)} {i : ℕ} → At (Misplaced K ks es) [] ls i → Rule2 K ks es ls → ⊥
  unfolding occurrences
  broken_2 a r = misplaced a r.no_other (λ x. omega (arith, once_2 r x))
