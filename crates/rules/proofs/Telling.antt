-- What the tests of a verdict tell. Assumes nothing.
use Prim.Native.Nat.{ℕ, ◌+◌, ◌%◌, ◌^◌, ◌≤◌, ◌<◌}
use mathlib.Core.Path.{◌≡◌, refl, sym, ap, ◌∙◌}
use mathlib.Core.Logic.{⊎_elim, ◌⊎◌, inl, inr}
use mathlib.Core.Bool.{Bool, true, false, cond, not, ◌&&◌, ◌||◌}
use mathlib.Core.List.{List, [], ◌∷◌}
use native.Mathlib.Omega.{arith}
use borrow.Author.Tests.{eqb-true, eq-eqb, ltb-true, lt-ltb, not-true}
use lib.Dec.{eqb, ltb}
use lib.ListN.{length, get_or}
use Rattle.lemmas.proofs.Tests.{both, choose, never, or_on}
use Rattle.lemmas.proofs.Numbers.{true_or_false}
use Rattle.kmer.specs.Kmer.{rc, canon, forward}
use Rattle.kmer.proofs.Strands.{rc_rc, canon_rc}
use Rattle.state.specs.declared.Side.{Side}
use Rattle.state.specs.declared.Side.TheVariants.{Front, Back}
use Rattle.state.specs.Counted.{opposite}
use Rattle.state.proofs.Slots.{opposite_opposite}
use Rattle.graph.specs.Table.{fit_from, rank, stored}
use Rattle.graph.specs.Walks.{Ends, edge, isolated, seen, leaving, entrance}
use Rattle.graph.proofs.Rank.{stored_lt, stored_at}
use Rattle.graph.proofs.Lookup.{key_at_lem, at_stored, rank_at}
use Rattle.laws.specs.Windows.{tally}
use Rattle.laws.specs.Demand.{retained}
use Rattle.laws.proofs.Sides.{seen_as, seen_is, seen_exit, seen_entrance}
use Rattle.laws.proofs.Odd.{seen_inj}
use Rattle.laws.proofs.Occurrences.{canon_seen, seen_lt}
use Rattle.laws.proofs.Outward.{retained_seen}
use Rattle.rules.specs.Rules.{Live, Step}
use Rattle.rules.specs.Verdict.{any_of, is_live, leads_to, after, exit, is_step}

-- ---- one of some numbers

-- One that the test holds of stands among them.
pub record Found (test : ℕ → Bool) (xs : List ℕ) : Type 0 where
  pub one : ℕ
  pub stands : 1 ≤ tally one xs
  pub passes : test one ≡ true

any_nil : (test : ℕ → Bool) → any_of test [] ≡ false
unfolding any_of
any_nil test = refl

pub any_found : (test : ℕ → Bool) (xs : List ℕ) → any_of test xs ≡ true → Found test xs
unfolding any_of tally
any_found test [] h = never (any_of test []) h (any_nil test)
any_found test (x ∷ xs) h = go (any_found test xs) (test x) refl h
  where
    go : (any_of test xs ≡ true → Found test xs) → (t : Bool) → test x ≡ t → (t || any_of test xs) ≡ true → Found test (x ∷ xs)
    go ih true e q = record { one = x; stands = rw (eq-eqb x x refl) (omega arith); passes = e }
    go ih false e q = let f = ih q in record { one = f.one; stands = omega (arith, f.stands); passes = f.passes }

pub found_any : (test : ℕ → Bool) (xs : List ℕ) → (x : ℕ) → 1 ≤ tally x xs → test x ≡ true → any_of test xs ≡ true
unfolding any_of tally
found_any test [] x h e = absurd (omega arith)
found_any test (y ∷ ys) x h e = go (found_any test ys x) (eqb y x) refl h
  where
    go : (1 ≤ tally x ys → test x ≡ true → any_of test ys ≡ true) → (t : Bool) → eqb y x ≡ t → 1 ≤ cond t 1 0 + tally x ys
        → (test y || any_of test ys) ≡ true
    go ih true q k = rw (eqb-true y x q, e)
    go ih false q k = or_on (test y) (ih (omega arith) e)

-- ---- k-mers of a table

-- Both sides of one.
pub side_cases : (s t : Side) → (t ≡ s) ⊎ (t ≡ opposite s)
side_cases Front Front = inl refl
side_cases Front Back = inr refl
side_cases Back Front = inr refl
side_cases Back Back = inl refl

pub not_opposite : (s : Side) → s ≡ opposite s → ⊥
not_opposite Front e = let z : ◌≡◌ {A = ℕ} 0 1 = cc in omega arith
not_opposite Back e = let z : ◌≡◌ {A = ℕ} 0 1 = cc in omega arith

module _ (K : ℕ) (ks : List ℕ) (es : List Ends) (fit : fit_from K 0 ks ≡ true) where
  pub live_sound : (x : ℕ) → is_live K ks es x ≡ true → Live K ks es x
  unfolding is_live
  live_sound x h =
      let b = both (stored ks x) (not (isolated es (rank ks x))) h in
      record {
        vertex = rank ks x;
        stored_one = stored_lt ks x b.0;
        not_isolated = not-true (isolated es (rank ks x)) b.1;
        is = stored_at ks x b.0;
      }

  pub live_complete : (x : ℕ) → Live K ks es x → is_live K ks es x ≡ true
  unfolding is_live
  live_complete x l =
      rw (← l.is, at_stored K ks fit l.vertex l.stored_one, rank_at K 0 ks fit l.vertex l.stored_one, l.not_isolated)

  -- A side with an edge is one of a k-mer that is not isolated.
  pub edge_live : (v : ℕ) (s : Side) → edge es v s < 4 → isolated es v ≡ false
  edge_live v Front h = let q : eqb (edge es v Front) 5 ≡ false = ne v Front h in rw q
    where
      ne : (v : ℕ) (s : Side) → edge es v s < 4 → eqb (edge es v s) 5 ≡ false
      ne v s h = ⊎_elim (λ q. absurd (omega (arith, eqb-true (edge es v s) 5 q))) (λ q. q) (true_or_false (eqb (edge es v s) 5))
  edge_live v Back h = go (eqb (edge es v Front) 5)
    where
      ne : eqb (edge es v Back) 5 ≡ false
      ne = ⊎_elim (λ q. absurd (omega (arith, eqb-true (edge es v Back) 5 q))) (λ q. q) (true_or_false (eqb (edge es v Back) 5))

      go : (t : Bool) → t && eqb (edge es v Back) 5 ≡ false
      go true = ne
      go false = refl

  -- A k-mer that retains an edge is stored.
  retained_stored : (x : ℕ) (s : Side) → retained K ks es x s < 4 → stored ks (canon K x) ≡ true
  unfolding retained
  retained_stored x s = choose (λ (e : ℕ). e < 4 → stored ks (canon K x) ≡ true) (stored ks (canon K x)) (λ q _. q)
      (λ _ h. absurd (omega arith))

  -- A stored k-mer is its vertex, seen so that it is left by its exit.
  stored_seen : (x : ℕ) → x < 4 ^ K → stored ks (canon K x) ≡ true → seen K ks (rank ks (canon K x)) (exit K ks es x) ≡ x
  stored_seen x h q =
      seen_is K ks (rank ks (canon K x)) (exit K ks es x)
      ∙ ap (λ (z : ℕ). seen_as K z (exit K ks es x)) (stored_at ks (canon K x) q) ∙ seen_exit K x h

  stored_turned : (x : ℕ) → x < 4 ^ K → stored ks (canon K x) ≡ true → seen K ks (rank ks (canon K x)) (entrance K x) ≡ rc K x
  stored_turned x h q =
      seen_is K ks (rank ks (canon K x)) (entrance K x)
      ∙ ap (λ (z : ℕ). seen_as K z (entrance K x)) (stored_at ks (canon K x) q) ∙ seen_entrance K x h

  -- Seen from the other side a vertex is its reverse complement.
  pub seen_turned : (v : ℕ) (s : Side) → v < length ks → seen K ks v (opposite s) ≡ rc K (seen K ks v s)
  seen_turned v Front h = sym (rc_rc K (get_or ks v 0) (key_at_lem K ks fit v h).below)
  seen_turned v Back h = refl

  module _ (odd : K % 2 ≡ 1) where
    -- A vertex and a side are known by how they are seen.
    pub seen_one : (u v : ℕ) (s t : Side) → u < length ks → v < length ks → seen K ks u s ≡ seen K ks v t → (u ≡ v) × (s ≡ t)
    seen_one u v s t hu hv e =
        let i = seen_inj K (get_or ks u 0) (get_or ks v 0) s t odd (key_at_lem K ks fit u hu) (key_at_lem K ks fit v hv)
        (sym (seen_is K ks u s) ∙ e ∙ seen_is K ks v t) in
        (sym (rank_at K 0 ks fit u hu) ∙ ap (rank ks) i.0 ∙ rank_at K 0 ks fit v hv, i.1)

    -- A vertex as it is seen is left by that side.
    pub exit_seen : (v : ℕ) (s : Side) → v < length ks → exit K ks es (seen K ks v s) ≡ s
    exit_seen v s h =
        let x = seen K ks v s in
        let c = canon_seen K ks fit v s h in
        let q : stored ks (canon K x) ≡ true = ap (stored ks) c ∙ at_stored K ks fit v h in
        let r : rank ks (canon K x) ≡ v = ap (rank ks) c ∙ rank_at K 0 ks fit v h in
        (seen_one v v (exit K ks es x) s h h
        (ap (λ (i : ℕ). seen K ks i (exit K ks es x)) (sym r) ∙ stored_seen x (seen_lt K ks fit v s h) q)).1

    -- The test of a step tells it.
    pub step_sound : (x y : ℕ) → x < 4 ^ K → y < 4 ^ K → is_step K ks es x y ≡ true → Step K ks es x y
    unfolding leads_to
    step_sound x y hx hy h =
        let b = both (leads_to K ks es x (exit K ks es x) y) (leads_to K ks es (rc K y) (entrance K y) (rc K x)) h in
        let s = exit K ks es x in
        let t = entrance K y in
        let p = both (ltb (retained K ks es x s) 4) (eqb (after K ks es x s) y) b.0 in
        let q = both (ltb (retained K ks es (rc K y) t) 4) (eqb (after K ks es (rc K y) t) (rc K x)) b.1 in
        let lx : retained K ks es x s < 4 = ltb-true (retained K ks es x s) 4 p.0 in
        let ly : retained K ks es (rc K y) t < 4 = ltb-true (retained K ks es (rc K y) t) 4 q.0 in
        let sx = retained_stored x s lx in
        let sy : stored ks (canon K y) ≡ true = ap (stored ks) (sym (canon_rc K y hy)) ∙ retained_stored (rc K y) t ly in
        let u = rank ks (canon K x) in
        let v = rank ks (canon K y) in
        let hu = stored_lt ks (canon K x) sx in
        let hv = stored_lt ks (canon K y) sy in
        let su : seen K ks (rank ks (canon K x)) (exit K ks es x) ≡ x = stored_seen x hx sx in
        let sv : seen K ks (rank ks (canon K y)) (entrance K y) ≡ rc K y = stored_turned y hy sy in
        let eu : retained K ks es x (exit K ks es x) ≡ edge es (rank ks (canon K x)) (exit K ks es x) =
        ap (λ (z : ℕ). retained K ks es z (exit K ks es x)) (sym su) ∙ retained_seen K ks es fit u s s hu in
        let ev : retained K ks es (rc K y) (entrance K y) ≡ edge es (rank ks (canon K y)) (entrance K y) =
        ap (λ (z : ℕ). retained K ks es z (entrance K y)) (sym sv) ∙ retained_seen K ks es fit v t t hv in
        record {
          from = u;
          out = s;
          to = v;
          into = t;
          from_stored = hu;
          to_stored = hv;
          leaves = su;
          arrives = stored_seen y hy sy;
          sole = record {
            at_u = omega (arith, eu);
            at_v = omega (arith, ev);
            joins = record {
              there = rw (su, ← eu) (eqb-true (after K ks es x s) y p.1 ∙ sym (stored_seen y hy sy));
              back = rw (sv, ← ev) (eqb-true (after K ks es (rc K y) t) (rc K x) q.1
                  ∙ sym (ap (seen K ks u) (opposite_opposite (entrance K x)) ∙ stored_turned x hx sx));
            };
          };
        }

    pub step_complete : (x y : ℕ) → Step K ks es x y → is_step K ks es x y ≡ true
    unfolding leads_to
    step_complete x y g =
        let u = g.from in
        let v = g.to in
        let s = g.out in
        let t = g.into in
        let hu = g.from_stored in
        let hv = g.to_stored in
        let o = g.sole in
        let sx : exit K ks es x ≡ s = ap (exit K ks es) (sym g.leaves) ∙ exit_seen u s hu in
        let sy : entrance K y ≡ t =
        sym (opposite_opposite (entrance K y)) ∙ ap opposite (ap (exit K ks es) (sym g.arrives) ∙ exit_seen v (opposite t) hv)
        ∙ opposite_opposite t in
        let y' : rc K y ≡ seen K ks v t =
        ap (rc K) (sym g.arrives) ∙ sym (seen_turned v (opposite t) hv) ∙ ap (seen K ks v) (opposite_opposite t) in
        let x' : rc K x ≡ seen K ks u (opposite s) = ap (rc K) (sym g.leaves) ∙ sym (seen_turned u s hu) in
        let eu : retained K ks es x s ≡ edge es u s = ap (λ (z : ℕ). retained K ks es z s) (sym g.leaves)
        ∙ retained_seen K ks es fit u s s hu in
        let ev : retained K ks es (rc K y) t ≡ edge es v t = ap (λ (z : ℕ). retained K ks es z t) y' ∙ retained_seen K ks es fit v t t hv in
        let a : forward K x (leaving s (edge es u s)) ≡ y =
        ap (λ (z : ℕ). forward K z (leaving s (edge es u s))) (sym g.leaves) ∙ o.joins.there ∙ g.arrives in
        let b : forward K (rc K y) (leaving t (edge es v t)) ≡ rc K x =
        ap (λ (z : ℕ). forward K z (leaving t (edge es v t))) y' ∙ o.joins.back ∙ sym x' in
        rw (
          sx,
          sy,
          eu,
          ev,
          lt-ltb (edge es u s) 4 o.at_u,
          lt-ltb (edge es v t) 4 o.at_v,
          eq-eqb (forward K x (leaving s (edge es u s))) y a,
          eq-eqb (forward K (rc K y) (leaving t (edge es v t))) (rc K x) b,
        )
