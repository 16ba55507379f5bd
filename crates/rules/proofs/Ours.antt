-- Our own list passes: outward from a label's smallest k-mer each step is by an edge that is the only one at both ends, where the
-- counts of an edge's two ends are the same. Assumes nothing.
use Prim.Native.Nat.{ℕ, suc, ◌+◌, ◌-◌, ◌%◌, ◌^◌, ◌≤◌, ◌<◌}
use mathlib.Core.Path.{◌≡◌, refl, sym, ap, ap₂, ◌∙◌, subst}
use mathlib.Core.Logic.{◌⊎◌, inl, inr, ⊎_elim}
use mathlib.Core.Bool.{true, false}
use mathlib.Core.List.{List, [], ◌∷◌, ◌++◌, map, map-append, reverse, reverse-cons}
use native.Mathlib.Omega.{arith}
use borrow.Author.Tests.{eqb-true, eq-eqb}
use lib.Dec.{eqb}
use lib.ListN.{length, get_or}
use Rattle.lemmas.proofs.Numbers.{true_or_false, lt_or_ge}
use Rattle.dna.specs.Letters.{reverse_complement}
use Rattle.dna.proofs.Reversal.{length_reverse_complement}
use Rattle.kmer.specs.Kmer.{rc, canon, forward}
use Rattle.kmer.proofs.Strands.{rc_rc, canon_rc, forward_lt}
use Rattle.state.specs.declared.Side.{Side}
use Rattle.state.specs.Counted.{opposite}
use Rattle.state.proofs.Slots.{opposite_opposite}
use Rattle.graph.specs.Table.{fit_from}
use Rattle.graph.specs.Sightings.{windows}
use Rattle.graph.specs.Walks.{Ends, edge, isolated, seen, leaving, entrance}
use Rattle.graph.proofs.Lookup.{key_at_lem}
use Rattle.laws.specs.Windows.{windows_from, windows_of, tally, occurs, occurrences, Plain}
use Rattle.laws.specs.Neighbours.{Next, Next.now, Next.later}
use Rattle.laws.specs.Demand.{Each, Each.none, Each.more, retained, Outward, Outward.stays, Outward.steps, Sole, OneBase, FromSmallest, Maximal, Always}
use Rattle.laws.proofs.Plain.{plain_bases}
use Rattle.laws.proofs.Windows.{bases_back, windows_turned, Small, windows_small}
use Rattle.laws.proofs.Steps.{ahead}
use Rattle.laws.proofs.Occurrences.{canon_seen, canon_turned, tally_append, tally_reverse}
use Rattle.rules.specs.Listing.{Label}
use Rattle.rules.specs.Rules.{Live, Step, Steps, Rule3, Passes}
use Rattle.rules.specs.Verdict.{exit}
use Rattle.laws.proofs.Outward.{retained_seen}
use Rattle.rules.proofs.Telling.{edge_live, exit_seen}
use Rattle.rules.proofs.Stepping.{next_long}
use Rattle.rules.proofs.Turning.{turned, turned_tally, steps_turned}

-- ---- rows of steps

next_seam : {x y : ℕ} (ps : List ℕ) (k : ℕ) (qs : List ℕ) → Next x y (ps ++ (k ∷ qs)) → Next x y (ps ++ (k ∷ [])) ⊎ Next x y (k ∷ qs)
next_seam [] k qs n = inr n
next_seam (a ∷ []) k qs now = inl now
next_seam (a ∷ []) k qs (later n) = inr n
next_seam (a ∷ b ∷ ps) k qs now = inl now
next_seam (a ∷ b ∷ ps) k qs (later n) = ⊎_elim (λ m. inl (later m)) (λ m. inr m) (next_seam (b ∷ ps) k qs n)

module _ (K : ℕ) (ks : List ℕ) (es : List Ends) (odd : K % 2 ≡ 1) (fit : fit_from K 0 ks ≡ true) where
  abbrev key : ℕ → ℕ
  key v = get_or ks v 0

  -- Each edge leads to a stored k-mer; where that is another and does not branch there, the edge is the only one at both ends.
  abbrev pub Answers : Type 0
  Answers = (u : ℕ) (s : Side) → u < length ks → edge es u s < 4
      → (v : ℕ) × (t : Side) × (v < length ks) × (ahead K ks es u s ≡ seen K ks v (opposite t))
      × ((u ≡ v → ⊥) → (edge es v t ≡ 4 → ⊥) → Sole K ks es u s v t)

  -- Every k-mer of a row may stand.
  abbrev Lives : List ℕ → Type 0
  Lives ws = (z : ℕ) → 1 ≤ tally z (map (canon K) ws) → Live K ks es z

  abbrev Few : List ℕ → Type 0
  Few ws = (z : ℕ) → tally z (map (canon K) ws) ≤ 1

  steps_one : (x : ℕ) → Steps K ks es (x ∷ [])
  steps_one x a b n = absurd (let z = next_long n in omega arith)

  steps_cons : {x y : ℕ} {ys : List ℕ} → Step K ks es x y → Steps K ks es (y ∷ ys) → Steps K ks es (x ∷ y ∷ ys)
  steps_cons g f a b now = g
  steps_cons g f a b (later n) = f a b n

  steps_seam : (ps : List ℕ) (k : ℕ) (qs : List ℕ) → Steps K ks es (ps ++ (k ∷ [])) → Steps K ks es (k ∷ qs)
      → Steps K ks es (ps ++ (k ∷ qs))
  steps_seam ps k qs f g x y n = ⊎_elim (λ m. f x y m) (λ m. g x y m) (next_seam ps k qs n)

  lives_cons : (x : ℕ) (ys : List ℕ) → Live K ks es (canon K x) → Lives ys → Lives (x ∷ ys)
  unfolding tally
  lives_cons x ys l f z h =
      ⊎_elim (λ q. subst (Live K ks es) (eqb-true (canon K x) z q) l)
      (λ q. f z (let m = rw q at h in omega arith)) (true_or_false (eqb (canon K x) z))

  lives_none : Lives []
  unfolding tally
  lives_none z h = absurd (omega arith)

  small_outward : {s : Side} {x : ℕ} {ys : List ℕ} → Outward K ks es s (x ∷ ys) → Small K ys
  small_outward stays = tt
  small_outward {s} {x} (steps f e _ n o) =
      (subst (λ (m : ℕ). m < 4 ^ K) (sym e) (forward_lt K x (leaving s (retained K ks es x s))), small_outward o)

  module _ (answers : Answers) where
    -- Outward from a k-mer that may stand every step is good, and every k-mer may stand.
    outward : {s : Side} {x : ℕ} {ys : List ℕ} → Outward K ks es s (x ∷ ys) → (u : ℕ) → u < length ks → x ≡ seen K ks u s
        → isolated es u ≡ false
        → Few (x ∷ ys) → Steps K ks es (x ∷ ys) × Lives (x ∷ ys)
    unfolding tally
    outward {s} {x} stays u h e i few = (
      steps_one x,
      lives_cons x [] (record {
        vertex = u;
        stored_one = h;
        not_isolated = i;
        is = sym
            (ap (canon K) e ∙ canon_seen K ks fit u s h);
      }) lives_none,
    )
    outward {s} {x} (steps {y = y} {ys = ys} r f _ nb o) u h e i few =
        let er : retained K ks es x s ≡ edge es u s = ap (λ (z : ℕ). retained K ks es z s) e ∙ retained_seen K ks es fit u s s h in
        let a = answers u s h (omega (arith, er)) in
        let v = a.0 in
        let t = a.1 in
        let hv = a.2 in
        let y-is : y ≡ seen K ks a.0 (opposite a.1) =
        f ∙ ap₂ (λ (z d : ℕ). forward K z (leaving s d)) e er ∙ a.3 in
        let cx : canon K x ≡ key u = ap (canon K) e ∙ canon_seen K ks fit u s h in
        let cy : canon K y ≡ key a.0 = ap (canon K) y-is ∙ canon_seen K ks fit v (opposite t) hv in
        let ey : opposite (entrance K y) ≡ opposite a.1 = ap (exit K ks es) y-is ∙ exit_seen K ks es fit odd v (opposite t) hv in
        let en : entrance K y ≡ a.1 = sym (opposite_opposite (entrance K y)) ∙ ap opposite ey ∙ opposite_opposite t in
        let differ : u ≡ a.0 → ⊥ = λ d. twice (canon K x) (canon K y) (map (canon K) ys) (cx ∙ ap key d ∙ sym cy) (few (canon K x)) in
        let ry : retained K ks es y (entrance K y) ≡ edge es a.0 a.1 =
        ap₂ (λ (z : ℕ) (d : Side). retained K ks es z d) y-is en ∙ retained_seen K ks es fit v (opposite t) t hv in
        let sole = a.4 differ (λ q. nb (ry ∙ q)) in
        let g : Step K ks es x y = record {
          from = u;
          out = s;
          to = a.0;
          into = a.1;
          from_stored = h;
          to_stored = hv;
          leaves = sym e;
          arrives = sym y-is;
          sole = sole;
        } in
        let rest = outward o v hv (y-is ∙ ap (seen K ks v) (sym ey)) (edge_live K ks es fit v t sole.at_v) (λ z. omega (arith, few z)) in
        (steps_cons g rest.0, lives_cons x (y ∷ ys) (record { vertex = u; stored_one = h; not_isolated = i; is = sym cx }) rest.1)
      where
        twice : (p q : ℕ) (zs : List ℕ) → p ≡ q → tally p (p ∷ q ∷ zs) ≤ 1 → ⊥
        twice p q zs d k = let m = rw (eq-eqb p p refl, eq-eqb q p (sym d)) at k in omega arith

    -- A reading that leads outward from its smallest k-mer.
    reading_fine : {l : List ℕ} (g : FromSmallest K ks es l) → Few (windows_of K g.reading)
        → Steps K ks es (windows_of K g.reading) × Lives (windows_of K g.reading)
    unfolding tally
    reading_fine g few =
        let v = g.smallest in
        let k = key g.smallest in
        let h = g.stored_one in
        let below = (key_at_lem K ks fit g.smallest h).below in
        let left = g.left in
        let right = g.right in
        let w = g.stands in
        let sl : Small K g.left = small_outward g.leftward in
        let whole : (z : ℕ) → tally z (map (canon K) (windows_of K g.reading))
        ≡ tally z (map (canon K) g.left) + tally z (map (canon K) (key g.smallest ∷ g.right)) = λ z.
        ap (λ (ws : List ℕ). tally z (map (canon K) ws)) w
        ∙ ap (tally z) (map-append (canon K) (reverse (map (rc K) left)) (k ∷ right))
        ∙ tally_append z (map (canon K) (reverse (map (rc K) left))) (map (canon K) (k ∷ right))
        ∙ ap (λ (n : ℕ). n + tally z (map (canon K) (k ∷ right)))
        (tally_reverse z (canon K) (map (rc K) left) ∙ ap (tally z) (canon_turned K left sl)) in
        let ck : canon K (rc K (key g.smallest)) ≡ canon K (key g.smallest) = canon_rc K k below in
        let r = outward g.rightward v h refl g.not_isolated (λ z. omega (arith, whole z, few z)) in
        let l = outward g.leftward v h refl g.not_isolated
        (λ z. let e = ap (λ (n : ℕ). tally z (n ∷ map (canon K) left)) ck in omega (arith, whole z, few z, e)) in
        let back : Steps K ks es (reverse (map (rc K) g.left) ++ (key g.smallest ∷ [])) =
        subst (Steps K ks es)
        (reverse-cons (rc K (rc K k)) (map (rc K) left) ∙ ap (λ (n : ℕ). reverse (map (rc K) left) ++ (n ∷ [])) (rc_rc K k below))
        (steps_turned K ks es fit (rc K k ∷ left) l.0) in (
          subst (Steps K ks es) (sym w) (steps_seam (reverse (map (rc K) left)) k right back r.0),
          λ z m. ⊎_elim (λ q. r.1 z (omega (arith, whole z))) (λ q. l.1 z (omega arith)) (lt_or_ge (tally z (map (canon K) left)) 1),
        )

    -- A label that leads outward from its smallest k-mer.
    label_fine : (l : List ℕ) → 1 ≤ K → Label K l → FromSmallest K ks es l → Few (windows_of K l)
        → Steps K ks es (windows_of K l) × Lives (windows_of K l)
    label_fine l one p g few = ⊎_elim
        (λ q.
        let e = ap (windows_of K) q in
        let f = reading_fine g (subst Few e few) in
        (subst (Steps K ks es) (sym e) f.0, subst Lives (sym e) f.1))
        (λ q.
        let bases = bases_back g.reading (plain_bases (reverse_complement g.reading) (subst Plain q p.0)) in
        let long : K ≤ length l = p.1 in
        let n : length l ≡ length g.reading = ap length q ∙ length_reverse_complement g.reading in
        let small = windows_small K (windows K g.reading) g.reading one (omega arith) bases in
        let e : windows_of K l ≡ turned K (windows_of K g.reading) =
        ap₂ (windows_from K) (ap (λ (m : ℕ). suc m - K) n) q
        ∙ windows_turned K one (windows K g.reading) g.reading (omega arith) bases in
        let same : (z : ℕ) → tally z (map (canon K) (windows_of K l)) ≡ tally z (map (canon K) (windows_of K g.reading)) = λ z.
        ap (λ (ws : List ℕ). tally z (map (canon K) ws)) e ∙ turned_tally K z (windows_of K g.reading) small in
        let f = reading_fine g (λ z. omega (arith, same z, few z)) in
        (subst (Steps K ks es) (sym e) (steps_turned K ks es fit (windows_of K g.reading) f.0), λ z m. f.1 z (omega (arith, same z))))
        g.strand

    each_fine : 1 ≤ K → {ls : List (List ℕ)} → Each (Label K) ls → Each (FromSmallest K ks es) ls → ((x : ℕ) → occurrences K x ls ≤ 1)
        → Each (λ l. Steps K ks es (windows_of K l) × Lives (windows_of K l)) ls
    unfolding occurrences
    each_fine one none none few = none
    each_fine one (more {x = l} p e) (more g f) few =
        more (label_fine l one p g (λ z. omega (arith, few z))) (each_fine one e f (λ x. omega (arith, few x)))

    each_steps : {ls : List (List ℕ)} → Each (λ l. Steps K ks es (windows_of K l) × Lives (windows_of K l)) ls → Rule3 K ks es ls
    each_steps none = none
    each_steps (more p e) = more p.0 (each_steps e)

    each_lives : {ls : List (List ℕ)} → Each (λ l. Steps K ks es (windows_of K l) × Lives (windows_of K l)) ls
        → (x : ℕ) → 1 ≤ occurrences K x ls → Live K ks es x
    unfolding occurrences
    each_lives none x h = absurd (omega arith)
    each_lives (more {x = l} p e) x h = ⊎_elim (λ z. each_lives e x (omega arith)) (λ z. p.1 x z) (lt_or_ge (occurs K x l) 1)

    -- A list that meets demand 3 passes.
    pub demand_passes : 1 ≤ K → {ls : List (List ℕ)} → Each (Label K) ls → Always K ks es ls → Maximal K ks es (OneBase K) ls
        → Passes K ks es ls
    demand_passes one e a m =
        let f = each_fine one e a.outward a.never_twice in
        record {
          rule1 = record { ascend = a.ascend; none_above = a.none_above };
          rule2 = record { exactly_once = a.exactly_once; no_other = each_lives f };
          rule3 = each_steps f;
          rule4 = m;
        }
