-- Another rotation of a cycle passes: a label whose last k-mer is joined with its first may begin at any other of its k-mers, on either strand.
-- Assumes nothing.
use Prim.Native.Nat.{ℕ, ◌+◌, ◌≤◌}
use mathlib.Core.Path.{◌≡◌, refl, sym, ap, ◌∙◌, subst}
use mathlib.Core.Logic.{◌⊎◌, inl, inr, ⊎_elim}
use mathlib.Core.List.{List, [], ◌∷◌, ◌++◌, map, map-append}
use mathlib.Core.Bool.{true}
use native.Mathlib.Omega.{arith}
use lib.ListN.{get_or}
use Rattle.kmer.specs.Kmer.{canon}
use Rattle.graph.specs.Table.{fit_from}
use Rattle.graph.specs.Walks.{Ends}
use Rattle.graph.proofs.Lookup.{key_inj}
use Rattle.laws.specs.Windows.{windows_of, tally, occurs, occurrences}
use Rattle.laws.specs.Neighbours.{Next, Next.now, Next.later, Together, Together.follows, Together.precedes, Together.two_ends, Together.ends_two}
use Rattle.laws.specs.Demand.{Each, Each.more, Some, Some.here, Some.there}
use Rattle.laws.proofs.Pieces.{next_before, next_after, together_back}
use Rattle.laws.proofs.Neighbours.{together_turned}
use Rattle.laws.proofs.Windows.{Small}
use Rattle.laws.proofs.Occurrences.{tally_append}
use Rattle.rules.specs.Listing.{Label}
use Rattle.rules.specs.Rules.{Step, Steps, Rule1, Passes}
use Rattle.rules.specs.Verdict.{last_of}
use Rattle.rules.proofs.Stepping.{label_small}
use Rattle.rules.proofs.Turning.{last_snoc, ends_together, turned, turned_kmers, turned_tally, steps_turned}

-- ---- a row read from another place

next_split : {a b : ℕ} (p : ℕ) (ps : List ℕ) (q : ℕ) (qs : List ℕ) → Next a b (p ∷ (ps ++ (q ∷ qs)))
    → Next a b (p ∷ ps) ⊎ (Next a b (q ∷ qs) ⊎ ((a ≡ last_of (p ∷ ps)) × (b ≡ q)))
unfolding last_of
next_split p [] q qs now = inr (inr (refl, refl))
next_split p [] q qs (later n) = inr (inl n)
next_split p (r ∷ ps) q qs now = inl now
next_split p (r ∷ ps) q qs (later n) = ⊎_elim (λ m. inl (later m)) (λ m. inr m) (next_split r ps q qs n)

-- The last of the one row stands before the first of the other.
next_joint : (q : ℕ) (qs : List ℕ) (p : ℕ) (ps : List ℕ) → Next (last_of (q ∷ qs)) p (q ∷ (qs ++ (p ∷ ps)))
unfolding last_of
next_joint q [] p ps = now
next_joint q (r ∷ qs) p ps = later (next_joint r qs p ps)

last_append : (p : ℕ) (ps : List ℕ) (q : ℕ) (qs : List ℕ) → last_of (p ∷ (ps ++ (q ∷ qs))) ≡ last_of (q ∷ qs)
unfolding last_of
last_append p [] q qs = refl
last_append p (r ∷ ps) q qs = last_append r ps q qs

module _ (p : ℕ) (ps : List ℕ) (q : ℕ) (qs : List ℕ) where
  -- What follows in the row follows after the turn, or is its two ends.
  round_next : {a b : ℕ} → (a ≡ b → ⊥) → Next a b (p ∷ (ps ++ (q ∷ qs))) → Together a b ((q ∷ qs) ++ (p ∷ ps))
  round_next {a} {b} d n = ⊎_elim (λ m. follows (next_before (q ∷ qs) m))
      (λ r. ⊎_elim (λ m. follows (next_after (p ∷ ps) m))
      (λ e. ends_together b a ((q ∷ qs) ++ (p ∷ ps)) (omega arith) (sym e.1) (last_append q qs p ps ∙ sym e.0) (λ z. d (sym z))) r)
      (next_split p ps q qs n)

  round_ends : {a b : ℕ} (ms : List ℕ) → a ∷ (ms ++ (b ∷ [])) ≡ p ∷ (ps ++ (q ∷ qs)) → Next b a ((q ∷ qs) ++ (p ∷ ps))
  round_ends {a} {b} ms e =
      let first : a ≡ p = ap (λ (l : List ℕ). get_or l 0 0) e in
      let last : b ≡ last_of (q ∷ qs) = sym (last_snoc a ms b) ∙ ap last_of e ∙ last_append p ps q qs in
      rw (first, last) (next_joint q qs p ps)

  round_together : {a b : ℕ} {zs : List ℕ} → Together a b zs → zs ≡ p ∷ (ps ++ (q ∷ qs)) → (a ≡ b → ⊥) → Together a b ((q ∷ qs) ++ (p ∷ ps))
  round_together {a} {b} (follows n) e d = round_next d (subst (Next a b) e n)
  round_together {a} {b} (precedes n) e d = together_back (round_next (λ z. d (sym z)) (subst (Next b a) e n))
  round_together (two_ends ms) e d = precedes (round_ends ms e)
  round_together (ends_two ms) e d = follows (round_ends ms e)

-- ---- a list with one label more, put in somewhere

pub data Put (l : List ℕ) : List (List ℕ) → List (List ℕ) → Type 0 where
  first : {ls : List (List ℕ)} → Put l ls (l ∷ ls)
  behind : {m : List ℕ} {ls ms : List (List ℕ)} → Put l ls ms → Put l (m ∷ ls) (m ∷ ms)

put_count : (K x : ℕ) {l : List ℕ} {ls ms : List (List ℕ)} → Put l ls ms → occurrences K x ms ≡ occurs K x l + occurrences K x ls
unfolding occurrences
put_count K x first = refl
put_count K x (behind p) = omega (arith, put_count K x p)

module _ {P : List ℕ → Type 0} {l : List ℕ} where
  put_each : {ls ms : List (List ℕ)} → Put l ls ms → P l → Each P ls → Each P ms
  put_each first h e = more h e
  put_each (behind p) h (more g e) = more g (put_each p h e)

  out_each : {ls ms : List (List ℕ)} → Put l ls ms → Each P ms → P l × Each P ls
  out_each first (more g e) = (g, e)
  out_each (behind p) (more g e) = let r = out_each p e in (r.0, more g r.1)

  put_here : {ls ms : List (List ℕ)} → Put l ls ms → P l → Some P ms
  put_here first h = here h
  put_here (behind p) h = there (put_here p h)

  put_there : {ls ms : List (List ℕ)} → Put l ls ms → Some P ls → Some P ms
  put_there first s = there s
  put_there (behind p) (here h) = here h
  put_there (behind p) (there s) = there (put_there p s)

  out_some : {ls ms : List (List ℕ)} → Put l ls ms → Some P ms → P l ⊎ Some P ls
  out_some first (here h) = inl h
  out_some first (there s) = inr s
  out_some (behind p) (here h) = inr (here h)
  out_some (behind p) (there s) = ⊎_elim (λ h. inl h) (λ t. inr (there t)) (out_some p s)

-- ---- the cycle

module _ (K : ℕ) (ks : List ℕ) (es : List Ends) (one : 1 ≤ K) (fit : fit_from K 0 ks ≡ true) where
  -- The windows of m are those of l, read from a later one round to the one before it, on one strand or the other; and l is closed: its last window
  -- is joined with its first.
  pub record Round (l m : List ℕ) : Type 0 where
    pub p : ℕ
    pub ps : List ℕ
    pub q : ℕ
    pub qs : List ℕ
    pub row : windows_of K l ≡ (p ∷ ps) ++ (q ∷ qs)
    pub closed : Step K ks es (last_of (q ∷ qs)) p
    pub other : (windows_of K m ≡ (q ∷ qs) ++ (p ∷ ps)) ⊎ (windows_of K m ≡ turned K ((q ∷ qs) ++ (p ∷ ps)))

  module _ {l m : List ℕ} (label : Label K l) (r : Round l m) where
    abbrev was : List ℕ
    was = (r.p ∷ r.ps) ++ (r.q ∷ r.qs)

    abbrev is : List ℕ
    is = (r.q ∷ r.qs) ++ (r.p ∷ r.ps)

    small_parts : (xs ys : List ℕ) → Small K (xs ++ ys) → Small K xs × Small K ys
    small_parts [] ys s = (tt, s)
    small_parts (x ∷ xs) ys s = let t = small_parts xs ys s.1 in ((s.0, t.0), t.1)

    small_append : (xs ys : List ℕ) → Small K xs → Small K ys → Small K (xs ++ ys)
    small_append [] ys s t = t
    small_append (x ∷ xs) ys s t = (s.0, small_append xs ys s.1 t)

    is_small : Small K is
    is_small =
        let s = small_parts (r.p ∷ r.ps) (r.q ∷ r.qs) (subst (Small K) r.row (label_small K one l label)) in
        small_append (r.q ∷ r.qs) (r.p ∷ r.ps) s.1 s.0

    tally_round : (x : ℕ) (xs ys : List ℕ) → tally x (map (canon K) (xs ++ ys)) ≡ tally x (map (canon K) (ys ++ xs))
    tally_round x xs ys =
        omega (
          arith,
          ap (tally x) (map-append (canon K) xs ys),
          ap (tally x) (map-append (canon K) ys xs),
          tally_append x (map (canon K) xs) (map (canon K) ys),
          tally_append x (map (canon K) ys) (map (canon K) xs),
        )

    round_occurs : (x : ℕ) → occurs K x m ≡ occurs K x l
    round_occurs x =
        let back : tally x (map (canon K) is) ≡ occurs K x l =
        tally_round x (r.q ∷ r.qs) (r.p ∷ r.ps) ∙ sym (ap (λ (ws : List ℕ). tally x (map (canon K) ws)) r.row) in
        ⊎_elim (λ e. ap (λ (ws : List ℕ). tally x (map (canon K) ws)) e ∙ back)
        (λ e. ap (λ (ws : List ℕ). tally x (map (canon K) ws)) e ∙ turned_tally K x is is_small ∙ back) r.other

    round_steps : Steps K ks es (windows_of K l) → Steps K ks es (windows_of K m)
    round_steps f =
        let g : Steps K ks es was = subst (Steps K ks es) r.row f in
        let h : Steps K ks es is = λ x y n.
        ⊎_elim (λ k. g x y (next_before (r.p ∷ r.ps) k))
        (λ k. ⊎_elim (λ i. g x y (next_after (r.q ∷ r.qs) i))
        (λ e. subst (λ (z : ℕ). Step K ks es z y) (sym e.0) (subst (Step K ks es (last_of (r.q ∷ r.qs))) (sym e.1) r.closed)) k)
        (next_split r.q r.qs r.p r.ps n) in
        ⊎_elim (λ e. subst (Steps K ks es) (sym e) h) (λ e. subst (Steps K ks es) (sym e) (steps_turned K ks es fit is h)) r.other

    round_beside : {a b : ℕ} → (a ≡ b → ⊥) → Together a b (map (canon K) (windows_of K l)) → Together a b (map (canon K) (windows_of K m))
    round_beside {a} {b} d t =
        let f = map (canon K) in
        let c = canon K in
        let e : map (canon K) (windows_of K l) ≡ (canon K r.p ∷ map (canon K) r.ps) ++ (canon K r.q ∷ map (canon K) r.qs) =
        ap (map (canon K)) r.row ∙ map-append (canon K) (r.p ∷ r.ps) (r.q ∷ r.qs) in
        let g : Together a b (map (canon K) is) =
        subst (Together a b) (sym (map-append (canon K) (r.q ∷ r.qs) (r.p ∷ r.ps)))
        (round_together (c r.p) (f r.ps) (c r.q) (f r.qs) t e d) in
        ⊎_elim (λ q. subst (λ (ws : List ℕ). Together a b (map (canon K) ws)) (sym q) g)
        (λ q. subst (Together a b) (sym (ap (map (canon K)) q ∙ turned_kmers K is is_small)) (together_turned g)) r.other

    -- A list that passes still does with such a label in the place of l, wherever the order wants it.
    pub rotated_passes : {others ls ms : List (List ℕ)} → Put l others ls → Put m others ms → Passes K ks es ls → Rule1 K ks es ms
        → Passes K ks es ms
    rotated_passes {others} {ls} {ms} old new p rule =
        let same : (x : ℕ) → occurrences K x ms ≡ occurrences K x ls = λ x.
        omega (arith, put_count K x old, put_count K x new, round_occurs x) in
        let steps = out_each old p.rule3 in
        record {
          rule1 = rule;
          rule2 = record {
            exactly_once = λ v h i. same (get_or ks v 0) ∙ p.rule2.exactly_once v h i;
            no_other = λ x h. p.rule2.no_other x (omega (arith, same x));
          };
          rule3 = put_each new (round_steps steps.0) steps.1;
          rule4 = λ u v s t hu hv o d nu nv.
              ⊎_elim (λ h. put_here new (round_beside (λ e. d (key_inj K ks fit u v hu hv e)) h)) (λ h. put_there new h)
              (out_some old (p.rule4 u v s t hu hv o d nu nv));
        }
