-- Rule 4: a k-mer whose edge is the only one at both ends is beside the other in its label, or stands at an end of it that faces
-- outward; so the ends alone tell. Assumes nothing.
use Prim.Native.Nat.{ℕ, ◌%◌, ◌^◌, ◌≤◌, ◌<◌}
use mathlib.Core.Path.{◌≡◌, refl, sym, ap, ap₂, ◌∙◌, subst}
use mathlib.Core.Logic.{◌⊎◌, inl, inr, ⊎_elim}
use mathlib.Core.Bool.{Bool, true, false, not, ◌&&◌}
use mathlib.Core.List.{List, [], ◌∷◌, map}
use native.Mathlib.Omega.{arith}
use borrow.Author.Tests.{eqb-true, eqb-false, eq-eqb, ne_eqb, not-true}
use lib.Dec.{eqb}
use lib.ListN.{length, get_or}
use Rattle.lemmas.proofs.Tests.{both, never}
use Rattle.lemmas.proofs.Numbers.{true_or_false}
use Rattle.kmer.specs.Kmer.{rc, canon, forward}
use Rattle.kmer.proofs.Strands.{canon_rc, forward_lt}
use Rattle.state.specs.declared.Side.{Side}
use Rattle.state.specs.Counted.{opposite}
use Rattle.graph.specs.Table.{fit_from}
use Rattle.graph.specs.Walks.{Ends, edge, seen, leaving}
use Rattle.graph.proofs.Lookup.{key_inj}
use Rattle.laws.specs.Windows.{tally}
use Rattle.laws.specs.Neighbours.{Next, Next.now, Next.later, Together, Together.follows}
use Rattle.laws.specs.Demand.{Sole, OneBase}
use Rattle.laws.proofs.Windows.{Small}
use Rattle.laws.proofs.Occurrences.{canon_seen, seen_lt}
use Rattle.laws.proofs.Outward.{retained_seen}
use Rattle.rules.specs.Rules.{Steps}
use Rattle.rules.specs.Verdict.{last_of, after, exit, is_step, is_one_base, apart, loose_end, loose}
use Rattle.rules.proofs.Telling.{side_cases, not_opposite, seen_one, exit_seen, step_sound, step_complete}
use Rattle.rules.proofs.Single.{one_sound, one_complete}
use Rattle.rules.proofs.Stepping.{next_long}
use Rattle.rules.proofs.Turning.{last_stands, last_map, last_on, ends_together, not_together, next_unmap, step_out, step_in_lem}

all_five : {a b c d e : Bool} → a ≡ true → b ≡ false → c ≡ false → d ≡ false → e ≡ false → (a && (not b && not c && not d && not e)) ≡ true
all_five p q r s t = rw (p, q, r, s, t)

module _ (K : ℕ) (ks : List ℕ) (es : List Ends) (one : 1 ≤ K) (odd : K % 2 ≡ 1) (fit : fit_from K 0 ks ≡ true) where
  abbrev key : ℕ → ℕ
  key v = get_or ks v 0

  -- u, left by s, and v, left by t, are two k-mers that rule 4 wants together.
  pub record Wanted (u : ℕ) (s : Side) (v : ℕ) (t : Side) : Type 0 where
    pub u_stored : u < length ks
    pub v_stored : v < length ks
    pub sole : Sole K ks es u s v t
    pub differ : u ≡ v → ⊥
    pub u_bases : OneBase K (key u) → ⊥
    pub v_bases : OneBase K (key v) → ⊥

  pub wanted_back : {u v : ℕ} {s t : Side} → Wanted u s v t → Wanted v t u s
  wanted_back w = record {
    u_stored = w.v_stored;
    v_stored = w.u_stored;
    sole = record {
      at_u = w.sole.at_v;
      at_v = w.sole.at_u;
      joins = record
          { there = w.sole.joins.back; back = w.sole.joins.there };
    };
    differ = λ e. w.differ (sym e);
    u_bases = w.v_bases;
    v_bases = w.u_bases;
  }

  keys_differ : {u v : ℕ} {s t : Side} → Wanted u s v t → key u ≡ key v → ⊥
  keys_differ {u} {v} w e = w.differ (key_inj K ks fit u v w.u_stored w.v_stored e)

  -- ---- from a k-mer to its label's ends

  -- In a row of steps u, seen so that it is left by s, is followed by v, or is the last.
  onward : {u v : ℕ} {s t : Side} → Wanted u s v t → (ws : List ℕ) → Steps K ks es ws → 1 ≤ tally (seen K ks u s) ws
      → Next (key u) (key v) (map (canon K) ws) ⊎ (last_of ws ≡ seen K ks u s)
  unfolding tally last_of
  onward w [] f h = absurd (omega arith)
  onward {u} {v} {s} {t} w (a ∷ []) f h =
      ⊎_elim (λ q. inr (eqb-true a (seen K ks u s) q)) (λ q. absurd (let k = rw q at h in omega arith))
      (true_or_false (eqb a (seen K ks u s)))
  onward {u} {v} {s} {t} w (a ∷ b ∷ zs) f h =
      ⊎_elim
      (λ q.
      let e = eqb-true a (seen K ks u s) q in
      let ca : canon K a ≡ key u = ap (canon K) e ∙ canon_seen K ks fit u s w.u_stored in
      let to : b ≡ seen K ks v (opposite t) = step_out K ks es fit odd (f a b now) u s w.u_stored e ∙ w.sole.joins.there in
      let cb : canon K b ≡ key v = ap (canon K) to ∙ canon_seen K ks fit v (opposite t) w.v_stored in
      inl (rw (ca, cb) now))
      (λ q.
      let k : 1 ≤ tally (seen K ks u s) (b ∷ zs) = let k = rw q at h in omega arith in
      ⊎_elim (λ n. inl (later n)) (λ l. inr l) (onward w (b ∷ zs) (λ x y n. f x y (later n)) k))
      (true_or_false (eqb a (seen K ks u s)))

  -- The test of a row, its last k-mer and what that leads to being known.
  loose_is : (ws : List ℕ) (x y : ℕ) → last_of ws ≡ x → after K ks es x (exit K ks es x) ≡ y
      → loose K ks es ws ≡ (is_step K ks es x y && apart K (canon K x) (canon K y) (canon K (get_or ws 0 0)))
  unfolding loose_end
  loose_is ws x y p q = rw (p, q)

  -- u is beside v in the row, or the two are its ends, or its last k-mer is loose.
  pub together_or_loose : {u v : ℕ} {s t : Side} → Wanted u s v t → (w : ℕ) (ws : List ℕ) → Steps K ks es (w ∷ ws)
      → 1 ≤ tally (seen K ks u s) (w ∷ ws)
      → Together (key u) (key v) (map (canon K) (w ∷ ws)) ⊎ (loose K ks es (w ∷ ws) ≡ true)
  together_or_loose {u} {v} {s} {t} g w ws f h = ⊎_elim (λ n. inl (follows n)) ends (onward g (w ∷ ws) f h)
    where
      ends : last_of (w ∷ ws) ≡ seen K ks u s → Together (key u) (key v) (map (canon K) (w ∷ ws)) ⊎ (loose K ks es (w ∷ ws) ≡ true)
      ends q =
          let x = seen K ks u s in
          let y = seen K ks v (opposite t) in
          let hu = g.u_stored in
          let hv = g.v_stored in
          let ex : exit K ks es (seen K ks u s) ≡ s = exit_seen K ks es fit odd u s hu in
          let to : after K ks es (seen K ks u s) (exit K ks es (seen K ks u s)) ≡ seen K ks v (opposite t) =
          rw (ex, retained_seen K ks es fit u s s hu) g.sole.joins.there in
          let st : is_step K ks es (seen K ks u s) (seen K ks v (opposite t)) ≡ true =
          step_complete K ks es fit odd (seen K ks u s) (seen K ks v (opposite t))
          (record {
            from = u;
            out = s;
            to = v;
            into = t;
            from_stored = hu;
            to_stored = hv;
            leaves = refl;
            arrives = refl;
            sole = g.sole;
          }) in
          let cx : canon K (seen K ks u s) ≡ key u = canon_seen K ks fit u s hu in
          let cy : canon K (seen K ks v (opposite t)) ≡ key v = canon_seen K ks fit v (opposite t) hv in
          let nu : is_one_base K (key u) ≡ false =
          ⊎_elim (λ e. absurd (g.u_bases (one_sound K ks one fit u hu e))) (λ e. e) (true_or_false (is_one_base K (key u))) in
          let nv : is_one_base K (key v) ≡ false =
          ⊎_elim (λ e. absurd (g.v_bases (one_sound K ks one fit v hv e))) (λ e. e) (true_or_false (is_one_base K (key v))) in
          let df : eqb (key v) (key u) ≡ false = ne_eqb (key v) (key u) (λ e. keys_differ g (sym e)) in
          ⊎_elim
          (λ e. inl (ends_together (key v) (key u) (map (canon K) (w ∷ ws)) (omega arith) (sym (eqb-true (key v) (canon K w) e))
          (last_map (canon K) w ws ∙ ap (canon K) q ∙ cx) (λ d. keys_differ g (sym d))))
          (λ e. inr (loose_is (w ∷ ws) x y q to
          ∙ all_five st (ap₂ eqb cy cx ∙ df) (ap (is_one_base K) cx ∙ nu) (ap (is_one_base K) cy ∙ nv)
          (ap (λ (n : ℕ). eqb n (canon K (get_or (w ∷ ws) 0 0))) cy ∙ e)))
          (true_or_false (eqb (key v) (canon K (get_or (w ∷ ws) 0 0))))

  -- ---- from a loose end to two k-mers

  -- The row's last k-mer, u, leads to v, and they do not stand together in it.
  pub record Astray (ws : List ℕ) : Type 0 where
    pub u : ℕ
    pub v : ℕ
    pub u_side : Side
    pub v_side : Side
    pub wanted : Wanted u u_side v v_side
    pub last : last_of ws ≡ seen K ks u u_side
    pub not_first : canon K (get_or ws 0 0) ≡ key v → ⊥

  last_small : (w : ℕ) (ws : List ℕ) → Small K (w ∷ ws) → last_of (w ∷ ws) < 4 ^ K
  unfolding last_of
  last_small w [] s = s.0
  last_small w (y ∷ ys) s = last_small y ys s.1

  pub loose_astray : (w : ℕ) (ws : List ℕ) → Small K (w ∷ ws) → loose K ks es (w ∷ ws) ≡ true → Astray (w ∷ ws)
  loose_astray w ws s h =
      let x = last_of (w ∷ ws) in
      let y = after K ks es (last_of (w ∷ ws)) (exit K ks es (last_of (w ∷ ws))) in
      let t = both (is_step K ks es x y) (apart K (canon K x) (canon K y) (canon K w)) (sym (loose_is (w ∷ ws) x y refl refl) ∙ h) in
      let a = both _ _ t.1 in
      let b = both _ _ a.0 in
      let c = both _ _ b.0 in
      let g = step_sound K ks es fit odd x y (last_small w ws s) (forward_lt K x _) t.0 in
      let hu = g.from_stored in
      let hv = g.to_stored in
      let cx : canon K x ≡ key g.from = ap (canon K) (sym g.leaves) ∙ canon_seen K ks fit g.from g.out hu in
      let cy : canon K y ≡ key g.to = ap (canon K) (sym g.arrives) ∙ canon_seen K ks fit g.to (opposite g.into) hv in
      record {
        u = g.from;
        v = g.to;
        u_side = g.out;
        v_side = g.into;
        wanted = record {
          u_stored = hu;
          v_stored = hv;
          sole = g.sole;
          differ = λ e. eqb-false (canon K y) (canon K x) (not-true _ c.0) (cy ∙ ap key (sym e) ∙ sym cx);
          u_bases = λ o. never (is_one_base K (canon K x)) (ap (is_one_base K) cx ∙ one_complete K ks one fit g.from hu o)
              (not-true _ c.1);
          v_bases = λ o. never (is_one_base K (canon K y)) (ap (is_one_base K) cy ∙ one_complete K ks one fit g.to hv o) (not-true _ b.1);
        };
        last = sym g.leaves;
        not_first = λ e. eqb-false (canon K y) (canon K w) (not-true _ a.1) (cy ∙ sym e);
      }

  -- v does not stand between another k-mer and u, where u is the last.
  between : {u v : ℕ} {s t : Side} → Wanted u s v t → (a b c : ℕ) (zs : List ℕ) → Steps K ks es (a ∷ b ∷ c ∷ zs) → canon K b
      ≡ key v → c ≡ seen K ks u s
      → (canon K a ≡ key u → ⊥) → ⊥
  between {u} {v} {s} {t} g a b c zs f cb c-is away =
      let hu = g.u_stored in
      let hv = g.v_stored in
      let g₁ = f a b now in
      let g₂ = f b c (later now) in
      let from : g₂.from ≡ v =
      key_inj K ks fit g₂.from v g₂.from_stored hv
      (sym (canon_seen K ks fit g₂.from g₂.out g₂.from_stored) ∙ ap (canon K) g₂.leaves ∙ cb) in
      let b-is : b ≡ seen K ks v g₂.out = sym g₂.leaves ∙ ap (λ (i : ℕ). seen K ks i g₂.out) from in
      let r = g₂.out in
      let on : c ≡ forward K (seen K ks v g₂.out) (leaving g₂.out (edge es v g₂.out)) = step_out K ks es fit odd g₂ v r hv b-is in
      let back : rc K a ≡ forward K (seen K ks v (opposite g₂.out)) (leaving (opposite g₂.out) (edge es v (opposite g₂.out))) =
      step_in_lem K ks es fit odd g₁ v r hv b-is in
      let home = g.sole.joins.back in
      ⊎_elim
      (λ (e : t ≡ g₂.out).
      let z : seen K ks u s ≡ seen K ks u (opposite s) =
      sym c-is ∙ on ∙ ap (λ (q : Side). forward K (seen K ks v q) (leaving q (edge es v q))) (sym e) ∙ home in
      not_opposite s (seen_one K ks es fit odd u u s (opposite s) hu hu z).1)
      (λ (e : t ≡ opposite g₂.out).
      let z : rc K a ≡ seen K ks u (opposite s) =
      back ∙ ap (λ (q : Side). forward K (seen K ks v q) (leaving q (edge es v q))) (sym e) ∙ home in
      let small : a < 4 ^ K = subst (λ (n : ℕ). n < 4 ^ K) g₁.leaves (seen_lt K ks fit g₁.from g₁.out g₁.from_stored) in
      away (sym (canon_rc K a small) ∙ ap (canon K) z ∙ canon_seen K ks fit u (opposite s) hu))
      (side_cases r t)

  -- Nor does it stand before u at all, where it is not the first.
  not_before : {u v : ℕ} {s t : Side} → Wanted u s v t → {b c : ℕ} (a : ℕ) {ws : List ℕ} → Next b c ws → Steps K ks es (a ∷ ws)
      → canon K b ≡ key v → canon K c ≡ key u → last_of ws ≡ seen K ks u s → tally (key u) (map (canon K) (a ∷ ws)) ≤ 1 → ⊥
  unfolding tally last_of
  not_before {u} {v} {s} {t} g {b} {c} a (now {zs = zs}) f cb cu l few = go zs f l few
    where
      here : eqb (canon K c) (key u) ≡ true
      here = eq-eqb (canon K c) (key u) cu

      go : (zs : List ℕ) → Steps K ks es (a ∷ b ∷ c ∷ zs) → last_of (b ∷ c ∷ zs) ≡ seen K ks u s
          → tally (key u) (map (canon K) (a ∷ b ∷ c ∷ zs)) ≤ 1 → ⊥
      go [] f l few = between g a b c [] f cb l (λ e. let k = rw (here, eq-eqb (canon K a) (key u) e) at few in omega arith)
      go (d ∷ ds) f l few =
          let at : last_of (map (canon K) (d ∷ ds)) ≡ key u = last_map (canon K) d ds ∙ ap (canon K) l
          ∙ canon_seen K ks fit u s g.u_stored in
          let again : 1 ≤ tally (key u) (map (canon K) (d ∷ ds)) =
          subst (λ (n : ℕ). 1 ≤ tally n (map (canon K) (d ∷ ds))) at (last_stands (canon K d) (map (canon K) ds)) in
          let k = rw here at few in
          omega arith
  not_before g a (later {z = z} {zs = zs} n) f cb cu l few =
      not_before g z n (λ x y m. f x y (later m)) cb cu (sym (last_on z zs (omega (arith, next_long n))) ∙ l) (omega arith)

  first_or_not : {u v : ℕ} {s t : Side} → Wanted u s v t → {b c : ℕ} {ws : List ℕ} → Next b c ws → Steps K ks es ws
      → canon K b ≡ key v → canon K c ≡ key u → last_of ws ≡ seen K ks u s → tally (key u) (map (canon K) ws) ≤ 1
      → (canon K (get_or ws 0 0) ≡ key v → ⊥) → ⊥
  first_or_not g now f cb cu l few nf = nf cb
  first_or_not g (later {z = z} {zs = zs} n) f cb cu l few nf =
      not_before g z n f cb cu (sym (last_on z zs (omega (arith, next_long n))) ∙ l) few

  pub astray_apart : (w : ℕ) (ws : List ℕ) (a : Astray (w ∷ ws)) → Steps K ks es (w ∷ ws) → tally (key a.u) (map (canon K) (w ∷ ws)) ≤ 1
      → Together (key a.u) (key a.v) (map (canon K) (w ∷ ws)) → ⊥
  astray_apart w ws a f few t =
      let g = a.wanted in
      not_together t (last_map (canon K) w ws ∙ ap (canon K) a.last ∙ canon_seen K ks fit a.u a.u_side g.u_stored)
      a.not_first few (keys_differ g)
      (λ n. let r = next_unmap (canon K) (w ∷ ws) n in first_or_not g r.2 f r.3 r.4 a.last few a.not_first)
