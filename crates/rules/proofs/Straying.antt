-- Rule 4 in a label: what it is told by at the ends, and which pair it then wants together. Assumes nothing.
use Prim.Native.Nat.{ℕ, suc, ◌-◌, ◌%◌, ◌^◌, ◌≤◌, ◌<◌}
use mathlib.Core.Path.{◌≡◌, sym, ap, ◌∙◌, subst}
use mathlib.Core.Logic.{◌⊎◌, inl, inr, ⊎_elim}
use mathlib.Core.Bool.{true}
use mathlib.Core.List.{List, [], ◌∷◌, ◌++◌, map, reverse-cons}
use native.Mathlib.Omega.{arith}
use borrow.Author.Tests.{eqb-true, eq-eqb}
use lib.Dec.{eqb}
use lib.ListN.{length, get_or, length-map, length-reverse}
use Rattle.lemmas.proofs.Tests.{or_cases, or_on}
use Rattle.lemmas.proofs.Numbers.{true_or_false, lt_or_ge}
use Rattle.dna.specs.Letters.{reverse_complement}
use Rattle.kmer.specs.Kmer.{rc, canon}
use Rattle.kmer.proofs.Strands.{rc_rc}
use Rattle.kmer.proofs.Turned.{rc_lt}
use Rattle.state.specs.declared.Side.{Side}
use Rattle.state.specs.declared.Side.TheVariants.{Front, Back}
use Rattle.graph.specs.Table.{fit_from}
use Rattle.graph.specs.Walks.{Ends, seen}
use Rattle.laws.specs.Windows.{windows_from, windows_of, tally, occurs}
use Rattle.laws.specs.Neighbours.{Together}
use Rattle.laws.proofs.Neighbours.{map_reverse, together_turned}
use Rattle.laws.proofs.Windows.{Small}
use Rattle.laws.proofs.Occurrences.{tally_reverse, canon_seen}
use Rattle.rules.specs.Listing.{Label}
use Rattle.rules.specs.Rules.{Steps}
use Rattle.rules.specs.Verdict.{kmers_of, loose, breaks4}
use Rattle.rules.proofs.Stepping.{label_small, label_turned}
use Rattle.rules.proofs.Turning.{last_stands, last_map, turned, turned_kmers, turned_together, turned_tally, steps_turned}
use Rattle.rules.proofs.Ending.{Wanted, together_or_loose, loose_astray, astray_apart}

-- A label whose steps are all good.
pub record Good (K : ℕ) (ks : List ℕ) (es : List Ends) (l : List ℕ) : Type 0 where
  pub label : Label K l
  pub steps : Steps K ks es (windows_of K l)

module _ (K : ℕ) (ks : List ℕ) (es : List Ends) (one : 1 ≤ K) (odd : K % 2 ≡ 1) (fit : fit_from K 0 ks ≡ true) where
  abbrev key : ℕ → ℕ
  key v = get_or ks v 0

  -- A k-mer's vertex is seen on one strand or the other.
  either_strand : (u : ℕ) (s : Side) → u < length ks → (w : ℕ) → w < 4 ^ K → canon K w ≡ key u
      → (w ≡ seen K ks u s) ⊎ (rc K w ≡ seen K ks u s)
  unfolding canon
  either_strand u s h w l e = ⊎_elim (λ a. go s (inl (let q : w ≡ key u = omega arith in q)))
      (λ a. go s (inr (let q : rc K w ≡ key u = omega arith in q))) (lt_or_ge w (rc K w))
    where
      go : (s : Side) → (w ≡ key u) ⊎ (rc K w ≡ key u) → (w ≡ seen K ks u s) ⊎ (rc K w ≡ seen K ks u s)
      go Front (inl q) = inr (ap (rc K) q)
      go Front (inr q) = inl (sym (rc_rc K w l) ∙ ap (rc K) q)
      go Back (inl q) = inl q
      go Back (inr q) = inr q

  stands_somehow : (u : ℕ) (s : Side) → u < length ks → (ws : List ℕ) → Small K ws → 1 ≤ tally (key u) (map (canon K) ws)
      → (1 ≤ tally (seen K ks u s) ws) ⊎ (1 ≤ tally (seen K ks u s) (map (rc K) ws))
  unfolding tally
  stands_somehow u s h [] l k = absurd (omega arith)
  stands_somehow u s h (w ∷ ws) l k =
      ⊎_elim
      (λ q. ⊎_elim (λ e. inl (rw (eq-eqb w (seen K ks u s) e) (omega arith)))
      (λ e. inr (rw (eq-eqb (rc K w) (seen K ks u s) e) (omega arith)))
      (either_strand u s h w l.0 (eqb-true (canon K w) (key u) q)))
      (λ q.
      let m : 1 ≤ tally (key u) (map (canon K) ws) = let m = rw q at k in omega arith in
      ⊎_elim (λ z. inl (omega arith)) (λ z. inr (omega arith)) (stands_somehow u s h ws l.1 m))
      (true_or_false (eqb (canon K w) (key u)))

  row_or_loose : {u v : ℕ} {s t : Side} → Wanted K ks es one odd fit u s v t → (ws : List ℕ) → Steps K ks es ws
      → 1 ≤ tally (seen K ks u s) ws
      → Together (key u) (key v) (map (canon K) ws) ⊎ (loose K ks es ws ≡ true)
  unfolding tally
  row_or_loose g [] f h = absurd (omega arith)
  row_or_loose g (w ∷ ws) f h = together_or_loose K ks es one odd fit g w ws f h

  -- Of two that rule 4 wants together, one that stands in a label stands beside the other there, or the label breaks it.
  pub beside_or_breaks : {u v : ℕ} {s t : Side} → Wanted K ks es one odd fit u s v t → (done : List (List ℕ)) (l : List ℕ)
      → Good K ks es l → 1 ≤ occurs K (key u) l
      → Together (key u) (key v) (kmers_of K ks es l) ⊎ (breaks4 K ks es done l ≡ true)
  unfolding breaks4
  beside_or_breaks {u} {v} {s} {t} g done l p h =
      let ws = windows_of K l in
      let small = label_small K one l p.label in
      let there = label_turned K one l p.label in
      ⊎_elim
      (λ k. ⊎_elim (λ z. inl z) (λ z. inr (rw z)) (row_or_loose g ws p.steps k))
      (λ (k : 1 ≤ tally (seen K ks u s) (map (rc K) (windows_of K l))).
      let m : 1 ≤ tally (seen K ks u s) (turned K ws) =
      rw (sym (map_reverse (rc K) ws)) (omega (arith, tally_reverse (seen K ks u s) (rc K) ws)) in
      ⊎_elim (λ z. inl (turned_together K ws small z)) (λ z. inr (or_on (loose K ks es ws) (ap (loose K ks es) there ∙ z)))
      (row_or_loose g (turned K ws) (steps_turned K ks es fit ws p.steps) m))
      (stands_somehow u s g.u_stored ws small h)

  -- A k-mer of a row, and another that rule 4 wants together with it and that it is not beside.
  pub record Strays (ws : List ℕ) : Type 0 where
    pub u : ℕ
    pub v : ℕ
    pub u_side : Side
    pub v_side : Side
    pub wanted : Wanted K ks es one odd fit u u_side v v_side
    pub stands : 1 ≤ tally (key u) (map (canon K) ws)
    pub not_beside : Together (key u) (key v) (map (canon K) ws) → ⊥

  row_strays : (ws : List ℕ) → 1 ≤ length ws → Steps K ks es ws → Small K ws → ((x : ℕ) → tally x (map (canon K) ws) ≤ 1)
      → loose K ks es ws ≡ true → Strays ws
  row_strays [] n f s few h = absurd (omega arith)
  row_strays (w ∷ ws) n f s few h =
      let a = loose_astray K ks es one odd fit w ws s h in
      record {
        u = a.u;
        v = a.v;
        u_side = a.u_side;
        v_side = a.v_side;
        wanted = a.wanted;
        stands = subst (λ (x : ℕ). 1 ≤ tally x (map (canon K) (w ∷ ws)))
            (last_map (canon K) w ws ∙ ap (canon K) a.last ∙ canon_seen K ks fit a.u a.u_side a.wanted.u_stored)
            (last_stands (canon K w) (map (canon K) ws));
        not_beside = astray_apart K ks es one odd fit w ws a f (few (key a.u));
      }

  row_long : (l : List ℕ) → Label K l → 1 ≤ length (windows_of K l)
  unfolding windows_from
  row_long l p =
      let h : K ≤ length l = p.1 in
      let e : suc (length l) - K ≡ suc (length l - K) = omega arith in
      rw e (omega arith)

  pub breaks_strays : (done : List (List ℕ)) (l : List ℕ) → Good K ks es l → ((x : ℕ) → occurs K x l ≤ 1) → breaks4 K ks es done l ≡ true → Strays (windows_of K l)
  unfolding breaks4
  breaks_strays done l p few h =
      let ws = windows_of K l in
      let small = label_small K one l p.label in
      let there = label_turned K one l p.label in
      let long = row_long l p.label in
      ⊎_elim
      (λ q. row_strays ws long p.steps small few q)
      (λ q.
      let n : length (turned K ws) ≡ length ws = turned_length ws in
      let a = row_strays (turned K ws) (omega (arith, n)) (steps_turned K ks es fit ws p.steps) (turned_small ws small)
      (λ x. omega (arith, turned_tally K x ws small, few x)) (ap (loose K ks es) (sym there) ∙ q) in
      record {
        u = a.u;
        v = a.v;
        u_side = a.u_side;
        v_side = a.v_side;
        wanted = a.wanted;
        stands = omega (arith, turned_tally K (key a.u) ws small, a.stands);
        not_beside = λ t. a.not_beside (subst (Together (key a.u) (key a.v)) (sym (turned_kmers K ws small)) (together_turned t));
      })
      (or_cases (loose K ks es ws) (loose K ks es (windows_of K (reverse_complement l))) h)
    where
      turned_length : (zs : List ℕ) → length (turned K zs) ≡ length zs
      turned_length zs = length-reverse (map (rc K) zs) ∙ length-map zs (rc K)

      small_append : (xs ys : List ℕ) → Small K xs → Small K ys → Small K (xs ++ ys)
      small_append [] ys p q = q
      small_append (x ∷ xs) ys p q = (p.0, small_append xs ys p.1 q)

      turned_small : (zs : List ℕ) → Small K zs → Small K (turned K zs)
      turned_small [] p = tt
      turned_small (z ∷ zs) p =
          rw (reverse-cons (rc K z) (map (rc K) zs)) (small_append (turned K zs) (rc K z ∷ []) (turned_small zs p.1) (rc_lt K z, tt))
