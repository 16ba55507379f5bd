-- In a grown table an isolated k-mer stands in a label only for even K and cutoff 2 or more: else an edge that leads to a vertex is
-- retained there too. Assumes nothing.
use mathlib.Core.Path.{◌≡◌, sym, ap, ◌∙◌}
use mathlib.Core.Bool.{true, false}
use mathlib.Core.Logic.{◌⊎◌, ⊎_elim}
use mathlib.Core.List.Memᴰ
use mathlib.Core.List.{List, [], ◌∷◌, Memᴰ}
use Prim.Native.Nat.{ℕ, ◌%◌, ◌≤◌, ◌<◌}
use native.Mathlib.Omega.{arith}
use lib.Dec.{eqb}
use lib.ListN.{length, get_or}
use borrow.Author.Tests.{eqb-true, eqb-false}
use Rattle.lemmas.proofs.Tests.{both}
use Rattle.lemmas.proofs.Numbers.{true_or_false, lt_or_ge}
use Rattle.kmer.specs.Kmer.{canon, ok_k}
use Rattle.state.specs.declared.Side.{Side}
use Rattle.state.specs.declared.Side.TheVariants.{Front, Back}
use Rattle.state.specs.Counted.{Kind, slot_of, count, retained, edge_at, edge_count}
use Rattle.state.proofs.Edges.{edge_none, edge_base}
use Rattle.state.proofs.Retained.{retained_exactly}
use Rattle.graph.specs.Table.{table_of, keys_of, fit_from}
use Rattle.graph.specs.Sightings.{Rule}
use Rattle.graph.specs.Walks.{Ends, edge, isolated}
use Rattle.graph.specs.Labels.{run}
use Rattle.graph.specs.Contraction.{ends_in}
use Rattle.graph.proofs.Rank.{stored_at}
use Rattle.graph.proofs.Lookup.{key_inj}
use Rattle.graph.proofs.Accepted.{fit_length, fit_sound, accepted}
use Rattle.laws.specs.Grown.{Grown, fresh, accepts, moves, Joins}
use Rattle.laws.specs.Windows.{occurrences}
use Rattle.laws.proofs.Keys.{grown_fit}
use Rattle.laws.proofs.Symmetry.{Lawful}
use Rattle.laws.proofs.Edges.{other_end, grown_symmetric}
use Rattle.laws.proofs.Fits.{edge_at_lem, edges_known, fit_marks}
use Rattle.laws.proofs.Steps.{ahead}
use Rattle.laws.proofs.Leads.{Leads}
use Rattle.laws.proofs.Answered.{grown_answered}
use Rattle.laws.proofs.Entered.{EntersLive, run_passes}

-- Both sides of an isolated vertex answer E.
isolated_side : (es : List Ends) (v : ℕ) (s : Side) → isolated es v ≡ true → edge es v s ≡ 5
isolated_side es v Front h = eqb-true (edge es v Front) 5 (both (eqb (edge es v Front) 5) (eqb (edge es v Back) 5) h).0
isolated_side es v Back h = eqb-true (edge es v Back) 5 (both (eqb (edge es v Front) 5) (eqb (edge es v Back) 5) h).1

-- A side with a count of at least the cutoff does not answer E.
pub edge_some : (κ : Kind) (cutoff w : ℕ) (s : Side) (c : ℕ) → c < 4 → cutoff ≤ count κ w (slot_of s c) → edge_at κ cutoff w s ≡ 5 → ⊥
unfolding edge_count
edge_some κ cutoff w s c h k e = no_member (retained κ cutoff w s 4 0) ((edge_none κ cutoff w s).0 e) c ((retained_exactly κ cutoff w s c).1 (h, k))
  where
    no_member : (l : List ℕ) → length l ≡ 0 → (x : ℕ) → Memᴰ x l → ⊥
    no_member [] q x m = Memᴰ.not-nil m
    no_member (b ∷ l) q x m = omega arith

-- A table that stores something was grown with a K that is not refused.
grown_ok : {κ : Kind} {rule : Rule} {K : ℕ} {ls : List (List ℕ)} {n : ℕ} {keys counts : List ℕ}
    → Grown κ rule K ls n keys counts → 0 < n → ok_k K ≡ true
grown_ok (fresh keys counts) h = absurd (omega arith)
grown_ok {κ} {rule} {K} (accepts {n = n} {keys = keys} {counts = counts} g l e q) h = (accepted κ rule K n keys counts l e q).ok
grown_ok (moves g keys' counts' e) h = grown_ok g h

module _ {Excepted : ℕ → Type 0} {κ : Kind} {rule : Rule} {K : ℕ} {ls : List (List ℕ)} {n : ℕ} {keys counts : List ℕ}
    (lawful : Lawful Excepted rule K) (g : Grown κ rule K ls n keys counts) (cutoff : ℕ) where
  abbrev ks : List ℕ
  ks = keys_of n keys

  abbrev es : List Ends
  es = ends_in κ cutoff (table_of n keys counts)

  size : length ks ≡ n
  size = fit_length K n keys counts (grown_fit g)

  fits : fit_from K 0 ks ≡ true
  fits = (fit_sound K n keys counts (grown_fit g)).fits

  edge_here : (v : ℕ) (s : Side) → v < length ks → edge es v s ≡ edge_at κ cutoff (get_or counts v 0) s
  edge_here = edge_at_lem κ K cutoff n keys counts (grown_fit g)

  -- A vertex with a counter that reaches the cutoff is not isolated.
  counted_live : (v : ℕ) (s : Side) (c : ℕ) → v < length ks → c < 4 → cutoff ≤ count κ (get_or counts v 0) (slot_of s c) → isolated es v ≡ false
  counted_live v s c h l k = ⊎_elim
      (λ q. absurd (edge_some κ cutoff (get_or counts v 0) s c l k (sym (edge_here v s h) ∙ isolated_side es v s q)))
      (λ q. q) (true_or_false (isolated es v))

  -- An edge that leads on is one base, counted at least as often as the cutoff asks.
  leads_counted : {u v : ℕ} {s e : Side} → u < length ks → Leads K ks es u s v e
      → (edge es u s < 4) × (cutoff ≤ count κ (get_or counts u 0) (slot_of s (edge es u s)))
  leads_counted {u} {v} {s} h l =
      let b : edge es u s < 4 =
      omega (
        arith,
        edges_known κ K cutoff n keys counts (grown_fit g) u s h,
        eqb-false (edge es u s) 5 l.some,
        eqb-false (edge es u s) 4 l.single,
      ) in
      let at : edge_at κ cutoff (get_or counts u 0) s < 4 = omega (arith, edge_here u s h) in
      (b, ((edge_base κ cutoff (get_or counts u 0) s at (edge es u s)).1 (edge_here u s h)).1)

  -- For odd K the edge is counted as often at its other end.
  odd_live : K % 2 ≡ 1 → EntersLive K ks es
  odd_live odd u s v e hu hv l differ =
      let k = leads_counted hu l in
      let oe = other_end K ks fits u s (edge es u s) hu k.0 l.found in
      let j : Joins K ks u s (edge es u s) v e oe.0 = rw (l.vertex, l.side) at oe.2 in
      let same =
      grown_symmetric g lawful odd u s (edge es u s) v e oe.0 (omega (arith, size)) (omega (arith, size)) k.0 oe.1 j (λ q _ _. differ q) in
      counted_live v e oe.0 hv oe.1 (omega (arith, k.1))

  -- For cutoff 1 a counter there that is not 0 is enough, and for cutoff 0 any.
  low_live : cutoff ≤ 1 → EntersLive K ks es
  low_live low u s v e hu hv l differ = ⊎_elim
      (λ p.
      let k = leads_counted hu l in
      let to : canon K (ahead K ks es u s) ≡ get_or ks v 0 =
      sym (stored_at ks (canon K (ahead K ks es u s)) l.found) ∙ ap (λ (i : ℕ). get_or ks i 0) l.vertex in
      let m =
      grown_answered lawful g u s (edge es u s) v (omega (arith, size)) (omega (arith, size)) k.0 (omega (arith, k.1)) to
      (λ q. differ (key_inj K ks fits u v hu hv (sym q))) in
      counted_live v m.side m.base hv m.below (omega (arith, m.counted)))
      (λ z. counted_live v Front 0 hv (omega arith) (omega arith))
      (lt_or_ge 0 cutoff)

  -- Where K is odd or the cutoff at most 1, no isolated k-mer stands in a label.
  pub grown_isolated : (K % 2 ≡ 1) ⊎ (cutoff ≤ 1) → (v : ℕ) → v < n → isolated es v ≡ true
      → occurrences K (get_or ks v 0) (run K ks es n).labels ≡ 0
  grown_isolated h v l i =
      sym (fit_marks κ K cutoff n keys counts (grown_fit g) (grown_ok g (omega arith)) v l)
      ∙ run_passes K ks es (⊎_elim odd_live low_live h) v i n (omega (arith, size))
