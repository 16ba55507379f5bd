-- A walk leads outward: each step by the only edge retained, into a side with at most one. Assumes nothing.
use mathlib.Core.Path.{◌≡◌, sym, ap, ◌∙◌, subst}
use mathlib.Core.Bool.{true, cond}
use mathlib.Core.List.{List, ◌∷◌}
use Prim.Native.Nat.{ℕ, ◌≤◌, ◌<◌}
use native.Mathlib.Omega.{arith}
use lib.ListN.{length}
use borrow.Author.Tests.{eqb-false}
use Rattle.kmer.specs.Kmer.{forward}
use Rattle.state.specs.declared.Side.{Side}
use Rattle.state.specs.Counted.{opposite}
use Rattle.graph.specs.declared.Step.{Step}
use Rattle.graph.specs.Table.{fit_from, rank, stored}
use Rattle.graph.specs.Walks.{Ends, edge, seen, leaving, entrance}
use Rattle.graph.proofs.Lookup.{at_stored, rank_at}
use Rattle.laws.specs.Trails.{Place, Trail, Trail.ends, Trail.goes}
use Rattle.laws.specs.Tours.{kmers}
use Rattle.laws.specs.Demand.{retained, Outward, Outward.stays, Outward.steps}
use Rattle.laws.proofs.Steps.{ahead, came, came_lt, came_seen}
use Rattle.laws.proofs.Occurrences.{canon_seen}

module _ (K : ℕ) (ks : List ℕ) (es : List Ends) (fit : fit_from K 0 ks ≡ true) where
  -- A vertex, as it is seen, retains what it has.
  pub retained_seen : (v : ℕ) (s t : Side) → v < length ks → retained K ks es (seen K ks v s) t ≡ edge es v t
  unfolding retained
  retained_seen v s t h =
      ap (λ (x : ℕ). cond (stored ks x) (edge es (rank ks x) t) 5) (canon_seen K ks fit v s h)
      ∙ rw (at_stored K ks fit v h, rank_at K 0 ks fit v h)

module _ (K : ℕ) (ks : List ℕ) (es : List Ends) (fit : fit_from K 0 ks ≡ true) (known : (v : ℕ) (s : Side) → v < length ks → edge es v s ≤ 5) where
  pub trail_outward : {a : ℕ} {start : Side} {marks after : List ℕ} {v : ℕ} {s : Side} {ps : List Place} {st : Step}
      → Trail K ks es a start marks v s ps after st → v < length ks → Outward K ks es s (seen K ks v s ∷ kmers K ks ps)
  trail_outward (ends e h) l = stays
  trail_outward {a} {start} (goes {marks = marks} {v = v} {u = u} {s = s} {t = t} {ps = ps} e r) l =
      let c = came K ks es a start marks v s e in
      let lu = came_lt K ks es c in
      let here = retained_seen K ks es fit v s s l in
      let y : seen K ks u t ≡ ahead K ks es v s = came_seen K ks es c in
      let side : opposite (entrance K (seen K ks u t)) ≡ t = ap (λ (z : ℕ). opposite (entrance K z)) y ∙ c.exit in
      let there : retained K ks es (seen K ks u t) (entrance K (seen K ks u t)) ≡ edge es u (entrance K (ahead K ks es v s)) =
      retained_seen K ks es fit u t (entrance K (seen K ks u t)) lu ∙ ap (λ (z : ℕ). edge es u (entrance K z)) y in
      let few : retained K ks es (seen K ks v s) s < 4 =
      omega (arith, known v s l, eqb-false (edge es v s) 5 c.some, eqb-false (edge es v s) 4 c.single) in
      steps few
      (y ∙ ap (λ (z : ℕ). forward K (seen K ks v s) (leaving s z)) (sym here))
      (rw (canon_seen K ks fit u t lu) (at_stored K ks fit u lu))
      (λ q. eqb-false (edge es u (entrance K (ahead K ks es v s))) 4 c.open_ahead (sym there ∙ q))
      (subst (λ (z : Side). Outward K ks es z (seen K ks u t ∷ kmers K ks ps)) (sym side) (trail_outward r lu))
