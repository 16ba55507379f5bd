-- Where a vertex leads, whatever is visited: what its step then is, and two vertices whose edge is the only one at both ends stand
-- side by side where a walk comes to either first. Assumes nothing.
use mathlib.Core.Path.{◌≡◌, refl, sym, ap, ◌∙◌}
use mathlib.Core.Bool.{true, false, cond, not, ◌&&◌, false≢true}
use mathlib.Core.Logic.{◌⊎◌, inl, inr, ⊎_elim, ⊎_map}
use mathlib.Core.List.{List, [], ◌∷◌, map}
use Prim.Native.Nat.{ℕ, ◌+◌, ◌≤◌, ◌<◌}
use native.Mathlib.Decide.{ℕ_discrete}
use native.Mathlib.Omega.{arith}
use lib.Dec.{eqb}
use lib.ListN.{length, get_or, set, length-set}
use borrow.Author.Tests.{ne_eqb}
use Rattle.kmer.specs.Kmer.{canon}
use Rattle.state.specs.declared.Side.{Side}
use Rattle.state.specs.declared.Side.TheVariants.{Front, Back}
use Rattle.state.specs.Counted.{opposite, same_side}
use Rattle.graph.specs.declared.Step.{Step}
use Rattle.graph.specs.declared.Step.TheVariants.{Next, Stop}
use Rattle.graph.specs.declared.StopReason.TheVariants.{VisitedAhead}
use Rattle.graph.specs.Table.{rank, stored}
use Rattle.graph.specs.Walks.{Ends, edge, visited, leaving, entrance, enter, arrive, step}
use Rattle.laws.specs.Trails.{Place, occ, is_next, Trail, Trail.ends, Trail.goes}
use Rattle.laws.specs.Neighbours as near
use Rattle.laws.proofs.Steps.{ahead, Came, came, came_lt}
use Rattle.laws.proofs.Marks.{set_same, set_other}

abbrev pub vertices : List Place → List ℕ
vertices ps = map (λ (p : Place). p.vertex) ps

module _ (K : ℕ) (ks : List ℕ) (es : List Ends) where
  -- Vertex v, left by side s, leads to vertex u, entered by side e.
  pub record Leads (v : ℕ) (s : Side) (u : ℕ) (e : Side) : Type 0 where
    pub some : eqb (edge es v s) 5 ≡ false
    pub single : eqb (edge es v s) 4 ≡ false
    pub found : stored ks (canon K (ahead K ks es v s)) ≡ true
    pub vertex : rank ks (canon K (ahead K ks es v s)) ≡ u
    pub side : entrance K (ahead K ks es v s) ≡ e
    pub open_ahead : eqb (edge es u e) 4 ≡ false

  pub came_leads : {marks : List ℕ} {v u b : ℕ} {s t : Side} → Came K ks es marks v s u t b → Leads v s u (entrance K (ahead K ks es v s))
  came_leads c = record { some = c.some; single = c.single; found = c.found; vertex = c.vertex; side = refl; open_ahead = c.open_ahead }

  -- The edge between u, left by s, and v, left by e, is the only one at both ends.
  pub record Joined (u : ℕ) (s : Side) (v : ℕ) (e : Side) : Type 0 where
    pub differ : u ≡ v → ⊥
    pub out : Leads u s v e
    pub home : Leads v e u s
    pub only_u : (w : ℕ) (t : Side) → Leads w t u s → (w ≡ v) × (t ≡ e)
    pub only_v : (w : ℕ) (t : Side) → Leads w t v e → (w ≡ u) × (t ≡ s)

  pub joined_back : {u v : ℕ} {s e : Side} → Joined u s v e → Joined v e u s
  joined_back j = record { differ = λ q. j.differ (sym q); out = j.home; home = j.out; only_u = j.only_v; only_v = j.only_u }

  module _ (a : ℕ) (start : Side) where
    leads_step : (marks : List ℕ) {v u : ℕ} {s e : Side} → Leads v s u e → step K ks es a start marks v s
        ≡ cond (visited marks u) (Stop (VisitedAhead (eqb u a && not (same_side e start)))) (Next u (opposite e) (leaving s (edge es v s)))
    unfolding step arrive enter
    leads_step marks l = rw (l.some, l.single, l.found, l.vertex, l.side, l.open_ahead)

    -- It goes there where that is not visited.
    pub step_goes : {marks after : List ℕ} {p v : ℕ} {t e : Side} {ps : List Place} {st : Step} → Trail K ks es a start marks p t ps after st
        → Leads p t v e → visited marks v ≡ false → (qs : List ℕ) × (vertices ps ≡ v ∷ qs)
    step_goes {marks} {p = p} {v = v} {t = t} {e = e} (ends q h) l f =
        let n : step K ks es a start marks p t ≡ Next v (opposite e) (leaving t (edge es p t)) = leads_step marks l ∙ rw f in
        absurd (false≢true (sym h ∙ ap is_next (sym q ∙ n)))
    step_goes {marks} {p = p} {v = v} {t = t} {e = e} (goes {u = u} {ps = ps} q r) l f =
        let n : step K ks es a start marks p t ≡ Next v (opposite e) (leaving t (edge es p t)) = leads_step marks l ∙ rw f in
        let d : u ≡ v = cc in
        (vertices ps, ap (λ (w : ℕ). w ∷ vertices ps) d)

    -- It ends where that is visited.
    pub step_meets : {marks after : List ℕ} {p v : ℕ} {t e : Side} {ps : List Place} {st : Step} → Trail K ks es a start marks p t ps after st
        → Leads p t v e → visited marks v ≡ true → (vertices ps ≡ []) × (st ≡ Stop (VisitedAhead (eqb v a && not (same_side e start))))
    step_meets {marks} {p = p} {v = v} {t = t} {e = e} (ends q h) l f =
        let n : step K ks es a start marks p t ≡ Stop (VisitedAhead (eqb v a && not (same_side e start))) = leads_step marks l ∙ rw f in
        (refl, sym q ∙ n)
    step_meets {marks} {p = p} {v = v} {t = t} {e = e} (goes q r) l f =
        let n : step K ks es a start marks p t ≡ Stop (VisitedAhead (eqb v a && not (same_side e start))) = leads_step marks l ∙ rw f in
        absurd (let z : ◌≡◌ {A = ℕ} 0 1 = cc in omega arith)

  -- ---- two joined vertices

  pub side_cases : (s t : Side) → (s ≡ t) ⊎ (opposite s ≡ t)
  side_cases Front Front = inl refl
  side_cases Front Back = inr refl
  side_cases Back Front = inr refl
  side_cases Back Back = inl refl

  pub not_visited : (marks : List ℕ) (v : ℕ) → get_or marks v 0 ≡ 0 → visited marks v ≡ false
  not_visited marks v z = ne_eqb (get_or marks v 0) 1 (λ e. omega arith)

  module _ (a : ℕ) (start : Side) where
    -- u is entered while v is not visited: v comes next.
    first_one : {u v : ℕ} {s e : Side} → Joined u s v e → (marks : List ℕ) {after : List ℕ} {p w : ℕ} {t x y : Side} {ps : List Place} {st : Step}
        → Leads p t w x → opposite x ≡ y → w ≡ u → get_or marks v 0 ≡ 0 → get_or marks p 0 ≡ 1
        → Trail K ks es a start (set marks w 1) w y ps after st → near.Next u v (w ∷ vertices ps)
    first_one {u} {v} {s} {e} j marks {p = p} {w = w} {t = t} {x = x} {y = y} {ps = ps} l o q z i r = ⊎_elim same other (side_cases x s)
      where
        same : x ≡ s → near.Next u v (w ∷ vertices ps)
        same d =
            let k = j.only_u p t (rw d at (rw q at l)) in
            absurd (omega (arith, ap (λ (n : ℕ). get_or marks n 0) k.0))

        other : opposite x ≡ s → near.Next u v (w ∷ vertices ps)
        other d =
            let ys : y ≡ s = sym o ∙ d in
            let f : visited (set marks w 1) v ≡ false = not_visited (set marks w 1) v (set_other marks w v (λ g. j.differ (sym q ∙ g)) ∙ z) in
            let l₂ : Leads w y v e = rw (q, ys) j.out in
            let k = step_goes a start r l₂ f in
            rw (q, k.1) (near.Next.now {zs = k.0})

    -- Neither is visited, and the walk comes to one: they come one after the other.
    pub trail_join : {u v : ℕ} {s e : Side} → Joined u s v e → {marks after : List ℕ} {p : ℕ} {t : Side} {ps : List Place} {st : Step}
        → Trail K ks es a start marks p t ps after st → length marks ≡ length ks → get_or marks p 0 ≡ 1 → get_or marks u 0 ≡ 0 → get_or marks v 0 ≡ 0
        → 1 ≤ occ u ps + occ v ps → near.Next u v (vertices ps) ⊎ near.Next v u (vertices ps)
    unfolding occ
    trail_join j (ends q h) n i zu zv o = absurd (omega arith)
    trail_join {u} {v} {s} {e} j (goes {marks = marks} {v = p} {u = w} {s = t} {t = y} {ps = ps} q r) n i zu zv o =
        let c = came K ks es a start marks p t q in
        let lw : w < length marks = omega (arith, came_lt K ks es c) in
        let m : length (set marks w 1) ≡ length ks = length-set marks w 1 ∙ n in
        elim (ℕ_discrete w u) [
          | yes d ↦ inl (first_one j marks (came_leads c) c.exit d zv i r)
          | no nu ↦ elim (ℕ_discrete w v) [
            | yes d ↦ inr (first_one (joined_back j) marks (came_leads c) c.exit d zu i r)
            | no nv ↦ ⊎_map near.Next.later near.Next.later
                (trail_join j r m (set_same marks w w lw refl) (set_other marks w u nu ∙ zu) (set_other marks w v nv ∙ zv)
                (let o₂ = rw (ne_eqb w u nu, ne_eqb w v nv) at o in omega arith))
          ]
        ]
