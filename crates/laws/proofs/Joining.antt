-- How a walk ends by two vertices whose edge is the only one at both ends, of which one is visited, and how a walk that closes a
-- cycle comes back to its anchor. Assumes nothing.
use mathlib.Core.Path.{◌≡◌, refl, sym, ap, ◌∙◌}
use mathlib.Core.Bool.{true, not, ◌&&◌, false≢true}
use mathlib.Core.Logic.{◌⊎◌, inl, inr, ⊎_elim}
use mathlib.Core.List.{List, [], ◌∷◌, ◌++◌}
use Prim.Native.Nat.{ℕ, ◌+◌, ◌≤◌, ◌<◌}
use native.Mathlib.Decide.{ℕ_discrete}
use native.Mathlib.Omega.{arith}
use lib.Dec.{eqb}
use lib.ListN.{length, get_or, set, length-set}
use borrow.Author.Tests.{eqb-true, eqb-false, eq-eqb, ne_eqb}
use Rattle.lemmas.proofs.Tests.{choose, both}
use Rattle.kmer.specs.Kmer.{canon}
use Rattle.state.specs.declared.Side.{Side}
use Rattle.state.specs.declared.Side.TheVariants.{Front, Back}
use Rattle.state.specs.Counted.{opposite, same_side}
use Rattle.graph.specs.declared.Step.{Step}
use Rattle.graph.specs.declared.Step.TheVariants.{Stop}
use Rattle.graph.specs.declared.StopReason.TheVariants.{VisitedAhead}
use Rattle.graph.specs.Table.{rank, stored}
use Rattle.graph.specs.Walks.{Ends, edge, visited, entrance, closed, enter, arrive, step}
use Rattle.laws.specs.Trails.{Place, occ, Trail, Trail.ends, Trail.goes}
use Rattle.laws.proofs.Steps.{ahead, Came, came, came_lt}
use Rattle.laws.proofs.Marks.{set_other}
use Rattle.laws.proofs.Leads.{vertices, Leads, Joined, came_leads, step_meets, side_cases}

module _ (K : ℕ) (ks : List ℕ) (es : List Ends) (a : ℕ) where
  -- u is visited and was not left by the joining side: where the walk comes to v, it ends there, before u.
  pub trail_far : {start : Side} {u v : ℕ} {s e : Side} → Joined K ks es u s v e
      → {marks after : List ℕ} {p : ℕ} {t : Side} {ps : List Place} {st : Step}
      → Trail K ks es a start marks p t ps after st → length marks ≡ length ks → get_or marks u 0 ≡ 1 → get_or marks v 0 ≡ 0
      → (p ≡ u → t ≡ s → ⊥) → 1 ≤ occ v ps
      → (xs : List ℕ) × (vertices ps ≡ xs ++ (v ∷ [])) × (st ≡ Stop (VisitedAhead (eqb u a && not (same_side s start))))
  unfolding occ
  trail_far j (ends q h) n iu zv np o = absurd (omega arith)
  trail_far {start} {u} {v} {s} {e} j {st = st} (goes {marks = marks} {v = p} {u = w} {s = t} {t = y} {ps = ps} q r) n iu zv np o =
      let c = came K ks es a start marks p t q in
      let lw : w < length marks = omega (arith, came_lt K ks es c) in
      let m : length (set marks w 1) ≡ length ks = length-set marks w 1 ∙ n in
      let nu : w ≡ u → ⊥ = λ d. eqb-false (get_or marks w 0) 1 c.fresh (ap (λ (i : ℕ). get_or marks i 0) d ∙ iu) in
      let here : get_or (set marks w 1) u 0 ≡ 1 = set_other marks w u nu ∙ iu in
      elim (ℕ_discrete w v) [
        | yes d ↦ at_v c d here r
        | no nv ↦
            (let o₂ : 1 ≤ occ v ps = (let o₃ = rw (ne_eqb w v nv) at o in omega arith) in
            let k = trail_far j r m here (set_other marks w v nv ∙ zv) (λ d x. nu d) o₂ in
            (w ∷ k.0, ap (λ (l : List ℕ). w ∷ l) k.1, k.2))
      ]
    where
      Goal : Type 0
      Goal = (xs : List ℕ) × (w ∷ vertices ps ≡ xs ++ (v ∷ [])) × (st ≡ Stop (VisitedAhead (eqb u a && not (same_side s start))))

      at_v : {b : ℕ} {after : List ℕ} → Came K ks es marks p t w y b → w ≡ v → get_or (set marks w 1) u 0 ≡ 1
          → Trail K ks es a start (set marks w 1) w y ps after st → Goal
      at_v c d here r = ⊎_elim same other (side_cases K ks es (entrance K (ahead K ks es p t)) e)
        where
          same : entrance K (ahead K ks es p t) ≡ e → Goal
          same x = let k = j.only_v p t (rw x at (rw d at (came_leads K ks es c))) in absurd (np k.0 k.1)

          other : opposite (entrance K (ahead K ks es p t)) ≡ e → Goal
          other x =
              let ye : y ≡ e = sym c.exit ∙ x in
              let l : Leads K ks es w y u s = rw (d, ye) j.home in
              let k = step_meets K ks es a start r l (eq-eqb (get_or (set marks w 1) u 0) 1 here) in
              ([], ap (λ (z : List ℕ). w ∷ z) k.0 ∙ ap (λ (i : ℕ). i ∷ []) d, k.1)

  -- A step that closes leads to the anchor's Front.
  step_closed : (marks : List ℕ) (v : ℕ) (s : Side) (st : Step) → step K ks es a Back marks v s ≡ st → closed st ≡ true → Leads K ks es v s a Front
  unfolding step arrive enter
  step_closed marks v s st q h = go (ap closed q ∙ h)
    where
      P : Step → Type 0
      P z = closed z ≡ true → Leads K ks es v s a Front

      front : (t : Side) → not (same_side t Back) ≡ true → t ≡ Front
      front Front e = refl
      front Back e = absurd (false≢true e)

      go : P (step K ks es a Back marks v s)
      go =
          let y = ahead K ks es v s in
          let w = rank ks (canon K (ahead K ks es v s)) in
          choose P (eqb (edge es v s) 5) (λ _ z. absurd (false≢true z))
          (λ p. choose P (eqb (edge es v s) 4) (λ _ z. absurd (false≢true z))
          (λ r. choose P (stored ks (canon K y))
          (λ f. choose P (eqb (edge es w (entrance K y)) 4) (λ _ z. absurd (false≢true z))
          (λ o. choose P (visited marks w)
          (λ _ z.
          let k = both (eqb w a) (not (same_side (entrance K y) Back)) z in
          let ew : rank ks (canon K (ahead K ks es v s)) ≡ a = eqb-true w a k.0 in
          let et : entrance K (ahead K ks es v s) ≡ Front = front (entrance K y) k.1 in
          record { some = p; single = r; found = f; vertex = ew; side = et; open_ahead = rw et at (rw ew at o) })
          (λ _ z. absurd (false≢true z))))
          (λ _ z. absurd (false≢true z))))

  -- The last place of a walk that closes leads to the anchor's Front.
  pub trail_closed : {marks after : List ℕ} {p : ℕ} {t : Side} {ps : List Place} {st : Step}
      → Trail K ks es a Back marks p t ps after st → closed st ≡ true
      → (q : ℕ) × (r : Side) × Leads K ks es q r a Front × ((q ≡ p) ⊎ (1 ≤ occ q ps))
  unfolding occ
  trail_closed {p = p} {t = t} (ends {marks = marks} {st = st} q h) c = (p, t, step_closed marks p t st q c, inl refl)
  trail_closed (goes {u = w} {ps = ps} q r) c =
      let k = trail_closed r c in (
        k.0,
        k.1,
        k.2,
        inr (⊎_elim
            (λ d. rw (eq-eqb w k.0 (sym d)) (omega arith))
            (λ o. choose (λ (z : ℕ). 1 ≤ z + occ k.0 ps) (eqb w k.0) (λ _. omega arith) (λ _. omega arith)) k.3),
      )
