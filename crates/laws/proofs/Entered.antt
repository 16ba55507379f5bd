-- Where no edge leads to an isolated vertex but from itself, no isolated vertex is visited: a walk starts at one that has an edge
-- and enters only where an edge leads. Assumes nothing.
use mathlib.Core.Path.{◌≡◌, refl, sym, ap, ◌∙◌}
use mathlib.Core.Bool.{true, false}
use mathlib.Core.List.{List, [], ◌∷◌}
use Prim.Native.Nat.{ℕ, ◌≤◌, ◌<◌}
use native.Mathlib.Omega.{arith}
use lib.Dec.{eqb}
use lib.ListN.{length, get_or, set, length-set}
use borrow.Author.Tests.{eqb-false, ne_eqb}
use Rattle.lemmas.proofs.Tests.{never, or_second}
use Rattle.state.specs.declared.Side.{Side}
use Rattle.state.specs.declared.Side.TheVariants.{Front, Back}
use Rattle.graph.specs.declared.Step.{Step}
use Rattle.graph.specs.Walks.{Ends, visited, isolated}
use Rattle.graph.specs.Labels.{run}
use Rattle.laws.specs.Trails.{Place, occ, Trail, Trail.ends, Trail.goes}
use Rattle.laws.specs.Tours.{Piece, in_piece, in_pieces, Taken, Taken.round, Taken.straight, Tour, Tour.none, Tour.passes, Tour.takes}
use Rattle.laws.proofs.Steps.{came, came_lt}
use Rattle.laws.proofs.Fuel.{trail_long}
use Rattle.laws.proofs.Marks.{set_same}
use Rattle.laws.proofs.Tours.{in_append, tour_toured}
use Rattle.laws.proofs.Runs.{run_tour, run_toured}
use Rattle.laws.proofs.Leads.{Leads, came_leads}

module _ (K : ℕ) (ks : List ℕ) (es : List Ends) where
  -- What another vertex leads to has an edge.
  abbrev pub EntersLive : Type 0
  EntersLive = (u : ℕ) (s : Side) (v : ℕ) (e : Side) → u < length ks → v < length ks → Leads K ks es u s v e → (u ≡ v → ⊥) → isolated es v ≡ false

  module _ (live : EntersLive) (i : ℕ) (alone : isolated es i ≡ true) where
    apart : (u : ℕ) → isolated es u ≡ false → eqb u i ≡ false
    apart u f = ne_eqb u i (λ q. never (isolated es i) alone (ap (isolated es) (sym q) ∙ f))

    trail_passes : (a : ℕ) (start : Side) {marks after : List ℕ} {v : ℕ} {s : Side} {ps : List Place} {st : Step}
        → Trail K ks es a start marks v s ps after st → length marks ≡ length ks → v < length ks → get_or marks v 0 ≡ 1 → occ i ps ≡ 0
    unfolding occ
    trail_passes a start (ends e h) l lv o = refl
    trail_passes a start (goes {marks = marks} {v = v} {u = u} {s = s} {ps = ps} e t) l lv o =
        let c = came K ks es a start marks v s e in
        let lu = came_lt K ks es c in
        let differ : v ≡ u → ⊥ = λ q. eqb-false (get_or marks u 0) 1 c.fresh (ap (λ (j : ℕ). get_or marks j 0) (sym q) ∙ o) in
        rw (apart u (live v s u _ lv lu (came_leads K ks es c) differ))
        (omega (arith, trail_passes a start t (length-set marks u 1 ∙ l) lu (set_same marks u u (omega arith) refl)))

    taken_passes : {marks after l : List ℕ} {p : Piece} → Taken K ks es marks p after l → p.anchor < length ks
        → length marks ≡ length ks → isolated es p.anchor ≡ false → in_piece i p ≡ 0
    unfolding in_piece occ
    taken_passes (round {marks = marks} {a = a} t c e) h l f =
        let n : length (set marks a 1) ≡ length ks = length-set marks a 1 ∙ l in
        rw (apart a f) (omega (arith, trail_passes a Back t n h (set_same marks a a (omega arith) refl)))
    taken_passes (straight {marks = marks} {between = m} {a = a} t c t₂ e) h l f =
        let n : length (set marks a 1) ≡ length ks = length-set marks a 1 ∙ l in
        let k : length m ≡ length ks = trail_long K ks es a Back t ∙ n in
        rw (apart a f) (omega (
          arith,
          trail_passes a Back t n h (set_same marks a a (omega arith) refl),
          trail_passes a Front t₂ (length-set m a 1 ∙ k) h (set_same m a a (omega arith) refl),
        ))

    tour_passes : {a : ℕ} {marks : List ℕ} {ps : List Piece} {ls : List (List ℕ)} → Tour K ks es a marks ps ls → a ≤ length ks → in_pieces i ps ≡ 0
    unfolding in_pieces
    tour_passes none h = refl
    tour_passes (passes t q) h = tour_passes t (omega arith)
    tour_passes (takes {a = a} {marks = marks} {ps = ps} {back = back} {front = front} t q k) h =
        let p : Piece = record { anchor = a; back = back; front = front } in
        let r = tour_toured K ks es t (omega arith) in
        omega (
          arith,
          in_append i ps (p ∷ []),
          tour_passes t (omega arith),
          taken_passes k h r.long (or_second (visited marks a) (isolated es a) q),
        )

    -- Its mark stays 0.
    pub run_passes : (a : ℕ) → a ≤ length ks → get_or (run K ks es a).marks i 0 ≡ 0
    run_passes a h = (run_toured K ks es a h).counted i ∙ tour_passes (run_tour K ks es a h).tour h
