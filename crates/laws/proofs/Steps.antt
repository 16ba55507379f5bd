-- A step that leads on: by which edge, to which k-mer, and into which vertex. Assumes nothing.
use mathlib.Core.Path.{◌≡◌, sym, ap, ◌∙◌}
use mathlib.Core.Bool.{true, false}
use mathlib.Core.List.{List}
use Prim.Native.Nat.{ℕ, ◌≤◌, ◌<◌}
use native.Mathlib.Omega.{arith}
use lib.Dec.{eqb}
use lib.ListN.{length, get_or}
use borrow.Author.Tests.{eqb-false}
use Rattle.lemmas.proofs.Tests.{choose}
use Rattle.kmer.specs.Kmer.{canon, forward}
use Rattle.kmer.proofs.Strands.{forward_lt}
use Rattle.state.specs.declared.Side.{Side}
use Rattle.state.specs.Counted.{opposite}
use Rattle.graph.specs.declared.Step.{Step}
use Rattle.graph.specs.declared.Step.TheVariants.{Next}
use Rattle.graph.specs.Table.{rank, stored}
use Rattle.graph.specs.Walks.{Ends, edge, visited, seen, leaving, entrance, enter, arrive, step}
use Rattle.graph.proofs.Rank.{stored_lt, stored_at}
use Rattle.laws.proofs.Sides.{seen_as, seen_is, seen_exit, leaving_lt}

module _ (K : ℕ) (ks : List ℕ) (es : List Ends) where
  -- The k-mer that stands ahead of vertex v left by side s.
  abbrev pub ahead : ℕ → Side → ℕ
  ahead v s = forward K (seen K ks v s) (leaving s (edge es v s))

  -- A step from vertex v by side s leads on to vertex u, left by side t, with base b.
  pub record Came (marks : List ℕ) (v : ℕ) (s : Side) (u : ℕ) (t : Side) (b : ℕ) : Type 0 where
    pub some : eqb (edge es v s) 5 ≡ false
    pub single : eqb (edge es v s) 4 ≡ false
    pub found : stored ks (canon K (ahead v s)) ≡ true
    pub vertex : rank ks (canon K (ahead v s)) ≡ u
    pub exit : opposite (entrance K (ahead v s)) ≡ t
    pub base : leaving s (edge es v s) ≡ b
    pub open_ahead : eqb (edge es u (entrance K (ahead v s))) 4 ≡ false
    pub fresh : visited marks u ≡ false

  module _ (a : ℕ) (start : Side) where
    pub came : (marks : List ℕ) (v : ℕ) (s : Side) {u b : ℕ} {t : Side} → step K ks es a start marks v s ≡ Next u t b → Came marks v s u t b
    unfolding step arrive enter
    came marks v s {u} {b} {t} =
        let e = edge es v s in
        let y = ahead v s in
        let w = rank ks (canon K (ahead v s)) in
        choose P (eqb e 5) (λ _ h. absurd (let z : ◌≡◌ {A = ℕ} 0 1 = cc in omega arith))
        (λ p. choose P (eqb e 4) (λ _ h. absurd (let z : ◌≡◌ {A = ℕ} 0 1 = cc in omega arith))
        (λ q. choose P (stored ks (canon K y))
        (λ f. choose P (eqb (edge es w (entrance K y)) 4) (λ _ h. absurd (let z : ◌≡◌ {A = ℕ} 0 1 = cc in omega arith))
        (λ o. choose P (visited marks w) (λ _ h. absurd (let z : ◌≡◌ {A = ℕ} 0 1 = cc in omega arith))
        (λ i h.
        let ew : rank ks (canon K (ahead v s)) ≡ u = cc in
        record { some = p; single = q; found = f; vertex = ew; exit = cc; base = cc; open_ahead = rw ew at o; fresh = rw ew at i })))
        (λ _ h. absurd (let z : ◌≡◌ {A = ℕ} 0 1 = cc in omega arith))))
      where
        P : Step → Type 0
        P st = st ≡ Next u t b → Came marks v s u t b

  module _ {marks : List ℕ} {v u b : ℕ} {s t : Side} (c : Came marks v s u t b) where
    -- The vertex is one of the keys.
    pub came_lt : u < length ks
    came_lt = rw c.vertex at (stored_lt ks (canon K (ahead v s)) c.found)

    -- It is seen as the k-mer that stands ahead.
    pub came_seen : seen K ks u t ≡ ahead v s
    came_seen =
        seen_is K ks u t ∙ ap (λ (x : ℕ). seen_as K x t) key ∙ ap (seen_as K (canon K (ahead v s))) (sym c.exit)
        ∙ seen_exit K (ahead v s) (forward_lt K (seen K ks v s) (leaving s (edge es v s)))
      where
        key : get_or ks u 0 ≡ canon K (ahead v s)
        key = ap (λ (i : ℕ). get_or ks i 0) (sym c.vertex) ∙ stored_at ks (canon K (ahead v s)) c.found

    -- The base leads from the one vertex as it is seen to the other.
    pub came_forward : forward K (seen K ks v s) b ≡ seen K ks u t
    came_forward = ap (forward K (seen K ks v s)) (sym c.base) ∙ sym came_seen

    pub came_base : edge es v s ≤ 5 → b < 4
    came_base h =
        let l : edge es v s < 4 = omega (arith, eqb-false (edge es v s) 5 c.some, eqb-false (edge es v s) 4 c.single) in
        rw c.base at (leaving_lt s (edge es v s) l)
