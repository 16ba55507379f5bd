-- Two vertices whose edge is the only one at both ends stand together in the first piece that holds either. Assumes nothing.
use mathlib.Core.Path.{◌≡◌, refl, sym, ap, ◌∙◌, subst}
use mathlib.Core.Bool.{false≢true}
use mathlib.Core.Logic.{⊎_elim}
use mathlib.Core.List.{List, [], ◌∷◌, ◌++◌, reverse, reverse-cons, append_assoc}
use Prim.Native.Nat.{ℕ, ◌+◌, ◌≤◌, ◌<◌}
use native.Mathlib.Decide.{ℕ_discrete}
use native.Mathlib.Omega.{arith}
use lib.ListN.{length, get_or, set, length-set}
use borrow.Author.Tests.{eq-eqb, ne_eqb}
use Rattle.lemmas.proofs.Numbers.{lt_or_ge}
use Rattle.state.specs.declared.Side.{Side}
use Rattle.state.specs.declared.Side.TheVariants.{Front, Back}
use Rattle.graph.specs.Walks.{Ends, closed}
use Rattle.laws.specs.Trails.{occ}
use Rattle.laws.specs.Tours.{Piece, in_piece, Taken, Taken.round, Taken.straight}
use Rattle.laws.specs.Neighbours.{Next, Next.now, Next.later}
use Rattle.laws.specs.Neighbours.{Together, Together.follows, Together.precedes, Together.two_ends, Together.ends_two}
use Rattle.laws.proofs.Marks.{Bits, set_same, set_other, set_bits, trail_marked}
use Rattle.laws.proofs.Leads.{vertices, Joined, joined_back, step_goes, not_visited, trail_join}
use Rattle.laws.proofs.Joining.{trail_far, trail_closed}

-- The vertices of a piece, from left to right.
abbrev pub path : Piece → List ℕ
path p = reverse (vertices p.front) ++ (p.anchor ∷ vertices p.back)

pub next_before : {x y : ℕ} {l : List ℕ} (xs : List ℕ) → Next x y l → Next x y (xs ++ l)
next_before [] n = n
next_before (x ∷ xs) n = later (next_before xs n)

pub next_after : {x y : ℕ} {l : List ℕ} (ys : List ℕ) → Next x y l → Next x y (l ++ ys)
next_after ys now = now
next_after ys (later n) = later (next_after ys n)

pub next_reverse : {x y : ℕ} {l : List ℕ} → Next x y l → Next y x (reverse l)
next_reverse {x} {y} (now {zs = l}) =
    subst (Next y x)
    (sym (reverse-cons x (y ∷ l) ∙ ap (λ (z : List ℕ). z ++ (x ∷ [])) (reverse-cons y l) ∙ append_assoc (reverse l) (y ∷ []) (x ∷ [])))
    (next_before (reverse l) now)
next_reverse {x} {y} (later {z = z} {zs = l} n) = subst (Next y x) (sym (reverse-cons z l)) (next_after (z ∷ []) (next_reverse n))

pub together_back : {x y : ℕ} {l : List ℕ} → Together x y l → Together y x l
together_back (follows n) = precedes n
together_back (precedes n) = follows n
together_back (two_ends ms) = ends_two ms
together_back (ends_two ms) = two_ends ms

module _ (K : ℕ) (ks : List ℕ) (es : List Ends) where
  -- One of the two is the anchor.
  module _ (v : ℕ) (e : Side) where
    back_join : {marks after l : List ℕ} {p : Piece} → Taken K ks es marks p after l → Joined K ks es p.anchor Back v e → get_or marks v 0 ≡ 0
        → Together p.anchor v (path p)
    back_join (round {marks = marks} {a = a} t c q) j z =
        let k = step_goes K ks es a Back t j.out (not_visited K ks es (set marks a 1) v (set_other marks a v j.differ ∙ z)) in
        follows (subst (λ (ws : List ℕ). Next a v (a ∷ ws)) (sym k.1) now)
    back_join (straight {marks = marks} {a = a} {front = front} t c t₂ q) j z =
        let k = step_goes K ks es a Back t j.out (not_visited K ks es (set marks a 1) v (set_other marks a v j.differ ∙ z)) in
        follows (next_before (reverse (vertices front)) (subst (λ (ws : List ℕ). Next a v (a ∷ ws)) (sym k.1) now))

    other_side : (a : ℕ) → a ≡ a → Back ≡ Front → ⊥
    other_side a d q = let y : ◌≡◌ {A = ℕ} 0 1 = cc in omega arith

    front_join : {marks after l : List ℕ} {p : Piece} → Taken K ks es marks p after l → Joined K ks es p.anchor Front v e
        → p.anchor < length ks → length marks ≡ length ks → Bits marks → get_or marks v 0 ≡ 0 → Together p.anchor v (path p)
    front_join (round {marks = marks} {a = a} {back = back} t c q) j h n b z =
        let la : a < length marks = omega arith in
        let m : length (set marks a 1) ≡ length ks = length-set marks a 1 ∙ n in
        let k = trail_closed K ks es a t c in
        let w = j.only_u k.0 k.1 k.2 in
        let o : 1 ≤ occ v back = ⊎_elim (λ d. absurd (j.differ (sym d ∙ w.0))) (λ o. subst (λ (i : ℕ). 1 ≤ occ i back) w.0 o) k.3 in
        let f = trail_far K ks es a j t m (set_same marks a a la refl) (set_other marks a v j.differ ∙ z) (other_side a) o in
        subst (λ (ws : List ℕ). Together a v (a ∷ ws)) (sym f.1) (two_ends f.0)
    front_join (straight {marks = marks} {between = m₂} {a = a} {back = back} {front = front} {st = st} t c t₂ q) j h n b z =
        ⊎_elim (λ lt. behind (omega arith)) (λ o. absurd (far o)) (lt_or_ge (occ v back) 1)
      where
        la : a < length marks
        la = omega arith

        m : length (set marks a 1) ≡ length ks
        m = length-set marks a 1 ∙ n

        far : 1 ≤ occ v back → ⊥
        far o =
            let f = trail_far K ks es a j t m (set_same marks a a la refl) (set_other marks a v j.differ ∙ z) (other_side a) o in
            false≢true (sym c ∙ ap closed f.2 ∙ rw (eq-eqb a a refl))

        behind : occ v back ≡ 0 → Together a v (path (record { anchor = a; back = back; front = front }))
        behind o =
            let r = trail_marked K ks es a Back t m (set_bits marks a la b) in
            let zv : get_or m₂ v 0 ≡ 0 = omega (arith, r.counted v, set_other marks a v j.differ) in
            let k = step_goes K ks es a Front t₂ j.out (not_visited K ks es (set m₂ a 1) v (set_other m₂ a v j.differ ∙ zv)) in
            precedes
            (subst (λ (ws : List ℕ). Next v a (ws ++ (a ∷ vertices back)))
            (sym (ap (λ (ws : List ℕ). reverse ws) k.1 ∙ reverse-cons v k.0))
            (subst (Next v a) (sym (append_assoc (reverse k.0) (v ∷ []) (a ∷ vertices back))) (next_before (reverse k.0) now)))

    anchor_join : (s : Side) {marks after l : List ℕ} {p : Piece} → Taken K ks es marks p after l → Joined K ks es p.anchor s v e
        → p.anchor < length ks → length marks ≡ length ks → Bits marks → get_or marks v 0 ≡ 0 → Together p.anchor v (path p)
    anchor_join Front t j h n b z = front_join t j h n b z
    anchor_join Back t j h n b z = back_join t j z

  -- Neither is the anchor.
  inner_join : {u v : ℕ} {s e : Side} → Joined K ks es u s v e → {marks after l : List ℕ} {p : Piece} → Taken K ks es marks p after l
      → p.anchor < length ks → length marks ≡ length ks → Bits marks → get_or marks u 0 ≡ 0 → get_or marks v 0 ≡ 0
      → (p.anchor ≡ u → ⊥) → (p.anchor ≡ v → ⊥) → 1 ≤ (occ u p.back + occ v p.back) + (occ u p.front + occ v p.front)
      → Together u v (path p)
  unfolding occ
  inner_join {u} {v} j (round {marks = marks} {a = a} t c q) h n b zu zv nu nv o =
      let la : a < length marks = omega arith in
      let m : length (set marks a 1) ≡ length ks = length-set marks a 1 ∙ n in
      ⊎_elim (λ k. follows (later k)) (λ k. precedes (later k))
      (trail_join K ks es a Back j t m (set_same marks a a la refl) (set_other marks a u nu ∙ zu) (set_other marks a v nv ∙ zv) (omega arith))
  inner_join {u} {v} j (straight {marks = marks} {between = m₂} {a = a} {back = back} {front = front} t c t₂ q) h n b zu zv nu nv o =
      let la : a < length marks = omega arith in
      let m : length (set marks a 1) ≡ length ks = length-set marks a 1 ∙ n in
      let su = set_other marks a u nu in
      let sv = set_other marks a v nv in
      let r = trail_marked K ks es a Back t m (set_bits marks a la b) in
      let lm : a < length m₂ = omega (arith, r.long) in
      let m₃ : length (set m₂ a 1) ≡ length ks = length-set m₂ a 1 ∙ r.long ∙ m in
      ⊎_elim
      (λ lt.
      let yu : get_or (set m₂ a 1) u 0 ≡ 0 = omega (arith, r.counted u, set_other m₂ a u nu) in
      let yv : get_or (set m₂ a 1) v 0 ≡ 0 = omega (arith, r.counted v, set_other m₂ a v nv) in
      ⊎_elim (λ k. precedes (next_after (a ∷ vertices back) (next_reverse k))) (λ k. follows (next_after (a ∷ vertices back) (next_reverse k)))
      (trail_join K ks es a Front j t₂ m₃ (set_same m₂ a a lm refl) yu yv (omega arith)))
      (λ ge.
      ⊎_elim (λ k. follows (next_before (reverse (vertices front)) (later k))) (λ k. precedes (next_before (reverse (vertices front)) (later k)))
      (trail_join K ks es a Back j t m (set_same marks a a la refl) (su ∙ zu) (sv ∙ zv) ge))
      (lt_or_ge (occ u back + occ v back) 1)

  pub taken_join : {u v : ℕ} {s e : Side} → Joined K ks es u s v e → {marks after l : List ℕ} {p : Piece} → Taken K ks es marks p after l
      → p.anchor < length ks → length marks ≡ length ks → Bits marks → get_or marks u 0 ≡ 0 → get_or marks v 0 ≡ 0
      → 1 ≤ in_piece u p + in_piece v p → Together u v (path p)
  unfolding in_piece
  taken_join {u} {v} {s} {e} j {p = p} t h n b zu zv o = elim (ℕ_discrete p.anchor u) [
    | yes d ↦ subst (λ (i : ℕ). Together i v (path p)) d (anchor_join v e s t (subst (λ (i : ℕ). Joined K ks es i s v e) (sym d) j) h n b zv)
    | no nu ↦ elim (ℕ_discrete p.anchor v) [
      | yes d ↦ together_back (subst (λ (i : ℕ). Together i u (path p)) d
          (anchor_join u s e t (subst (λ (i : ℕ). Joined K ks es i e u s) (sym d) (joined_back K ks es j)) h n b zu))
      | no nv ↦ inner_join j t h n b zu zv nu nv (let o₂ = rw (ne_eqb p.anchor u nu, ne_eqb p.anchor v nv) at o in omega arith)
    ]
  ]
