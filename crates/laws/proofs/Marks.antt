-- The marks after a walk: one more at each place that it came to, none of which was marked. Assumes nothing.
use mathlib.Core.Path.{◌≡◌, refl, sym, ap, ◌∙◌}
use mathlib.Core.Bool.{true, false, cond}
use mathlib.Core.Logic.{⊎_elim}
use mathlib.Core.List.{List, [], ◌∷◌}
use Prim.Native.Nat.{ℕ, zero, suc, ◌+◌, ◌≤◌, ◌<◌}
use native.Mathlib.Omega.{arith}
use lib.Dec.{eqb}
use lib.ListN.{length, get_or, set, length-set}
use lib.Seq.{get_or-set_same, get_or-set_other}
use borrow.Author.Tests.{eqb-true, eqb-false}
use Rattle.lemmas.proofs.Tests.{choose}
use Rattle.lemmas.proofs.Numbers.{true_or_false}
use Rattle.state.specs.declared.Side.{Side}
use Rattle.graph.specs.declared.Step.{Step}
use Rattle.graph.specs.Walks.{Ends, visited}
use Rattle.laws.specs.Trails.{Place, occ, Trail, Trail.ends, Trail.goes}
use Rattle.laws.proofs.Steps.{came, came_lt}

-- Each mark is 0 or 1.
abbrev pub Bits : List ℕ → Type 0
Bits marks = (i : ℕ) → get_or marks i 0 ≤ 1

-- What is not visited has mark 0.
pub unmarked : (marks : List ℕ) (v : ℕ) → Bits marks → visited marks v ≡ false → get_or marks v 0 ≡ 0
unmarked marks v b h = omega (arith, b v, eqb-false (get_or marks v 0) 1 h)

-- A mark set to 1.
pub set_same : (marks : List ℕ) (u i : ℕ) → u < length marks → u ≡ i → get_or (set marks u 1) i 0 ≡ 1
set_same marks u i l e = ap (λ (j : ℕ). get_or (set marks u 1) j 0) (sym e) ∙ get_or-set_same marks u 1 0 l

pub set_other : (marks : List ℕ) (u i : ℕ) → (u ≡ i → ⊥) → get_or (set marks u 1) i 0 ≡ get_or marks i 0
set_other marks u i ne = get_or-set_other marks u i 1 0 (λ e. ne (sym e))

pub set_adds : (marks : List ℕ) (u i : ℕ) → u < length marks → get_or marks u 0 ≡ 0
    → get_or (set marks u 1) i 0 ≡ get_or marks i 0 + cond (eqb u i) 1 0
set_adds marks u i l z =
    choose (λ (k : ℕ). get_or (set marks u 1) i 0 ≡ get_or marks i 0 + k) (eqb u i)
    (λ e. let q = eqb-true u i e in omega (arith, set_same marks u i l q, ap (λ (j : ℕ). get_or marks j 0) q))
    (λ e. omega (arith, set_other marks u i (eqb-false u i e)))

pub set_bits : (marks : List ℕ) (u : ℕ) → u < length marks → Bits marks → Bits (set marks u 1)
set_bits marks u l b i =
    ⊎_elim (λ e. omega (arith, set_same marks u i l (eqb-true u i e))) (λ e. omega (arith, b i, set_other marks u i (eqb-false u i e)))
    (true_or_false (eqb u i))

-- A mark that is set once more changes nothing.
pub set_again : (marks : List ℕ) (u i : ℕ) → u < length marks → get_or marks u 0 ≡ 1 → get_or (set marks u 1) i 0 ≡ get_or marks i 0
set_again marks u i l o =
    ⊎_elim (λ e. let q = eqb-true u i e in omega (arith, set_same marks u i l q, ap (λ (j : ℕ). get_or marks j 0) q))
    (λ e. set_other marks u i (eqb-false u i e)) (true_or_false (eqb u i))

-- A vertex that is marked is visited,
pub visited_now : (marks : List ℕ) (a : ℕ) → a < length marks → visited (set marks a 1) a ≡ true
visited_now marks a h = rw (set_same marks a a h refl)

-- and stays so.
pub visited_still : (marks : List ℕ) (v a : ℕ) → visited marks a ≡ true → visited (set marks v 1) a ≡ true
visited_still [] v a h = h
visited_still (x ∷ marks) zero zero h = refl
visited_still (x ∷ marks) zero (suc a) h = h
visited_still (x ∷ marks) (suc v) zero h = h
visited_still (x ∷ marks) (suc v) (suc a) h = visited_still marks v a h

-- The marks have grown by what came between.
pub record Marked (marks after : List ℕ) (more : ℕ → ℕ) : Type 0 where
  pub long : length after ≡ length marks
  pub bits : Bits after
  pub counted : (i : ℕ) → get_or after i 0 ≡ get_or marks i 0 + more i

module _ (K : ℕ) (ks : List ℕ) (es : List Ends) (a : ℕ) (start : Side) where
  pub trail_marked : {marks after : List ℕ} {v : ℕ} {s : Side} {ps : List Place} {st : Step} → Trail K ks es a start marks v s ps after st
      → length marks ≡ length ks → Bits marks → Marked marks after (λ i. occ i ps)
  unfolding occ
  trail_marked (ends e h) l b = record { long = refl; bits = b; counted = λ i. omega arith }
  trail_marked (goes {marks = marks} {v = v} {u = u} {s = s} {ps = ps} e t) l b =
      let c = came K ks es a start marks v s e in
      let lu : u < length marks = omega (arith, came_lt K ks es c) in
      let z = unmarked marks u b c.fresh in
      let n : length (set marks u 1) ≡ length marks = length-set marks u 1 in
      let r = trail_marked t (omega arith) (set_bits marks u lu b) in
      record {
        long = r.long ∙ n;
        bits = r.bits;
        counted = λ i. omega (arith, r.counted i, set_adds marks u i lu z);
      }

  -- A walk comes to keys only.
  pub trail_below : {marks after : List ℕ} {v : ℕ} {s : Side} {ps : List Place} {st : Step} → Trail K ks es a start marks v s ps after st
      → (i : ℕ) → length ks ≤ i → occ i ps ≡ 0
  unfolding occ
  trail_below (ends e h) i l = refl
  trail_below (goes {marks = marks} {v = v} {u = u} {s = s} {ps = ps} e t) i l =
      let lu = came_lt K ks es (came K ks es a start marks v s e) in
      choose (λ (k : ℕ). k + occ i ps ≡ 0) (eqb u i) (λ q. absurd (omega (arith, eqb-true u i q))) (λ _. omega (arith, trail_below t i l))
