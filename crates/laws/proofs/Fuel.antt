-- As many steps as there are vertices are enough: each marks one that was not marked, so a walk ends at a stop or at a k-mer that
-- is not stored. Assumes nothing.
use mathlib.Core.Path.{◌≡◌, refl, ap, ◌∙◌}
use mathlib.Core.Bool.{false, cond}
use mathlib.Core.List.{List, [], ◌∷◌, map}
use Prim.Native.Nat.{ℕ, zero, suc, ◌≤◌, ◌<◌}
use native.Mathlib.Omega.{arith}
use lib.Dec.{eqb}
use lib.ListN.{length, set, length-set}
use Rattle.lemmas.proofs.Tests.{choose}
use Rattle.state.specs.declared.Side.{Side}
use Rattle.graph.specs.declared.Step.{Step}
use Rattle.graph.specs.declared.Step.TheVariants.{Next, Stop, Missing}
use Rattle.graph.specs.Walks.{Ends, Walk, visited, step, follow, walk}
use Rattle.laws.specs.Trails.{Place, is_next, Trail, Trail.ends, Trail.goes}
use Rattle.laws.proofs.Steps.{came, came_lt}

-- How many vertices are not visited.
unfoldable pub unseen : List ℕ → ℕ
unseen [] = 0
unseen (x ∷ marks) = cond (eqb x 1) (unseen marks) (suc (unseen marks))

pub unseen_le : (marks : List ℕ) → unseen marks ≤ length marks
unfolding unseen
unseen_le [] = omega arith
unseen_le (x ∷ marks) =
    let ih = unseen_le marks in
    choose (λ k. k ≤ suc (length marks)) (eqb x 1) (λ _. omega arith) (λ _. omega arith)

pub unseen_falls : (marks : List ℕ) (v : ℕ) → v < length marks → visited marks v ≡ false → suc (unseen (set marks v 1)) ≡ unseen marks
unfolding unseen
unseen_falls [] v l h = absurd (omega arith)
unseen_falls (x ∷ marks) zero l h = rw h
unseen_falls (x ∷ marks) (suc v) l h =
    let ih = unseen_falls marks v (omega arith) h in
    choose (λ k. suc (cond (eqb x 1) (unseen (set marks v 1)) (suc (unseen (set marks v 1)))) ≡ k) (eqb x 1)
    (λ e. rw e ih) (λ e. rw e (ap suc ih))

module _ (K : ℕ) (ks : List ℕ) (es : List Ends) (a : ℕ) (start : Side) where
  -- What is left of a walk, from the step that it is to take.
  pub record Went (marks : List ℕ) (v : ℕ) (s : Side) (w : Walk) : Type 0 where
    pub places : List Place
    pub trail : Trail K ks es a start marks v s places w.marks w.last
    pub bases : w.bases ≡ map (λ (p : Place). p.base) places

  follow_went : (most : ℕ) (marks : List ℕ) (v : ℕ) (s : Side) (st : Step) → step K ks es a start marks v s ≡ st → length marks ≡ length ks
      → unseen marks ≤ most → Went marks v s (follow K ks es a start most st marks)
  unfolding follow
  follow_went zero marks v s (Stop why) e l h = record { places = []; trail = ends e refl; bases = refl }
  follow_went zero marks v s Missing e l h = record { places = []; trail = ends e refl; bases = refl }
  follow_went (suc most) marks v s (Stop why) e l h = record { places = []; trail = ends e refl; bases = refl }
  follow_went (suc most) marks v s Missing e l h = record { places = []; trail = ends e refl; bases = refl }
  follow_went zero marks v s (Next u t b) e l h =
      let c = came K ks es a start marks v s e in
      absurd (omega (arith, unseen_falls marks u (omega (arith, came_lt K ks es c)) c.fresh))
  follow_went (suc most) marks v s (Next u t b) e l h =
      let c = came K ks es a start marks v s e in
      let m = set marks u 1 in
      let r = follow_went most m u t (step K ks es a start m u t) refl (simp length-set l)
      (omega (arith, unseen_falls marks u (omega (arith, came_lt K ks es c)) c.fresh)) in
      record {
        places = record { vertex = u; exit = t; base = b } ∷ r.places;
        trail = goes e r.trail;
        bases = ap (λ (bs : List ℕ). b ∷ bs) r.bases;
      }

  -- A walk goes along a trail.
  pub walk_went : (marks : List ℕ) → length marks ≡ length ks → Went (set marks a 1) a start (walk K ks es a start marks)
  unfolding walk
  walk_went marks l =
      let m = set marks a 1 in
      let n : length m ≡ length ks = simp length-set l in
      follow_went (length ks) m a start (step K ks es a start m a start) refl n (omega (arith, unseen_le m))

  trail_ends : {marks after : List ℕ} {v : ℕ} {s : Side} {ps : List Place} {st : Step}
      → Trail K ks es a start marks v s ps after st → is_next st ≡ false
  trail_ends (ends e h) = h
  trail_ends (goes e t) = trail_ends t

  pub trail_long : {marks after : List ℕ} {v : ℕ} {s : Side} {ps : List Place} {st : Step}
      → Trail K ks es a start marks v s ps after st → length after ≡ length marks
  trail_long (ends e h) = refl
  trail_long (goes {marks = marks} {u = u} e t) = trail_long t ∙ length-set marks u 1

  -- A walk never ends at a step that leads on.
  pub walk_ends : (marks : List ℕ) → length marks ≡ length ks → is_next (walk K ks es a start marks).last ≡ false
  walk_ends marks l = trail_ends (walk_went marks l).trail
