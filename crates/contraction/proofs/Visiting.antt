-- Each base of a walk, and so each letter of an anchor's piece, is a vertex newly visited. Assumes nothing.
use mathlib.Core.Path.{◌≡◌, ap, ◌∙◌}
use mathlib.Core.Bool.{false, cond}
use mathlib.Core.List.{List, [], ◌∷◌}
use Prim.Native.Nat.{ℕ, zero, suc, ◌+◌, ◌≤◌, ◌<◌}
use native.Mathlib.Omega.{arith}
use lib.Dec.{eqb}
use lib.ListN.{length, set, length-set, length-map}
use Rattle.lemmas.proofs.Tests.{choose}
use Rattle.state.specs.declared.Side.{Side}
use Rattle.state.specs.declared.Side.TheVariants.{Front, Back}
use Rattle.graph.specs.declared.Step.{Step}
use Rattle.graph.specs.Walks.{Ends, Walk, walk, closed, visited}
use Rattle.graph.specs.Labels.{Run, extract}
use Rattle.laws.specs.Trails.{Place, Trail, Trail.ends, Trail.goes}
use Rattle.laws.proofs.Steps.{came, came_lt}
use Rattle.laws.proofs.Fuel.{unseen, unseen_falls, walk_went, trail_long}
use Rattle.contraction.specs.Trail.{piece_of}
use Rattle.contraction.proofs.Pieces.{closed_long, open_long}

-- To mark a vertex leaves no more unseen than there were.
unseen_set : (marks : List ℕ) (v : ℕ) → unseen (set marks v 1) ≤ unseen marks
unfolding unseen
unseen_set [] v = omega arith
unseen_set (x ∷ marks) zero = choose (λ k. unseen marks ≤ k) (eqb x 1) (λ _. omega arith) (λ _. omega arith)
unseen_set (x ∷ marks) (suc v) =
    let ih = unseen_set marks v in
    choose (λ k. cond (eqb x 1) (unseen (set marks v 1)) (suc (unseen (set marks v 1))) ≤ k) (eqb x 1)
    (λ e. rw e ih) (λ e. rw e (omega arith))

module _ (K : ℕ) (ks : List ℕ) (es : List Ends) where
  trail_unseen : {a : ℕ} {start : Side} {marks after : List ℕ} {v : ℕ} {s : Side} {ps : List Place} {st : Step}
      → Trail K ks es a start marks v s ps after st → length marks ≡ length ks → length ps + unseen after ≡ unseen marks
  trail_unseen (ends e h) l = omega arith
  trail_unseen {a} {start} (goes {marks = marks} {v = v} {u = u} {s = s} e t) l =
      let c = came K ks es a start marks v s e in
      omega (
        arith,
        unseen_falls marks u (omega (arith, came_lt K ks es c)) c.fresh,
        trail_unseen t (length-set marks u 1 ∙ l),
      )

  -- Each base of a walk is a vertex that it visits, beside the one that it starts from.
  pub record Paced (a : ℕ) (start : Side) (marks : List ℕ) : Type 0 where
    pub long : length (walk K ks es a start marks).marks ≡ length ks
    pub sum : length (walk K ks es a start marks).bases + unseen (walk K ks es a start marks).marks ≡ unseen
        (set marks a 1)

  pub paced : (a : ℕ) (start : Side) (marks : List ℕ) → length marks ≡ length ks → Paced a start marks
  paced a start marks l =
      let w = walk_went K ks es a start marks l in
      let n : length (set marks a 1) ≡ length ks = length-set marks a 1 ∙ l in
      record {
        long = trail_long K ks es a start w.trail ∙ n;
        sum = omega (
          arith,
          trail_unseen w.trail n,
          ap length w.bases,
          length-map w.places (λ (p : Place). p.base),
        );
      }

  module _ (r : Run) (a : ℕ) (l : length r.marks ≡ length ks) (h : a < length ks) (f : visited r.marks a ≡ false) where
    abbrev B : Walk
    B = walk K ks es a Back r.marks

    abbrev F : Walk
    F = walk K ks es a Front B.marks

    pub piece_room : length (piece_of B F) + unseen (extract K ks es r a).marks ≤ suc (unseen r.marks)
    unfolding extract
    piece_room =
        let b = paced a Back r.marks l in
        choose (λ (after : List ℕ). length (piece_of B F) + unseen after ≤ suc (unseen r.marks)) (closed B.last)
        (λ c. omega (arith, closed_long B F c, b.sum, unseen_falls r.marks a (omega arith) f))
        (λ c.
        omega (
          arith,
          open_long B F c,
          b.sum,
          (paced a Front B.marks b.long).sum,
          unseen_set B.marks a,
          unseen_falls r.marks a (omega arith) f,
        ))
