-- What stands in the trail at the place of a vertex: that it is no anchor, or its piece, which gives its label. Assumes
-- nothing.
use mathlib.Core.Path.{◌≡◌, sym, ap, ◌∙◌}
use mathlib.Core.Bool.{Bool, true, false, ◌||◌}
use mathlib.Core.List.{List, [], ◌∷◌, ◌++◌}
use Prim.Native.Nat.{ℕ, ◌+◌, ◌<◌}
use native.Mathlib.Nat.{add-zero}
use native.Mathlib.Omega.{arith}
use borrow.Author.Tests.{eq-eqb, ne_eqb}
use lib.Dec.{eqb}
use lib.ListN.{length, get_or, drop, length-append, length-drop}
use lib.Seq.{get_or-drop}
use Rattle.state.specs.declared.Side.TheVariants.{Front, Back}
use Rattle.graph.specs.Walks.{Walk, walk, visited, isolated}
use Rattle.table.specs.Search.{key}
use Rattle.marks.specs.Marks.{ends}
use Rattle.marks.specs.Ready.{keys_for, Ready}
use Rattle.contraction.specs.Over.{run_in}
use Rattle.contraction.specs.Trail.{piece_of, piece_from, trail_in, Trails, Piece, label_from, piece_length}
use Rattle.contraction.proofs.Anchors.{anchor_is, anchor_small}
use Rattle.contraction.proofs.Pieces.{Begins, skips_byte, given_some, Told, told}
use Rattle.contraction.proofs.Running.{label_under}
use Rattle.contraction.proofs.Trailing.{given_by, trail_next, trail_here}

-- The trail of all vertices is written, and vertex a's place in it is known.
pub record Standing (K : ℕ) (keys ms trail : List ℕ) (from a : ℕ) : Type 0 where
  pub ready : Ready K keys ms
  pub trails : Trails K keys ms trail
  pub place : from ≡ length (trail_in K keys ms a)
  pub vertex : a < length ms

module _ {K : ℕ} {keys ms trail : List ℕ} {from a : ℕ} (p : Standing K keys ms trail from a) where
  abbrev skipped : Bool
  skipped = visited (run_in K keys ms a).marks a || isolated (ends ms) a

  abbrev B : Walk
  B = walk K (keys_for ms keys) (ends ms) a Back (run_in K keys ms a).marks

  abbrev F : Walk
  F = walk K (keys_for ms keys) (ends ms) a Front B.marks

  here : Begins (given_by K keys ms a) (drop from trail)
  here = trail_here K keys ms p.trails a p.place p.vertex

  pub place_inside : from < length trail
  place_inside =
      omega (
        arith,
        ap length here.whole,
        length-append (given_by K keys ms a) here.behind,
        given_some skipped B F,
        length-drop from trail,
      )

  byte : eqb (get_or trail from 0) 2 ≡ skipped
  byte =
      let z : from + 0 ≡ from = add-zero from in
      sym (ap (λ (b : ℕ). eqb b 2) (get_or-drop from trail 0 0 ∙ ap (λ (i : ℕ). get_or trail i 0) z))
      ∙ skips_byte skipped B F (drop from trail) here

  module _ (e : get_or trail from 0 ≡ 2) where
    pub skips_here : skipped ≡ true
    skips_here = sym byte ∙ eq-eqb (get_or trail from 0) 2 e

    pub place_skipped : from + 1 ≡ length (trail_in K keys ms (a + 1))
    place_skipped =
        let q : trail_in K keys ms (a + 1) ≡ trail_in K keys ms a ++ (2 ∷ []) = trail_next K keys ms a
        ∙ rw skips_here in
        omega (arith, p.place, ap length q, length-append (trail_in K keys ms a) (2 ∷ []))

  module _ (n : get_or trail from 0 ≡ 2 → ⊥) where
    pub takes_here : skipped ≡ false
    takes_here = sym byte ∙ ne_eqb (get_or trail from 0) 2 n

    begins : Begins (piece_of B F) (drop from trail)
    begins = record { behind = here.behind; whole = here.whole ∙ rw takes_here }

    reads : Told K (key keys a) (anchor_small p.ready a p.vertex) (keys_for ms keys) (ends ms) B F begins
    reads = told K (key keys a) (anchor_small p.ready a p.vertex) (keys_for ms keys) (ends ms) B F begins

    pub piece_here : Piece (drop from trail)
    piece_here = reads.piece

    pub label_here : label_from K (key keys a) (drop from trail) ≡ label_under K (keys_for ms keys) (ends ms)
        (run_in K keys ms a).marks a
    label_here = rw (anchor_is p.ready a p.vertex) reads.label

    pub place_taken : from + piece_length (drop from trail) ≡ length (trail_in K keys ms (a + 1))
    place_taken =
        let q : trail_in K keys ms (a + 1) ≡ trail_in K keys ms a ++ piece_from K keys ms (run_in K keys ms a).marks a =
        trail_next K keys ms a ∙ rw takes_here in
        omega (
          arith,
          p.place,
          ap length q,
          length-append (trail_in K keys ms a) (piece_from K keys ms (run_in K keys ms a).marks a),
          reads.long,
        )
