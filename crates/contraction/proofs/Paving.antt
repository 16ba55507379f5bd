-- The trail under way, one vertex after the other: what each gives stands behind what those before it gave. Assumes
-- nothing.
use mathlib.Core.Path.{◌≡◌, refl, sym, ap, ◌∙◌}
use mathlib.Core.Bool.{Bool, true, false, cond, ◌||◌}
use mathlib.Core.List.{List, [], ◌∷◌, ◌++◌}
use Prim.Native.Nat.{ℕ, ◌+◌, ◌*◌, ◌≤◌, ◌<◌}
use native.Mathlib.Omega.{arith}
use lib.ListN.{length, set, length-append}
use Rattle.dna.specs.Text.{over}
use Rattle.dna.proofs.Overwriting.{length_over, over_one}
use Rattle.graph.specs.Walks.{visited, isolated}
use Rattle.marks.specs.Marks.{ends, visits}
use Rattle.contraction.specs.Says.{Extracts}
use Rattle.contraction.specs.Trail.{piece_in, trail_in}
use Rattle.contraction.specs.declared.Label.{Label}
use Rattle.marks.proofs.Marking.{ends_length}
use Rattle.contraction.proofs.Placing.{over_pasted}
use Rattle.contraction.proofs.Surveying.{Surveying, skipped_is}
use Rattle.contraction.proofs.Trailing.{trail_next, trail_short}

-- The first a vertices are done; the trail has room for all.
pub record Paving (K : ℕ) (keys ms : List ℕ) (a : ℕ) (trail : List ℕ) (at : ℕ) (now : List ℕ) : Type 0 where
  pub wide : 2 * length ms ≤ length trail
  pub place : at ≡ length (trail_in K keys ms a)
  pub paved : now ≡ over (trail_in K keys ms a) trail

pub paving_start : (K : ℕ) (keys ms trail : List ℕ) → 2 * length ms ≤ length trail → Paving K keys ms 0 trail 0 trail
unfolding trail_in
paving_start K keys ms trail h = record { wide = h; place = refl; paved = refl }

module _ {K : ℕ} {keys ms : List ℕ} {a labels bases : ℕ} {marks : List ℕ}
    (g : Surveying K keys ms a labels bases marks) {trail now : List ℕ} {at : ℕ}
    (p : Paving K keys ms a trail at now) where
  pub paving_length : length now ≡ length trail
  paving_length =
      ap length p.paved
      ∙ length_over (trail_in K keys ms a) trail (omega (arith, p.wide, trail_short g.ready a g.within))

  module _ (h : a < length ms) where
    short : length (trail_in K keys ms (a + 1)) ≤ length trail
    short = omega (arith, p.wide, trail_short g.ready (a + 1) (omega arith))

    -- What the next vertex gives, by whether it is skipped.
    trail_on : {t : Bool} → t ≡ (visited (visits marks) a || isolated (ends marks) a)
        → trail_in K keys ms (a + 1) ≡ trail_in K keys ms a ++ cond t (2 ∷ []) (piece_in K keys marks a)
    trail_on e =
        let s = g.surveys in
        trail_next K keys ms a ∙ rw (ends_length ms marks s.ends_kept, s.ends_kept, s.visits_after, skipped_is g e)

    module _ (e : true ≡ (visited (visits marks) a || isolated (ends marks) a)) where
      pub skip_fits : at < length trail
      skip_fits = omega (arith, p.place, short, ap length (trail_on e), length-append (trail_in K keys ms a) (2 ∷ []))

      pub paving_skip : Paving K keys ms (a + 1) trail (at + 1) (set now at 2)
      paving_skip = record {
        wide = p.wide;
        place = omega (arith, p.place, ap length (trail_on e), length-append (trail_in K keys ms a) (2 ∷ []));
        paved = over_one (trail_in K keys ms a) trail at 2 p.paved p.place skip_fits (trail_on e);
      }

    module _ (e : false ≡ (visited (visits marks) a || isolated (ends marks) a)) where
      long : length (trail_in K keys ms (a + 1)) ≡ at + length (piece_in K keys marks a)
      long = omega (
        arith,
        p.place,
        ap length (trail_on e),
        length-append (trail_in K keys ms a) (piece_in K keys marks a),
      )

      pub piece_fits : at + length (piece_in K keys marks a) ≤ length now
      piece_fits = omega (arith, long, short, paving_length)

      pub paving_take : {l : Label} {after now' : List ℕ} → Extracts K keys marks a l after now at now'
          → Paving K keys ms (a + 1) trail l.end now'
      paving_take x = record {
        wide = p.wide;
        place = x.end ∙ sym long;
        paved = x.walks
            ∙ rw (p.paved, p.place, over_pasted (trail_in K keys ms a) trail (piece_in K keys marks a))
            (ap (λ (t : List ℕ). over t trail) (sym (trail_on e)));
      }
