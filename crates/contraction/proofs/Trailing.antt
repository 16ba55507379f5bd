-- The trail of all vertices: what each gives to it, where that stands, and that two bytes for each are enough. Assumes
-- nothing.
use mathlib.Core.Path.{◌≡◌, refl, sym, ap, ap₂, ◌∙◌}
use mathlib.Core.Bool.{Bool, true, false, cond, ◌||◌}
use mathlib.Core.Logic.{⊎_elim}
use mathlib.Core.List.{List, [], ◌∷◌, ◌++◌, append_assoc, append-nil}
use Prim.Native.Nat.{ℕ, zero, suc, ◌+◌, ◌*◌, ◌≤◌, ◌<◌}
use native.Mathlib.Numerals.{add-one}
use native.Mathlib.Omega.{arith}
use lib.ListN.{length, drop, replicate, take-append-drop, length-append, length-replicate}
use lib.Seq.{drop_at, take-append_seam}
use Rattle.dna.specs.Text.{over}
use Rattle.dna.proofs.Overwriting.{length_over}
use Rattle.lemmas.proofs.Numbers.{lt_or_ge}
use Rattle.lemmas.proofs.Tests.{or_first}
use Rattle.graph.specs.Walks.{visited, isolated}
use Rattle.graph.specs.Labels.{Run, extract, run}
use Rattle.laws.proofs.Fuel.{unseen, unseen_le}
use Rattle.laws.proofs.Runs.{run_toured}
use Rattle.marks.specs.Marks.{ends}
use Rattle.contraction.specs.Over.{run_in}
use Rattle.contraction.specs.Trail.{piece_from, trail_in, Trails}
use Rattle.marks.proofs.Marking.{ends_length}
use Rattle.marks.specs.Ready.{keys_for, Ready}
use Rattle.marks.proofs.Still.{keys_marks}
use Rattle.contraction.proofs.Visiting.{piece_room}
use Rattle.contraction.proofs.Pieces.{Begins}

module _ (K : ℕ) (keys ms : List ℕ) where
  -- What vertex a gives.
  abbrev pub given_by : ℕ → List ℕ
  given_by a =
      let r = run_in K keys ms a in
      cond (visited r.marks a || isolated (ends ms) a) (2 ∷ []) (piece_from K keys ms r.marks a)

  pub trail_next : (a : ℕ) → trail_in K keys ms (a + 1) ≡ trail_in K keys ms a ++ given_by a
  unfolding trail_in
  trail_next a = rw add-one

  trail_grown : (a n : ℕ) → a ≤ n → Begins (trail_in K keys ms a) (trail_in K keys ms n)
  unfolding trail_in
  trail_grown a zero h =
      let e : a ≡ 0 = omega arith in
      record { behind = []; whole = rw e (sym (append-nil [])) }
  trail_grown a (suc n) h = ⊎_elim (λ l. on (trail_grown a n (omega arith))) here (lt_or_ge a (suc n))
    where
      here : suc n ≤ a → Begins (trail_in K keys ms a) (trail_in K keys ms (suc n))
      here l = let e : a ≡ suc n = omega arith in rw e
          (record { behind = []; whole = sym (append-nil (trail_in K keys ms (suc n))) })

      on : Begins (trail_in K keys ms a) (trail_in K keys ms n)
          → Begins (trail_in K keys ms a) (trail_in K keys ms (suc n))
      on g = record {
        behind = g.behind ++ given_by n;
        whole = ap (λ (t : List ℕ). t ++ given_by n) g.whole
            ∙ append_assoc (trail_in K keys ms a) g.behind (given_by n);
      }

  -- At the place of vertex a stands what it gives.
  pub trail_here : {trail : List ℕ} → Trails K keys ms trail → {from : ℕ} (a : ℕ)
      → from ≡ length (trail_in K keys ms a) → a < length ms
      → Begins (given_by a) (drop from trail)
  trail_here {trail} t {from} a e h =
      let g = trail_grown (a + 1) (length ms) (omega arith) in
      let after : List ℕ = drop (length (trail_in K keys ms (length ms))) trail in
      let w : trail ≡ trail_in K keys ms a ++ (given_by a ++ (g.behind ++ after)) =
      sym (take-append-drop (length (trail_in K keys ms (length ms))) trail)
      ∙ ap (λ (u : List ℕ). u ++ after) (t.holds ∙ g.whole ∙ ap (λ (u : List ℕ). u ++ g.behind) (trail_next a))
      ∙ rw (append_assoc, append_assoc) in
      record { behind = g.behind ++ after; whole = ap (drop from) w ∙ drop_at (trail_in K keys ms a) _ from (sym e) }

-- Marks with the same ends have the same run and the same trail.
module _ (K : ℕ) (keys ms after : List ℕ) (e : ends after ≡ ends ms) where
  pub run_same : (a : ℕ) → run_in K keys after a ≡ run_in K keys ms a
  run_same a = rw (ends_length ms after e, e)

  trail_same : (a : ℕ) → trail_in K keys after a ≡ trail_in K keys ms a
  unfolding trail_in
  trail_same zero = refl
  trail_same (suc a) = ap₂ ◌++◌ (trail_same a) (rw (ends_length ms after e, e))

-- The trail has at most two bytes for each vertex.
module _ {K : ℕ} {keys ms : List ℕ} (rd : Ready K keys ms) where
  trail_room : (a : ℕ) → a ≤ length ms → length (trail_in K keys ms a) + unseen
      (run_in K keys ms a).marks ≤ length ms + a
  unfolding trail_in run
  trail_room zero h =
      let m : List ℕ = replicate (length (keys_for ms keys)) 0 in
      omega (arith, unseen_le m, length-replicate {A = ℕ} (length (keys_for ms keys)) 0, keys_marks rd)
  trail_room (suc a) h =
      go (visited (run_in K keys ms a).marks a || isolated (ends ms) a) refl (trail_room a (omega arith))
    where
      go : (t : Bool) → (visited (run_in K keys ms a).marks a || isolated (ends ms) a) ≡ t
          → length (trail_in K keys ms a) + unseen (run_in K keys ms a).marks ≤ length ms + a
          → length (trail_in K keys ms a ++ cond t (2 ∷ []) (piece_from K keys ms (run_in K keys ms a).marks a))
          + unseen (cond t (run_in K keys ms a) (extract K (keys_for ms keys) (ends ms) (run_in K keys ms a) a)).marks
          ≤ length ms + suc a
      go true e ih = omega (arith, length-append (trail_in K keys ms a) (2 ∷ []))
      go false e ih =
          let r : Run = run_in K keys ms a in
          let p : List ℕ = piece_from K keys ms (run_in K keys ms a).marks a in
          let l = (run_toured K (keys_for ms keys) (ends ms) a (omega (arith, keys_marks rd))).long in
          omega (
            arith,
            length-append (trail_in K keys ms a) p,
            piece_room K (keys_for ms keys) (ends ms) r a l (omega (arith, keys_marks rd))
                (or_first (visited r.marks a) (isolated (ends ms) a) e),
          )

  pub trail_short : (a : ℕ) → a ≤ length ms → length (trail_in K keys ms a) ≤ 2 * length ms
  trail_short a h = omega (arith, trail_room a h)

  -- Written over a slice that is wide enough, the trail is there for all marks with the same ends.
  pub trails_over : {after : List ℕ} → ends after ≡ ends ms → (slice : List ℕ) → 2 * length ms ≤ length slice
      → {trail : List ℕ}
      → trail ≡ over (trail_in K keys ms (length ms)) slice → Trails K keys after trail
  trails_over {after} e slice h {trail} q =
      let T : List ℕ = trail_in K keys ms (length ms) in
      let same : trail_in K keys after (length after) ≡ trail_in K keys ms (length ms) =
      trail_same K keys ms after e (length after) ∙ ap (trail_in K keys ms) (ends_length ms after e) in
      let l : length (trail_in K keys ms (length ms)) ≤ length
      slice = omega (arith, trail_short (length ms) (omega arith)) in
      record {
        holds = rw (same, q) (take-append_seam T (drop (length T) slice));
        long = omega (arith, ap length same, ap length q, length_over T slice l);
      }
