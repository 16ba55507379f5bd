-- A walk under way: what is left of it at the vertex where it stands is the rest of the whole. Assumes nothing.
use mathlib.Core.Path.{◌≡◌, refl, sym, ap, ◌∙◌}
use mathlib.Core.Bool.{false}
use mathlib.Core.List.{List, ◌∷◌}
use Prim.Native.Nat.{ℕ, ◌+◌, ◌≤◌, ◌<◌}
use native.Mathlib.Omega.{arith}
use lib.ListN.{length, get_or, set, drop, length-set, length-drop}
use lib.Seq.{drop-drop, get_or-drop}
use Rattle.kmer.specs.Kmer.{forward}
use Rattle.state.specs.declared.Side.{Side}
use Rattle.graph.specs.declared.Step.{Step}
use Rattle.graph.specs.declared.Step.TheVariants.{Next, Stop, Missing}
use Rattle.graph.specs.Table.{keys_of}
use Rattle.graph.specs.Walks.{Ends, seen, step}
use Rattle.laws.specs.Trails.{is_next}
use Rattle.laws.proofs.Steps.{Came, came, came_lt, came_forward, came_base}
use Rattle.laws.proofs.Fuel.{unseen_le, Went, walk_went}
use Rattle.marks.specs.Marks.{ends, visits}
use Rattle.contraction.specs.Over.{walk_in}
use Rattle.contraction.specs.Says.{Advances, Walks}
use Rattle.marks.proofs.Marking.{visits_length, ends_length}
use Rattle.marks.specs.Ready.{keys_for, Ready}
use Rattle.marks.proofs.Still.{keys_marks}
use Rattle.contraction.proofs.Onward.{rest, went_on, went_ends}
use Rattle.contraction.proofs.Visiting.{paced}

-- A walk has no more bases than there are vertices.
pub walk_few : {K : ℕ} {keys ms : List ℕ} → Ready K keys ms → (a : ℕ) (start : Side)
    → length (walk_in K keys ms a start).bases ≤ length ms
walk_few {K} {keys} {ms} r a start =
    let p = paced K (keys_for ms keys) (ends ms) a start (visits ms) (visits_length ms ∙ sym (keys_marks r)) in
    omega (arith, p.sum, unseen_le (set (visits ms) a 1), length-set (visits ms) a 1, visits_length ms)

-- A step that is no next place.
pub not_next : (st : Step) → ((v : ℕ) (s : Side) (b : ℕ) → st ≡ Next v s b → ⊥) → is_next st ≡ false
not_next (Next v s b) f = absurd (f v s b refl)
not_next (Stop why) f = refl
not_next Missing f = refl

-- The walk stands at vertex v, which it is to mark and to leave by side s.
pub record Walking (K : ℕ) (keys ms : List ℕ) (a : ℕ) (start : Side) (bases v : ℕ) (s : Side)
    (now : List ℕ) : Type 0 where
  pub ready : Ready K keys ms
  pub kept : ends now ≡ ends ms
  pub below : v < length ms
  pub within : bases ≤ length (walk_in K keys ms a start).bases
  pub left : Went K (keys_for ms keys) (ends ms) a start (set (visits now) v 1) v s
      (rest bases (walk_in K keys ms a start))

pub walking_start : {K : ℕ} {keys ms : List ℕ} → Ready K keys ms → (a : ℕ) (start : Side) → a < length ms
    → Walking K keys ms a start 0 a start ms
walking_start {K} {keys} {ms} r a start h = record {
  ready = r;
  kept = refl;
  below = h;
  within = omega arith;
  left = walk_went K (keys_for ms keys) (ends ms) a start (visits ms) (visits_length ms ∙ sym (keys_marks r));
}

module _ {K : ℕ} {keys ms : List ℕ} {a : ℕ} {start : Side} {bases v : ℕ} {s : Side} {now : List ℕ}
    (g : Walking K keys ms a start bases v s now) {r : Step} {after : List ℕ}
    (advance : Advances K keys now a start v s r after) where
  stepped : step K (keys_for ms keys) (ends ms) a start (set (visits now) v 1) v s ≡ r
  stepped =
      let k = advance.ends_kept ∙ g.kept in
      sym (advance.stepped
      ∙ ap (λ (n : ℕ). step K (keys_of n keys) (ends after) a start (visits after) v s) (ends_length ms after k)
      ∙ ap (λ (es : List Ends). step K (keys_for ms keys) es a start (visits after) v s) k
      ∙ ap (λ (m : List ℕ). step K (keys_for ms keys) (ends ms) a start m v s) advance.visits_after)

  module _ {u b : ℕ} {t : Side} (e : r ≡ Next u t b) where
    on : (drop bases (walk_in K keys ms a start).bases ≡ b ∷ drop 1 (drop bases (walk_in K keys ms a start).bases))
        × Went K (keys_for ms keys) (ends ms) a start (set (set (visits now) v 1) u 1) u t
        (rest 1 (rest bases (walk_in K keys ms a start)))
    on = went_on g.left (stepped ∙ e)

    met : Came K (keys_for ms keys) (ends ms) (set (visits now) v 1) v s u t b
    met = came K (keys_for ms keys) (ends ms) a start (set (visits now) v 1) v s (stepped ∙ e)

    pub walking_less : bases < length (walk_in K keys ms a start).bases
    walking_less = omega (arith, ap length on.0, length-drop bases (walk_in K keys ms a start).bases)

    pub walking_next : Walking K keys ms a start (bases + 1) u t after
    walking_next = record {
      ready = g.ready;
      kept = advance.ends_kept ∙ g.kept;
      below = omega (arith, came_lt K (keys_for ms keys) (ends ms) met, keys_marks g.ready);
      within = omega (arith, walking_less);
      left = rw (advance.visits_after, sym (drop-drop 1 bases (walk_in K keys ms a start).bases)) on.1;
    }

    pub walking_base : (get_or (walk_in K keys ms a start).bases bases 0 ≡ b) × (b < 4)
    walking_base =
        let l = (walk_in K keys ms a start).bases in
        let z : bases + 0 ≡ bases = omega arith in
        let first = sym (rw z at (get_or-drop bases l 0 0)) ∙ ap (λ (d : List ℕ). get_or d 0 0) on.0 in
        (first, came_base K (keys_for ms keys) (ends ms) met (g.ready.known v s))

    -- The base leads from the vertex as it is seen to the next.
    pub walking_seen : forward K (seen K (keys_for ms keys) v s) b ≡ seen K (keys_for ms keys) u t
    walking_seen = came_forward K (keys_for ms keys) (ends ms) met

  pub walking_ends : {st : Step} → r ≡ st → is_next st ≡ false
      → Walks K keys ms a start (record { bases = bases; last = st }) after
  walking_ends e n =
      let o = went_ends g.left (stepped ∙ e) n in
      record {
        bases = omega (arith, ap length o.0, length-drop bases (walk_in K keys ms a start).bases, g.within);
        last = o.2;
        ends_kept = advance.ends_kept ∙ g.kept;
        visits_after = advance.visits_after ∙ o.1;
        few = omega (arith, g.within, walk_few g.ready a start);
      }
