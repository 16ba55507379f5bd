-- The labels of the first vertices, written end to end with their index: the loop over all vertices. Assumes nothing.
use mathlib.Core.Path.{◌≡◌, refl, subst}
use mathlib.Core.List.{List}
use Prim.Native.Nat.{ℕ, ◌+◌, ◌≤◌, ◌<◌}
use native.Mathlib.Omega.{arith}
use lib.ListN.{length, get_or}
use Rattle.graph.specs.Labels.{run}
use Rattle.graph.specs.Contraction.{entries, end_to_end}
use Rattle.marks.specs.Marks.{ends}
use Rattle.marks.specs.Ready.{keys_for, Ready}
use Rattle.contraction.specs.Over.{run_in}
use Rattle.contraction.specs.Says.{Writes, Roomy}
use Rattle.contraction.specs.Trail.{trail_in, Trails}
use Rattle.contraction.proofs.Standing.{Standing, skips_here, place_skipped}
use Rattle.contraction.proofs.Running.{run_skips}

-- The first a vertices are done; the next is read from a place of the trail on.
pub record Listed (K : ℕ) (keys ms trail buffer starts lengths : List ℕ) (labels at from a : ℕ)
    (buffer' starts' lengths' : List ℕ) : Type 0 where
  pub ready : Ready K keys ms
  pub trails : Trails K keys ms trail
  pub roomy : Roomy K keys ms (length buffer) (length starts) (length lengths)
  pub below : a ≤ length ms
  pub fewer : labels ≤ a
  pub place : from ≡ length (trail_in K keys ms a)
  pub long_buffer : length buffer' ≡ length buffer
  pub long_starts : length starts' ≡ length starts
  pub long_lengths : length lengths' ≡ length lengths
  pub writes : Writes K keys ms a labels at buffer buffer' starts starts' lengths lengths'

pub listed_none : (K : ℕ) (keys ms trail buffer starts lengths : List ℕ) → Ready K keys ms → Trails K keys ms trail
    → Roomy K keys ms (length buffer) (length starts) (length lengths)
    → Listed K keys ms trail buffer starts lengths 0 0 0 0 buffer starts lengths
unfolding run end_to_end entries trail_in
listed_none K keys ms trail buffer starts lengths r t o = record {
  ready = r;
  trails = t;
  roomy = o;
  below = omega arith;
  fewer = omega arith;
  place = refl;
  long_buffer = refl;
  long_starts = refl;
  long_lengths = refl;
  writes = record {
    number = refl;
    total = refl;
    lists = record
        { letters = refl; starts_after = refl; lengths_after = refl };
  };
}

module _ {K : ℕ} {keys ms trail buffer starts lengths : List ℕ} {labels at from a : ℕ}
    {buffer' starts' lengths' : List ℕ}
    (g : Listed K keys ms trail buffer starts lengths labels at from a buffer' starts' lengths') where
  -- Behind the last vertex.
  pub listed_all : length ms ≤ a →
      let total = length (end_to_end (run_in K keys ms (length ms)).labels) in
      Writes K keys ms (length ms) labels total buffer buffer' starts starts' lengths lengths'
  listed_all h =
      let e : a ≡ length ms = omega (arith, g.below) in
      let w = subst (λ (n : ℕ). Writes K keys ms n labels at buffer buffer' starts starts' lengths lengths') e g.writes
      in
      subst (λ (n : ℕ). Writes K keys ms (length ms) labels n buffer buffer' starts starts' lengths lengths') w.total w

  module _ (l : a < length ms) where
    pub standing : Standing K keys ms trail from a
    standing = record { ready = g.ready; trails = g.trails; place = g.place; vertex = l }

    pub listed_skip : get_or trail from 0 ≡ 2 → Listed K keys ms trail buffer starts lengths labels at (from + 1)
        (a + 1) buffer' starts' lengths'
    listed_skip y =
        let e : run_in K keys ms (a + 1) ≡ run_in K keys ms a = run_skips K (keys_for ms keys) (ends ms) a
        (skips_here standing y) in
        record {
          ready = g.ready;
          trails = g.trails;
          roomy = g.roomy;
          below = omega arith;
          fewer = omega (arith, g.fewer);
          place = place_skipped standing y;
          long_buffer = g.long_buffer;
          long_starts = g.long_starts;
          long_lengths = g.long_lengths;
          writes = record { number = rw e g.writes.number; total = rw e g.writes.total; lists = rw e g.writes.lists };
        }
