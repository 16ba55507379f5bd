-- All vertices, one after the other: what the label of each anchor adds to the run. Assumes nothing.
use mathlib.Core.Path.{◌≡◌, refl, sym, ap, ◌∙◌}
use mathlib.Core.Bool.{Bool, true, false, ◌||◌}
use mathlib.Core.List.{List, [], ◌∷◌, ◌++◌}
use Prim.Native.Nat.{ℕ, ◌+◌, ◌*◌, ◌≤◌, ◌<◌}
use native.Mathlib.Omega.{arith}
use lib.ListN.{length, replicate, length-append}
use Rattle.graph.specs.Table.{keys_of}
use Rattle.graph.specs.Walks.{Ends, visited, isolated}
use Rattle.graph.specs.Labels.{Run, extract, run}
use Rattle.graph.specs.Contraction.{end_to_end}
use Rattle.laws.proofs.Room.{total_snoc}
use Rattle.marks.specs.Marks.{ends, visits}
use Rattle.contraction.specs.Over.{extract_in, label_in, run_in}
use Rattle.contraction.specs.Says.{Extracts, Misses, Surveys}
use Rattle.contraction.specs.declared.Label.{Label}
use Rattle.contraction.specs.declared.ContractError.{ContractError}
use Rattle.marks.proofs.Marking.{ends_length}
use Rattle.marks.specs.Ready.{keys_for, Ready, Unvisited}
use Rattle.marks.proofs.Still.{keys_marks}
use Rattle.contraction.proofs.Running.{run_skips, run_takes, run_grown}

-- A run that has marks and nothing else.
abbrev from : List ℕ → Run
from marks = record { marks = marks; labels = []; missed = false }

-- The first a vertices are done.
pub record Surveying (K : ℕ) (keys ms : List ℕ) (a labels bases : ℕ) (now : List ℕ) : Type 0 where
  pub ready : Ready K keys ms
  pub within : a ≤ length ms
  pub fewer : labels ≤ a
  pub room : bases ≤ a * 200000
  pub surveys : Surveys K keys ms a labels bases now

module _ {K : ℕ} {keys ms : List ℕ} where
  pub surveying_start : Ready K keys ms → Unvisited ms → Surveying K keys ms 0 0 0 ms
  unfolding run end_to_end
  surveying_start r u = record {
    ready = r;
    within = omega arith;
    fewer = omega arith;
    room = omega arith;
    surveys = record {
      number = refl;
      total = refl;
      missed = refl;
      ends_kept = refl;
      visits_after = u ∙ ap (λ (n : ℕ). replicate n 0) (sym (keys_marks r));
    };
  }

  module _ {a labels bases : ℕ} {now : List ℕ} (g : Surveying K keys ms a labels bases now) where
    -- The marks say of the next vertex what the run says: whether it is skipped.
    pub skipped_is : {t : Bool} → t ≡ (visited (visits now) a || isolated (ends now) a)
        → (visited (run_in K keys ms a).marks a || isolated (ends ms) a) ≡ t
    skipped_is e = sym (e ∙ rw (g.surveys.ends_kept, g.surveys.visits_after))

    pub surveying_skip : a < length ms → true ≡ (visited (visits now) a || isolated (ends now) a)
        → Surveying K keys ms (a + 1) labels bases now
    surveying_skip h e =
        let s = g.surveys in
        let q : run_in K keys ms (a + 1) ≡ run_in K keys ms a = run_skips K (keys_for ms keys) (ends ms) a
        (skipped_is e) in
        record {
          ready = g.ready;
          within = omega arith;
          fewer = omega (arith, g.fewer);
          room = omega (arith, g.room);
          surveys = record {
            number = rw q s.number;
            total = rw q s.total;
            missed = rw q s.missed;
            ends_kept = s.ends_kept;
            visits_after = rw q s.visits_after;
          };
        }

    module _ (h : a < length ms) (e : false ≡ (visited (visits now) a || isolated (ends now) a)) where
      abbrev r : Run
      r = run_in K keys ms a

      next : run_in K keys ms (a + 1) ≡ extract K (keys_for ms keys) (ends ms) r a
      next = run_takes K (keys_for ms keys) (ends ms) a (skipped_is e)

      alone : extract_in K keys now a ≡ extract K (keys_for ms keys) (ends ms) (from r.marks) a
      alone =
          let s = g.surveys in
          ap (λ (n : ℕ). extract K (keys_of n keys) (ends now) (from (visits now)) a) (ends_length ms now s.ends_kept)
          ∙ ap (λ (es : List Ends). extract K (keys_for ms keys) es (from (visits now)) a) s.ends_kept
          ∙ ap (λ (m : List ℕ). extract K (keys_for ms keys) (ends ms) (from m) a) s.visits_after

      listed : (run_in K keys ms (a + 1)).labels ≡ r.labels ++ (label_in K keys now a ∷ [])
      unfolding extract
      listed = ap (λ (z : Run). z.labels) next ∙ ap (λ (z : Run). r.labels ++ z.labels) (sym alone)

      -- A vertex is missing where the anchor's walks miss one.
      missed_now : (run_in K keys ms (a + 1)).missed ≡ (extract_in K keys now a).missed
      unfolding extract
      missed_now = ap (λ (z : Run). z.missed) next ∙ (rw g.surveys.missed (sym (ap (λ (z : Run). z.missed) alone)))

      pub surveying_take : {l : Label} {after trail trail' : List ℕ} {at : ℕ}
          → Extracts K keys now a l after trail at trail'
          → Surveying K keys ms (a + 1) (labels + 1) (bases + l.bases) after
      unfolding extract
      surveying_take {l} x =
          let s = g.surveys in
          record {
            ready = g.ready;
            within = omega arith;
            fewer = omega (arith, g.fewer);
            room = omega (arith, g.room, x.few);
            surveys = record {
              number = omega (arith, s.number, ap length listed, length-append r.labels (label_in K keys now a ∷ []));
              total = omega (
                arith,
                s.total,
                x.bases,
                ap (λ (ls : List (List ℕ)). length (end_to_end ls)) listed,
                total_snoc r.labels (label_in K keys now a),
              );
              missed = missed_now ∙ x.missed;
              ends_kept = x.ends_kept ∙ s.ends_kept;
              visits_after = x.visits_after ∙ ap (λ (z : Run). z.marks) alone ∙ sym (ap (λ (z : Run). z.marks) next);
            };
          }

      -- It stays missing.
      pub surveying_misses : {e : ContractError} → Misses K keys now a e → (run_in K keys ms (length ms)).missed ≡ true
      surveying_misses x =
          (run_grown K (keys_for ms keys) (ends ms) (a + 1) (length ms) (omega arith)).missed (missed_now ∙ x.missed)
