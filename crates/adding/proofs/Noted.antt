-- Windows looked up: what counting those of stored k-mers asks of the slices. Assumes nothing.
use mathlib.Core.Path.{◌≡◌}
use mathlib.Core.List.{List}
use Prim.Native.Nat.{ℕ, ◌<◌}
use native.Mathlib.Omega.{arith}
use lib.ListN.{length, get_or}
use Rattle.graph.specs.Table.{keys_of}
use Rattle.graph.specs.Sightings.{Rule, windows}
use Rattle.graph.proofs.Rank.{stored_lt}
use Rattle.graph.proofs.Accepted.{fit_room, fit_length}
use Rattle.adding.specs.Batch.{kmer_at, Looked}
use Rattle.adding.specs.Says.{Addable, Known}
use Rattle.adding.proofs.Coding.{code_coded}
use Rattle.adding.proofs.Raising.{known_note}

module _ {rule : Rule} {K : ℕ} {label : List ℕ} {n : ℕ} {keys counts : List ℕ} (a : Addable K label n keys counts)
    {notes places : List ℕ} (l : Looked rule K label (keys_of n keys) (windows K label) notes places) where
  abbrev ks : List ℕ
  ks = keys_of n keys

  -- A note below 64 is of a k-mer that is stored.
  place_lt : (i : ℕ) → i < windows K label → get_or notes i 0 < 64 → get_or places i 0 < length counts
  place_lt i h low =
      omega (
        arith,
        l.placed i h,
        stored_lt ks (kmer_at K label i) (known_note rule K label ks i (l.noted i h) low).0,
        fit_length K n keys counts a.fits,
        fit_room K n keys counts a.fits,
      )

  module _ {m : ℕ} (e : m ≡ windows K label) where
    pub looked_all : Looked rule K label ks m notes places
    looked_all = rw e l

    pub known : Known m notes places counts
    known = rw e
        (record {
          coded = λ i h low.
              rw (known_note rule K label ks i (l.noted i h) low).1
              (code_coded rule K label a.given.bases i (omega arith));
          counter_there = place_lt;
        })
