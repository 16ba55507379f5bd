-- A label's windows looked up one by one: what the slices hold after some of them. Assumes nothing.
use mathlib.Core.Path.{◌≡◌, refl, sym, ap, ◌∙◌}
use mathlib.Core.Bool.{true, false}
use mathlib.Core.List.{List, [], ◌∷◌, ◌++◌, append-nil}
use Prim.Native.Nat.{ℕ, suc, ◌+◌, ◌/◌, ◌≤◌, ◌<◌}
use native.Mathlib.Numerals.{add-one}
use native.Mathlib.Omega.{arith}
use lib.ListN.{length, set, length-append}
use Rattle.std.specs.Prelude.{Option, Some, None}
use Rattle.kmer.specs.Says.{value_of}
use Rattle.graph.specs.Table.{rank, stored}
use Rattle.graph.specs.Sightings.{Rule}
use Rattle.sorting.specs.Rows.{rows}
use Rattle.adding.specs.Batch.{kmer_at, code_at, note_at, new_rows, Looked, Gathers}
use Rattle.adding.specs.Says.{put_key, Sees, SeesBefore}
use Rattle.adding.specs.declared.Seen.{Seen}
use Rattle.adding.proofs.Rowing.{set_more, rows_put}
use Rattle.adding.proofs.Finding.{Finds}

module _ (K : ℕ) (label ks : List ℕ) (o : ℕ) where
  rows_known : stored ks (kmer_at K label o) ≡ true → new_rows K label ks (suc o) ≡ new_rows K label ks o
  unfolding new_rows
  rows_known s = rw s (append-nil (new_rows K label ks o))

  rows_new : stored ks (kmer_at K label o) ≡ false
      → new_rows K label ks (suc o) ≡ new_rows K label ks o ++ (record { key = kmer_at K label o; number = o } ∷ [])
  unfolding new_rows
  rows_new s = rw s

  looked_next : (rule : Rule) {notes places : List ℕ} {v i : ℕ} → Looked rule K label ks o notes places
      → o < length notes → o < length places
      → v ≡ note_at rule K label ks o → i ≡ rank ks (kmer_at K label o)
      → Looked rule K label ks (o + 1) (set notes o v) (set places o i)
  looked_next rule {notes} {places} {v} {i} l hn hp en ep = record {
    noted = set_more notes (λ j. note_at rule K label ks j) o v hn l.noted en;
    placed = set_more places (λ j. rank ks (kmer_at K label j)) o i hp l.placed ep;
  }

-- After o windows, of which the last one is given.
pub record Looking (rule : Rule) (K : ℕ) (label ks : List ℕ) (o q : ℕ) (last : Option Seen)
    (notes places new-keys offsets : List ℕ) : Type 0 where
  pub few : q ≤ o
  pub previous : SeesBefore K label o last
  pub gathers : Gathers rule K label ks o q notes places new-keys offsets

module _ (rule : Rule) {K : ℕ} {label : List ℕ} (ks : List ℕ) where
  pub looking_none : {notes places new-keys offsets : List ℕ}
      → Looking rule K label ks 0 0 None notes places new-keys offsets
  unfolding new_rows rows
  looking_none = record {
    few = omega arith;
    previous = refl;
    gathers = record {
      looked = record { noted = λ i h. absurd (omega arith); placed = λ i h. absurd (omega arith) };
      number = refl;
      new = refl;
    };
  }

  module _ {o q : ℕ} {z : Option Seen} {notes places new-keys offsets : List ℕ}
      (v : Looking rule K label ks o q z notes places new-keys offsets)
      (note_there : o < length notes) (place_there : o < length places)
      {x : Seen} (sx : Sees K label o x) {code i : ℕ} (ec : code ≡ code_at rule K label o) where
    pub looking_known : Finds ks (value_of x.kmer) i true
        → Looking rule K label ks (o + 1) q (Some x) (set notes o code) (set places o i) new-keys offsets
    looking_known f =
        let s : stored ks (kmer_at K label o) ≡ true = rw sx.kmer at f.is in
        let r : new_rows K label ks (o + 1) ≡ new_rows K label ks o = rw (add-one o) (rows_known K label ks o s) in
        let g = v.gathers in
        record {
          few = omega (arith, v.few);
          previous = (o, (add-one o, sx));
          gathers = record {
            looked = looked_next K label ks o rule g.looked note_there place_there (rw s (omega arith))
                (rw sx.kmer at f.place);
            number = g.number ∙ sym (ap length r);
            new = g.new ∙ sym r;
          };
        }

    pub looking_new : Finds ks (value_of x.kmer) i false → q < length new-keys / 2 → q < length offsets
        → {new-keys' : List ℕ} → new-keys' ≡ put_key new-keys q (value_of x.kmer)
        → Looking rule K label ks (o + 1) (q + 1) (Some x) (set notes o (code + 64)) (set places o i) new-keys'
        (set offsets q o)
    looking_new f key_there offset_there {new-keys'} ek =
        let s : stored ks (kmer_at K label o) ≡ false = rw sx.kmer at f.is in
        let r : new_rows K label ks (o + 1)
        ≡ new_rows K label ks o ++ (record { key = kmer_at K label o; number = o } ∷ []) =
        rw (add-one o) (rows_new K label ks o s) in
        let g = v.gathers in
        record {
          few = omega (arith, v.few);
          previous = (o, (add-one o, sx));
          gathers = record {
            looked = looked_next K label ks o rule g.looked note_there place_there (rw s (omega arith))
                (rw sx.kmer at f.place);
            number = rw (r, length-append) (omega (arith, g.number));
            new = rw (ek, r)
                (rows_put new-keys q (value_of x.kmer) key_there offsets o offset_there
                ∙ rw (g.new, sx.kmer));
          };
        }
