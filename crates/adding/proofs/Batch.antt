-- A label added at once: the new k-mers put in at their places, with the counters of all vertices, are the table that the definition
-- adds it to. Assumes nothing.
use mathlib.Core.Path.{◌≡◌, refl, sym, ap, ap₂, ◌∙◌}
use mathlib.Core.Bool.{Bool, true, false, ◌||◌}
use mathlib.Core.Logic.{inr, ⊎_elim}
use mathlib.Core.List.{List, map}
use Prim.Native.Nat.{ℕ, ◌+◌, ◌≤◌, ◌<◌}
use native.Mathlib.Omega.{arith}
use lib.ListN.{length, get_or, take, length-map}
use lib.Seq.{ext_get_or, length-take-le, get_or-take}
use Rattle.lemmas.proofs.Lists.{get_d_map}
use Rattle.lemmas.proofs.Numbers.{true_or_false}
use Rattle.state.specs.Counted.{Kind}
use Rattle.graph.specs.Table.{Table, table_of, keys_of, rank, stored}
use Rattle.graph.specs.Sightings.{Rule, windows}
use Rattle.graph.specs.Adding.{added}
use Rattle.graph.proofs.Rank.{stored_lt, stored_at}
use Rattle.graph.proofs.Store.{Sound}
use Rattle.graph.proofs.Sight.{word_of}
use Rattle.graph.proofs.Adding.{added_keys, added_sound}
use Rattle.graph.proofs.Accepted.{fit_room, fit_length, fit_sound}
use Rattle.table.specs.Join.{rising, put_in}
use Rattle.sorting.specs.Rows.{Row}
use Rattle.adding.specs.Batch.{has_key, tally, tally_rows, new_rows, sorted_new, Grouped, Raised}
use Rattle.adding.specs.Says.{Addable}
use Rattle.adding.proofs.Stability.{has_sort, tally_sort}
use Rattle.adding.proofs.Fresh.{rows_numbered, rows_tally, rows_stored, rows_new, rows_count, rows_few}
use Rattle.graph.proofs.Alike.{same_keys, same_words}
use Rattle.adding.proofs.Joined.{places_of, keys_in, words_in, keys_stored, keys_fit, in_length, words_at, places_rise}
use Rattle.adding.proofs.Words.{added_word}

-- The first cells of a slice are a function of some values.
cells_map : (f : ℕ → ℕ) (s xs : List ℕ) (u : ℕ) → length xs ≡ u → u ≤ length s → ((i : ℕ) → i < u → get_or s i 0 ≡ f (get_or xs i 0))
    → take u s ≡ map f xs
cells_map f s xs u l h e =
    ext_get_or 0 (take u s) (map f xs) (length-take-le u s h ∙ sym (length-map xs f ∙ l))
    (λ i b.
    let d : i < u = omega (arith, length-take-le u s h) in
    get_or-take u s i 0 d ∙ e i d ∙ sym (get_d_map f xs i (omega arith)))

-- The table with the label added, by what was found of its windows.
pub record Batched (κ : Kind) (rule : Rule) (K : ℕ) (label : List ℕ) (n : ℕ) (keys counts : List ℕ) (u : ℕ) (new-keys new-places new-counts counts' : List ℕ) : Type 0 where
  pub keys_in : (added κ rule K label (table_of n keys counts)).keys
      ≡ put_in (take u new-places) (keys_of u new-keys) (keys_of n keys)
  pub counts_in : (added κ rule K label (table_of n keys counts)).counts
      ≡ put_in (take u new-places) (take u new-counts) (take n counts')
  pub rises : rising n 0 (take u new-places) ≡ true

module _ {κ : Kind} {rule : Rule} {K : ℕ} {label : List ℕ} {n : ℕ} {keys counts : List ℕ} (a : Addable K label n keys counts)
    {u : ℕ} {new-keys new-places new-counts : List ℕ}
    (g : Grouped κ rule K label (keys_of n keys) (sorted_new K label (keys_of n keys)) u new-keys new-places new-counts) where
  abbrev ks : List ℕ
  ks = keys_of n keys

  abbrev xs : List ℕ
  xs = keys_of u new-keys

  abbrev t : Table
  t = table_of n keys counts

  abbrev after : Table
  after = added κ rule K label t

  abbrev fresh : List Row
  fresh = new_rows K label ks (windows K label)

  -- A new k-mer's word.
  abbrev word : ℕ → ℕ
  word y = tally_rows κ rule K label y (sorted_new K label ks) 0

  sound : Sound K t
  sound = fit_sound K n keys counts a.fits

  long : length ks ≡ n
  long = fit_length K n keys counts a.fits

  has_new : (y : ℕ) → stored xs y ≡ has_key y fresh
  has_new y = g.same y ∙ has_sort y fresh

  none_stored : (y : ℕ) → stored xs y ≡ true → stored ks y ≡ false
  none_stored y s = rows_new K label ks y (windows K label) (sym (has_new y) ∙ s)

  after_sound : Sound K after
  after_sound = added_sound κ rule K label t (inr a.given.bases) sound

  keys_are : after.keys ≡ keys_in ks xs
  keys_are =
      same_keys K 0 0 after.keys (keys_in ks xs) after_sound.fits (keys_fit ks K sound.fits 0 xs g.fits none_stored) (λ y.
      ap (λ (l : List ℕ). stored l y) (added_keys κ rule K label t)
      ∙ rows_stored K label ks y t refl (windows K label)
      ∙ sym (keys_stored ks K 0 xs y g.fits ∙ ap (λ (b : Bool). stored ks y || b) (has_new y)))

  -- All of them are stored besides those that were.
  pub batch_number : length after.keys ≡ n + u
  batch_number = ap length keys_are ∙ in_length ks xs xs ks refl refl ∙ ap₂ ◌+◌ long g.number

  -- They are no more than the windows.
  pub batch_few : u ≤ windows K label
  batch_few =
      omega (
        arith,
        batch_number,
        long,
        rows_count K label ks t refl (windows K label),
        rows_few K label ks (windows K label),
        ap length (added_keys κ rule K label t),
      )

  module _ (room_places : u ≤ length new-places) (room_counts : u ≤ length new-counts)
      {counts' : List ℕ} (r : Raised κ rule K label ks (windows K label) counts counts') where
    places_are : take u new-places ≡ places_of ks xs
    places_are = cells_map (rank ks) new-places xs u g.number room_places g.placed

    words_are : take u new-counts ≡ map word xs
    words_are = cells_map word new-counts xs u g.number room_counts g.tallied

    room : length (take n counts') ≡ length ks
    room = length-take-le n counts' (omega (arith, r.long, fit_room K n keys counts a.fits)) ∙ sym long

    -- A stored k-mer's word is the one that it had, with its windows counted.
    known_word : (y : ℕ) → stored ks y ≡ true → get_or (take n counts') (rank ks y) 0 ≡ tally κ rule K label y (windows K label) (word_of t y)
    known_word y s =
        let i : ℕ = rank ks y in
        let l : i < length ks = stored_lt ks y s in
        let h : i < n = omega (arith, long) in
        get_or-take n counts' i 0 h ∙ r.tallied i l ∙ rw (stored_at ks y s, get_or-take n counts i 0 h)

    -- A new one's, from no counts.
    new_word : (y : ℕ) → stored ks y ≡ false → word y ≡ tally κ rule K label y (windows K label) 0
    new_word y n = tally_sort κ rule K label y fresh 0 (rows_numbered K label ks (windows K label)) ∙ rows_tally K label ks y κ rule (windows K label) 0 n

    same_word : (y : ℕ) → stored after.keys y ≡ true
        → word_of after y ≡ get_or (words_in ks word (take n counts') xs) (rank after.keys y) 0
    same_word y s =
        let p : stored (keys_in ks xs) y ≡ true = rw keys_are at s in
        added_word κ rule K label a.given.bases t sound y s
        ∙ ⊎_elim
        (λ (e : stored ks y ≡ true). rw e (sym (known_word y e)))
        (λ (e : stored ks y ≡ false). rw e (sym (new_word y e)))
        (true_or_false (stored ks y))
        ∙ sym (words_at ks K word (take n counts') room 0 xs y g.fits none_stored p)
        ∙ ap (λ (l : List ℕ). get_or (words_in ks word (take n counts') xs) (rank l y) 0) (sym keys_are)

    counts_are : after.counts ≡ words_in ks word (take n counts') xs
    counts_are =
        same_words K after.keys after_sound.fits after.counts (words_in ks word (take n counts') xs) after_sound.sizes
        (in_length ks xs (map word xs) (take n counts') (length-map xs word) room ∙ sym (ap length keys_are ∙ in_length ks xs xs ks refl refl))
        same_word

    pub batch : Batched κ rule K label n keys counts u new-keys new-places new-counts counts'
    batch = record {
      keys_in = rw places_are keys_are;
      counts_in = rw (places_are, words_are) counts_are;
      rises = rw (places_are, rw long at (places_rise ks K 0 0 xs g.fits (λ y l. omega arith)));
    }
