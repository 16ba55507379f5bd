-- Vertices made of rows, and of one row more: of the last vertex's k-mer, or of a new one above all. Assumes nothing.
use mathlib.Core.Path.{◌≡◌, refl, sym, ap, ◌∙◌}
use mathlib.Core.Bool.{Bool, true, false, ◌||◌}
use mathlib.Core.Logic.{⊎_elim}
use mathlib.Core.List.{List, [], ◌∷◌, ◌++◌}
use Prim.Native.Nat.{ℕ, ◌+◌, ◌-◌, ◌/◌, ◌^◌, ◌≤◌, ◌<◌}
use native.Mathlib.Omega.{arith}
use lib.Dec.{eqb}
use lib.ListN.{length, get_or, set, length-append, get_or-append}
use lib.Seq.{get_or-set_same, get_or-set_other, get_or_at}
use borrow.Author.Tests.{eqb-true, eqb-false}
use Rattle.state.specs.Counted.{Kind}
use Rattle.lemmas.proofs.Numbers.{true_or_false}
use Rattle.lemmas.proofs.Tests.{never}
use Rattle.kmer.specs.Kmer.{is_canon}
use Rattle.graph.specs.Sightings.{Rule}
use Rattle.graph.specs.Table.{keys_of, rank, stored}
use Rattle.graph.proofs.Lookup.{at_stored, key_inj}
use Rattle.table.proofs.Keys.{key_is}
use Rattle.sorting.specs.Rows.{Row, key_at}
use Rattle.adding.specs.Batch.{counted_by, has_key, code_at, tally_rows, Grouped}
use Rattle.adding.specs.Says.{put_key}
use Rattle.adding.proofs.Rowing.{set_more, keys_put}
use Rattle.adding.proofs.Above.{above_new, above_fit, above_stored}
use Rattle.adding.proofs.Tallies.{or_absorbs, has_snoc, marked_counts, row_counted, row_passed, tally_none}

-- One row more, with the note of its window.
module _ (κ : Kind) (rule : Rule) (K : ℕ) (label ks : List ℕ) (rs : List Row) (r : Row) (u : ℕ)
    (keys places counts : List ℕ)
    (g : Grouped κ rule K label ks rs u keys places counts) {note : ℕ} (en : note ≡ code_at rule K label r.number + 64) where
  abbrev kk : List ℕ
  kk = keys_of u keys

  counts_note : (w : ℕ) → counted_by κ note w ≡ counted_by κ (code_at rule K label r.number) w
  counts_note w = rw en (marked_counts κ (code_at rule K label r.number) w)

  -- Of the last vertex's k-mer.
  module _ (some : 0 < u) (last : key_at keys (u - 1) ≡ r.key) (lk : u ≤ length keys / 2) (lc : u ≤ length counts) where
    at : get_or kk (u - 1) 0 ≡ r.key
    at = key_is u keys (u - 1) (omega arith) (omega arith) ∙ last

    end_lt : u - 1 < length kk
    end_lt = omega (arith, g.number)

    same_keys : (y : ℕ) → stored kk y ≡ has_key y (rs ++ (r ∷ []))
    same_keys y =
        g.same y
        ∙ sym (has_snoc y rs r ∙ or_absorbs (has_key y rs) (eqb r.key y)
        (λ q. sym (g.same y) ∙ ap (stored kk) (sym (at ∙ eqb-true r.key y q)) ∙ at_stored K kk g.fits (u - 1) end_lt))

    same_tallies : {w : ℕ} → w ≡ counted_by κ note (get_or counts (u - 1) 0) → (i : ℕ) → i < u
        → get_or (set counts (u - 1) w) i 0 ≡ tally_rows κ rule K label (get_or kk i 0) (rs ++ (r ∷ [])) 0
    same_tallies {w} ew i b =
        ⊎_elim
        (λ s.
        let z : i ≡ u - 1 = eqb-true i (u - 1) s in
        rw z
        (get_or-set_same counts (u - 1) w 0 (omega arith) ∙ ew ∙ counts_note (get_or counts (u - 1) 0)
        ∙ ap (counted_by κ (code_at rule K label r.number)) (g.tallied (u - 1) (omega arith))
        ∙ sym (row_counted κ rule K label (get_or kk (u - 1) 0) rs r 0 (sym at))))
        (λ s.
        let n : i ≡ u - 1 → ⊥ = eqb-false i (u - 1) s in
        get_or-set_other counts (u - 1) i w 0 n ∙ g.tallied i b
        ∙ sym (row_passed κ rule K label (get_or kk i 0) rs r 0
        (λ q. n (key_inj K kk g.fits i (u - 1) (omega (arith, g.number)) end_lt (sym q ∙ sym at)))))
        (true_or_false (eqb i (u - 1)))

    pub grouped_same : {w : ℕ} → w ≡ counted_by κ note (get_or counts (u - 1) 0)
        → Grouped κ rule K label ks (rs ++ (r ∷ [])) u keys places (set counts (u - 1) w)
    grouped_same ew = record {
      number = g.number;
      fits = g.fits;
      same = same_keys;
      placed = g.placed;
      tallied = same_tallies ew;
    }

  -- Of a k-mer above all so far.
  module _ (higher : 0 < u → key_at keys (u - 1) < r.key) (below : r.key < 4 ^ K) (canonical : is_canon K r.key ≡ true)
      (lk : u < length keys / 2) (lp : u < length places) (lc : u < length counts) where
    abbrev all : List ℕ
    all = keys_of (u + 1) (put_key keys u r.key)

    all_is : all ≡ kk ++ (r.key ∷ [])
    all_is = keys_put keys u r.key lk

    above : 0 < length kk → get_or kk (length kk - 1) 0 < r.key
    above =
        rw g.number (λ s.
        let k : get_or kk (u - 1) 0 ≡ key_at keys (u - 1) = key_is u keys (u - 1) (omega arith) (omega arith) in
        omega (arith, higher s))

    kept_key : (i : ℕ) → i < u → get_or all i 0 ≡ get_or kk i 0
    kept_key i b = rw all_is (get_or-append kk (r.key ∷ []) 0 i (omega (arith, g.number)))

    new_key : get_or all u 0 ≡ r.key
    new_key = rw all_is (get_or_at kk r.key [] 0 u g.number)

    new : stored kk r.key ≡ false
    new = above_new K kk r.key g.fits above

    new_tallies : {w : ℕ} → w ≡ counted_by κ note 0 → (i : ℕ) → i < u + 1
        → get_or (set counts u w) i 0 ≡ tally_rows κ rule K label (get_or all i 0) (rs ++ (r ∷ [])) 0
    new_tallies {w} ew =
        set_more counts (λ j. tally_rows κ rule K label (get_or all j 0) (rs ++ (r ∷ [])) 0) u w lc
        (λ i b.
        g.tallied i b
        ∙ sym (rw (kept_key i b)
        (row_passed κ rule K label (get_or kk i 0) rs r 0
        (λ q. never (stored kk (get_or kk i 0)) (at_stored K kk g.fits i (omega (arith, g.number))) (rw q at new)))))
        (ew ∙ counts_note 0
        ∙ sym (rw new_key
        (row_counted κ rule K label r.key rs r 0 refl
        ∙ ap (counted_by κ (code_at rule K label r.number)) (tally_none κ rule K label r.key rs 0 (sym (g.same r.key) ∙ new)))))

    pub grouped_new : {p w : ℕ} → p ≡ rank ks r.key → w ≡ counted_by κ note 0
        → Grouped κ rule K label ks (rs ++ (r ∷ [])) (u + 1) (put_key keys u r.key) (set places u p) (set counts u w)
    grouped_new {p} ep ew = record {
      number = rw (all_is, length-append) (omega (arith, g.number));
      fits = rw all_is (above_fit K kk r.key g.fits above below canonical);
      same = λ y.
          rw all_is
          (above_stored K kk r.key g.fits above y ∙ ap (λ (b : Bool). b || eqb r.key y) (g.same y) ∙ sym (has_snoc y rs r));
      placed = set_more places (λ j. rank ks (get_or all j 0)) u p lp (λ i b. rw (kept_key i b) (g.placed i b)) (rw new_key ep);
      tallied = new_tallies ew;
    }
