-- Sorted rows made vertices one by one: what the slices hold after some of them. Assumes nothing.
use mathlib.Core.Path.{◌≡◌, refl, ap, ap₂, ◌∙◌}
use mathlib.Core.Bool.{true, false, ◌&&◌}
use mathlib.Core.List.{List, [], ◌∷◌, ◌++◌}
use Prim.Native.Nat.{ℕ, ◌+◌, ◌-◌, ◌*◌, ◌/◌, ◌≤◌, ◌<◌}
use native.Mathlib.Omega.{arith}
use lib.Dec.{ltb, eqb}
use lib.ListN.{length, get_or, set}
use lib.Seq.{get_or-set_same, set-set}
use borrow.Author.Tests.{ltb-true, lt-ltb, eqb-true, eqb-false}
use Rattle.state.specs.Counted.{Kind}
use Rattle.lemmas.proofs.Tests.{both}
use Rattle.kmer.specs.Kmer.{joined}
use Rattle.graph.specs.Sightings.{Rule}
use Rattle.graph.specs.Table.{keys_of}
use Rattle.graph.proofs.Rank.{stored_nil}
use Rattle.graph.proofs.Fit.{fit_nil}
use Rattle.sorting.specs.Rows.{rows, key_at, row_at}
use Rattle.adding.specs.Batch.{counted_by, has_key, Grouped}
use Rattle.adding.specs.Says.{put_key, Listed}
use Rattle.adding.proofs.Rowing.{put_other, put_key_lem, rows_next}
use Rattle.adding.proofs.Vertices.{grouped_same, grouped_new}

-- After t rows; the last vertex is of the last row.
pub record Grouping (κ : Kind) (q : ℕ) (notes places offsets keys₀ : List ℕ) (t u : ℕ)
    (keys new-places counts : List ℕ) : Type 0 where
  pub few : u ≤ t
  pub kept : (i : ℕ) → 2 * t ≤ i → get_or keys i 0 ≡ get_or keys₀ i 0
  pub last : 0 < u → key_at keys (u - 1) ≡ key_at keys₀ (t - 1)
  pub grouped : (rule : Rule) (K : ℕ) (label ks : List ℕ) → Listed rule K label ks q notes places offsets keys₀
      → Grouped κ rule K label ks (rows t keys₀ offsets) u keys new-places counts

module _ {κ : Kind} {q : ℕ} {notes places offsets keys₀ : List ℕ} where
  pub grouping_none : {new-places counts : List ℕ} → Grouping κ q notes places offsets keys₀ 0 0 keys₀ new-places counts
  unfolding keys_of rows has_key
  grouping_none = record {
    few = omega arith;
    kept = λ i h. refl;
    last = λ h. absurd (omega arith);
    grouped = λ rule K label ks l. record {
      number = refl;
      fits = fit_nil K 0;
      same = stored_nil;
      placed = λ i h. absurd (omega arith);
      tallied = λ i h. absurd (omega arith);
    };
  }

  module _ {t u : ℕ} {keys new-places counts : List ℕ}
      (v : Grouping κ q notes places offsets keys₀ t u keys new-places counts) (h : t < q)
      (key_there : t < length keys₀ / 2) (offset_there : t < length offsets)
      {x : ℕ} (ex : x ≡ key_at keys t) where
    here : x ≡ key_at keys₀ t
    here = ex ∙ ap₂ joined (v.kept (2 * t) (omega arith)) (v.kept (2 * t + 1) (omega arith))

    next : rows (t + 1) keys₀ offsets ≡ rows t keys₀ offsets ++ (row_at keys₀ offsets t ∷ [])
    next = rows_next t keys₀ offsets key_there offset_there

    pub grouping_same : ltb 0 u && eqb (key_at keys (u - 1)) x ≡ true
        → {w : ℕ} → w ≡ counted_by κ (get_or notes (get_or offsets t 0) 0) (get_or counts (u - 1) 0)
        → u ≤ length keys / 2 → u ≤ length counts
        → Grouping κ q notes places offsets keys₀ (t + 1) u keys new-places (set counts (u - 1) w)
    grouping_same s {w} ew lk lc =
        let b = both (ltb 0 u) (eqb (key_at keys (u - 1)) x) s in
        let at : key_at keys (u - 1) ≡ key_at keys₀ t = eqb-true (key_at keys (u - 1)) x b.1 ∙ here in
        let back : t + 1 - 1 ≡ t = omega arith in
        record {
          few = omega (arith, v.few);
          kept = λ i a. v.kept i (omega arith);
          last = λ a. rw back at;
          grouped = λ rule K label ks l.
              rw next
              (grouped_same κ rule K label ks (rows t keys₀ offsets) (row_at keys₀ offsets t) u keys new-places counts
              (v.grouped rule K label ks l) (l.noted t h) (ltb-true 0 u b.0) at lk lc ew);
        }

    pub grouping_new : ltb 0 u && eqb (key_at keys (u - 1)) x ≡ false
        → {keys' : List ℕ} → keys' ≡ put_key keys u x
        → {places' : List ℕ} → places' ≡ set new-places u (get_or places (get_or offsets t 0) 0)
        → {counts' : List ℕ} → counts' ≡ set counts u 0
        → {w : ℕ} → w ≡ counted_by κ (get_or notes (get_or offsets t 0) 0) (get_or counts' (u + 1 - 1) 0)
        → u < length keys / 2 → u < length new-places → u < length counts
        → Grouping κ q notes places offsets keys₀ (t + 1) (u + 1) keys' places' (set counts' (u + 1 - 1) w)
    grouping_new s {keys'} ek {places'} ep {counts'} ec {w} ew lk lp lc =
        let back : t + 1 - 1 ≡ t = omega arith in
        let end : u + 1 - 1 ≡ u = omega arith in
        let none : get_or counts' (u + 1 - 1) 0 ≡ 0 = rw (ec, end) (get_or-set_same counts u 0 0 lc) in
        let both : set counts' (u + 1 - 1) w ≡ set counts u w = rw (ec, end, set-set) in
        let differs : 0 < u → eqb (key_at keys (u - 1)) x ≡ false = λ a. rw (lt-ltb 0 u a) at s in
        rw (ep, both)
        (record {
          few = omega (arith, v.few);
          kept = λ i a.
              ap (λ (l : List ℕ). get_or l i 0) ek ∙ put_other keys u x i (omega (arith, v.few))
              ∙ v.kept i (omega arith);
          last = λ a. rw (end, back, ek) (put_key_lem keys u x lk ∙ here);
          grouped = λ rule K label ks l.
              rw (next, ek, here)
              (grouped_new κ rule K label ks (rows t keys₀ offsets) (row_at keys₀ offsets t) u keys new-places counts
              (v.grouped rule K label ks l) (l.noted t h)
              (λ a.
              omega (
                arith,
                v.last a,
                here,
                eqb-false (key_at keys (u - 1)) x (differs a),
                v.few,
                l.ascends (t - 1) t (omega arith) h,
              ))
              (l.below t h) (l.canonical t h) lk lp lc (l.placed t h) (rw none at ew));
        })
