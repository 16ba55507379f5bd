-- The records written so far: none, one more, all. Assumes nothing.
use mathlib.Core.Path.{◌≡◌, refl, sym, ap, ◌∙◌}
use mathlib.Core.Bool.{true}
use mathlib.Core.List.{List, ◌++◌}
use Prim.Native.Nat.{ℕ, ◌+◌, ◌-◌, ◌≤◌, ◌<◌}
use native.Mathlib.Omega.{arith}
use borrow.Rule.Slice.PartMut.{mid_of, put_mid}
use lib.ListN.{length, get_or, take, drop, length-append}
use Rattle.dna.specs.Text.{over}
use Rattle.label_index.specs.Entries.{listed, within}
use Rattle.label_index.proofs.Entries.{within_long, within_at, within_all}
use Rattle.graph.specs.Fasta.{record_of, records_of}
use Rattle.fasta.specs.Sizes.{size_of}
use Rattle.dna.proofs.Overwriting.{length_over}
use Rattle.fasta.proofs.Over.{over_rest}
use Rattle.fasta.proofs.Records.{length_record, length_label, sizes_next, sizes_le, records_next, records_size}

-- The slice has the records of the first i entries, and at is the place behind them.
pub record Listed (labels starts lengths : List ℕ) (count : ℕ) (slice₀ slice : List ℕ) (at i : ℕ) : Type 0 where
  pub inside : within labels count starts lengths ≡ true
  pub there : (count ≤ length starts) × (count ≤ length lengths)
  pub room : size_of count lengths ≤ length slice₀
  pub passed : i ≤ count
  pub place : (at ≡ size_of i lengths) × (at ≤ length slice₀)
  pub cells : slice ≡ over (records_of (listed i labels starts lengths)) slice₀
  pub long : length slice ≡ length slice₀

pub listed_none : (labels starts lengths : List ℕ) (count : ℕ) (slice₀ : List ℕ)
    → within labels count starts lengths ≡ true
    → size_of count lengths ≤ length slice₀ → Listed labels starts lengths count slice₀ slice₀ 0 0
unfolding size_of listed records_of
listed_none labels starts lengths count slice₀ w r =
    record {
      inside = w;
      there = within_long labels count starts lengths w;
      room = r;
      passed = omega arith;
      place = (refl, omega arith);
      cells = refl;
      long = refl;
    }

module _ {labels starts lengths : List ℕ} {count : ℕ} {slice₀ slice : List ℕ} {at i : ℕ}
    (l : Listed labels starts lengths count slice₀ slice at i) where
  -- The text so far ends at the place.
  so_far : length (records_of (listed i labels starts lengths)) ≡ at
  so_far =
      records_size labels i starts lengths
      (within_all labels i starts lengths (omega (arith, l.there.0, l.passed)) (omega (arith, l.there.1, l.passed))
      (λ k h. within_at labels count starts lengths l.inside k (omega (arith, l.passed))))
      ∙ sym l.place.0

  -- All of them.
  pub listed_all : count ≤ i → (at ≡ size_of count lengths)
      × (slice ≡ over (records_of (listed count labels starts lengths)) slice₀)
  listed_all h = let e : count ≡ i = omega (arith, l.passed) in rw e (l.place.0, l.cells)

  -- The next entry lies within the labels, and its record within the slice.
  pub next_fits : i < count → (get_or starts i 0 + get_or lengths i 0 ≤ length labels)
      × (at + (get_or lengths i 0 + 4) ≤ length slice)
  next_fits h = (
    within_at labels count starts lengths l.inside i h,
    omega (
      arith,
      l.long,
      l.place.0,
      l.room,
      sizes_next i lengths (omega (arith, l.there.1)),
      sizes_le (i + 1) count lengths (omega arith),
    ),
  )

  -- One record more: `part` is what came back of the rest of the slice.
  pub listed_more : i < count → (start end size : ℕ) (part : List ℕ) → start ≡ get_or starts i 0
      → end - start ≡ get_or lengths i 0
      → size ≡ length (take (end - start) (drop start labels)) + 4
      → part ≡ over (record_of (take (end - start) (drop start labels))) (mid_of at (length slice - at) slice)
      → Listed labels starts lengths count slice₀ (put_mid at (length slice - at) slice part) (at + size) (i + 1)
  listed_more h start end size part es en r p =
      let label = take (end - start) (drop start labels) in
      let n : length label ≡ get_or lengths i 0 = length_label labels start (end - start)
      (omega (arith, (next_fits h).0)) ∙ en in
      let c : put_mid at (length slice - at) slice part
      ≡ over (records_of (listed i labels starts lengths) ++ record_of label) slice₀ =
      over_rest (records_of (listed i labels starts lengths)) (record_of label) slice₀ slice part at (sym so_far)
      (omega (arith, so_far, l.place.1)) l.cells
      p in
      let m : length (records_of (listed i labels starts lengths) ++ record_of label) ≤ length slice₀ =
      omega (
        arith,
        length-append (records_of (listed i labels starts lengths))
            (record_of label),
        length_record label,
        so_far,
        l.long,
        (next_fits h).1,
      ) in
      record {
        inside = l.inside;
        there = l.there;
        room = l.room;
        passed = omega arith;
        place = (
          omega (arith, l.place.0, sizes_next i lengths (omega (arith, l.there.1))),
          omega
              (arith, l.long, (next_fits h).1),
        );
        cells = c ∙ rw (
          records_next labels i starts lengths (omega (arith, l.there.0))
              (omega (arith, l.there.1)),
          en,
          es,
        );
        long = ap length c ∙ length_over (records_of (listed i labels starts lengths) ++ record_of label) slice₀ m;
      }
