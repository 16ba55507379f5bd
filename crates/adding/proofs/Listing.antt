-- The rows of new windows, gathered and then sorted: what the slices hold, as grouping them asks. Assumes nothing.
use mathlib.Core.Path.{◌≡◌, refl, sym, ap, ◌∙◌}
use mathlib.Core.Bool.{Bool, true, cond}
use mathlib.Core.Logic.{inr}
use mathlib.Core.List.{List, [], ◌∷◌, ◌++◌, map}
use Prim.Native.Nat.{ℕ, zero, suc, ◌+◌, ◌/◌, ◌≤◌, ◌<◌}
use native.Mathlib.Omega.{arith}
use lib.ListN.{length, get_or, drop}
use borrow.Author.Tests.{le-leb}
use Rattle.dna.specs.Text.{over}
use Rattle.kmer.specs.Kmer.{low, high, joined}
use Rattle.state.specs.Counted.{Kind}
use Rattle.graph.specs.Table.{words_of, rank}
use Rattle.graph.specs.Sightings.{Rule, windows}
use Rattle.graph.proofs.Lookup.{Key}
use Rattle.graph.proofs.Adding.{window_key}
use Rattle.sorting.proofs.Ordered.{sort_length}
use Rattle.sorting.specs.Rows.{Row, comes_first, key_at, row_at, rows, has_rows, Sorts}
use Rattle.sorting.proofs.Columns.{rows_at}
use Rattle.adding.specs.Batch.{code_at, new_rows, sorted_new, Gathers, Grouped}
use Rattle.adding.specs.Says.{Given, Rowed, Listed}
use Rattle.adding.proofs.Each.{each_at, each_sort}
use Rattle.adding.proofs.Stability.{Ordered, sort_ordered}
use Rattle.adding.proofs.Fresh.{Fresh, rows_fresh, rows_few}
use Rattle.adding.proofs.Coding.{new_coded}

-- ---- rows of two slices

-- The rows of some rows' words and numbers are those rows.
rows_words : (rs : List Row) (a b : List ℕ)
    → rows (length rs) (words_of (map (λ (p : Row). p.key) rs) ++ a) (map (λ (p : Row). p.number) rs ++ b) ≡ rs
unfolding rows words_of
rows_words [] a b = refl
rows_words (r ∷ rs) a b =
    let e : joined (low r.key) (high r.key) ≡ r.key = omega arith in
    rw e (ap (λ (l : List Row). r ∷ l) (rows_words rs a b))

ordered_at : (z : Row) (rs : List Row) → Ordered rs → (i j : ℕ) → i ≤ j → j < length rs
    → (get_or rs i z).key ≤ (get_or rs j z).key
ordered_at z [] o i j h l = absurd (omega arith)
ordered_at z (r ∷ rs) o zero zero h l = omega arith
ordered_at z (r ∷ rs) o zero (suc j) h l = each_at (λ s. r.key ≤ s.key) z rs o.0 j (omega arith)
ordered_at z (r ∷ rs) o (suc i) zero h l = absurd (omega arith)
ordered_at z (r ∷ rs) o (suc i) (suc j) h l = ordered_at z rs o.1 i j (omega arith) (omega arith)

-- ---- gathered and sorted

module _ {rule : Rule} {K : ℕ} {label ks : List ℕ} {q : ℕ} {notes places keys₀ offsets₀ : List ℕ}
    (given : Given K label)
    (g : Gathers rule K label ks (windows K label) q notes places keys₀ offsets₀)
    (room_keys : windows K label ≤ length keys₀ / 2) (room_offsets : windows K label ≤ length offsets₀)
    {r : Bool} {keys offsets : List ℕ} (s : Sorts r keys₀ offsets₀ q keys offsets)
    (long_keys : length keys ≡ length keys₀) (long_offsets : length offsets ≡ length offsets₀) where
  abbrev rs : List Row
  rs = sorted_new K label ks

  many : length rs ≡ q
  many = sort_length comes_first (new_rows K label ks (windows K label)) ∙ sym g.number

  -- There are no more than windows.
  few : q ≤ windows K label
  few = omega (arith, g.number, rows_few K label ks (windows K label))

  has : has_rows q keys₀ offsets₀ ≡ true
  has = rw (le-leb q (length keys₀ / 2) (omega (arith, few)), le-leb q (length offsets₀) (omega (arith, few)))

  sorted_rows_lem : rows q keys offsets ≡ rs
  sorted_rows_lem =
      let k : keys ≡ over (words_of (map (λ (p : Row). p.key) rs)) keys₀ = rw (has, g.new) at s.keys_after in
      let o : offsets ≡ over (map (λ (p : Row). p.number) rs) offsets₀ = rw (has, g.new) at s.numbers_after in
      rw (k, o, ← many) (rows_words rs (drop (length (words_of (map (λ (p : Row). p.key) rs))) keys₀)
      (drop (length (map (λ (p : Row). p.number) rs)) offsets₀))

  keys_there : q ≤ length keys / 2
  keys_there = rw long_keys (omega (arith, few))

  offsets_there : q ≤ length offsets
  offsets_there = rw long_offsets (omega (arith, few))

  abbrev none : Row
  none = record { key = 0; number = 0 }

  row_is : (i : ℕ) → i < q → get_or rs i none ≡ row_at keys offsets i
  row_is i h = ap (λ (l : List Row). get_or l i none) (sym sorted_rows_lem) ∙ rows_at none q keys offsets keys_there offsets_there i h

  -- Each row is a new window's.
  row_fresh : (i : ℕ) → i < q → Fresh K label ks (windows K label) (row_at keys offsets i)
  row_fresh i h =
      let each = each_sort (Fresh K label ks (windows K label)) comes_first (new_rows K label ks (windows K label))
      (rows_fresh K label ks (windows K label)) in
      rw (row_is i h) at (each_at (Fresh K label ks (windows K label)) none rs each i (omega (arith, many)))

  row_key : (i : ℕ) → i < q → Key K (key_at keys i)
  row_key i h =
      let f = row_fresh i h in
      rw f.kmer (window_key K label (get_or offsets i 0) (inr given.bases) f.below)

  listed : Listed rule K label ks q notes places offsets keys
  listed = record {
    ascends = λ i j h l.
        let a : (get_or rs i none).key ≡ key_at keys i = ap (λ (p : Row). p.key) (row_is i (omega arith)) in
        let b : (get_or rs j none).key ≡ key_at keys j = ap (λ (p : Row). p.key) (row_is j l) in
        rw (a, b) at (ordered_at none rs (sort_ordered (new_rows K label ks (windows K label))) i j h (omega (arith, many)));
    below = λ i h. (row_key i h).below;
    canonical = λ i h. (row_key i h).canonical;
    noted = λ i h.
        let f = row_fresh i h in
        g.looked.noted (get_or offsets i 0) f.below
        ∙ ap (λ (b : Bool). code_at rule K label (get_or offsets i 0) + cond b 64 0) f.new;
    placed = λ i h. let f = row_fresh i h in g.looked.placed (get_or offsets i 0) f.below ∙ ap (rank ks) (sym f.kmer);
  }

  pub rowed : {room : ℕ} → windows K label ≤ room → Rowed room q notes offsets
  rowed enough = record {
    few = omega (arith, few);
    there = λ i h. let l = (row_fresh i h).below in omega arith;
    coded = λ i h.
        let l = (row_fresh i h).below in
        rw (listed.noted i h) (new_coded rule K label given.bases (get_or offsets i 0) (omega arith));
  }

  -- So the vertices made of the rows are those of the new rows in order.
  pub sorted_grouped : {κ : Kind} {u : ℕ} {new-keys new-places new-counts : List ℕ}
      → (Listed rule K label ks q notes places offsets keys → Grouped κ rule K label ks (rows q keys offsets) u new-keys new-places new-counts)
      → Grouped κ rule K label ks rs u new-keys new-places new-counts
  sorted_grouped made = rw sorted_rows_lem at (made listed)
