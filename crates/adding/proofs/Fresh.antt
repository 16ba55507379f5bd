-- The rows of the windows whose k-mers are not stored: what each row has, and what they say of a k-mer. Assumes nothing.
use mathlib.Core.Path.{◌≡◌, refl, sym, ap, ◌∙◌}
use mathlib.Core.Bool.{Bool, true, false, cond, ◌||◌, or-false, or_assoc, false≢true}
use mathlib.Core.List.{List, [], ◌∷◌, ◌++◌, append-nil}
use Prim.Native.Nat.{ℕ, zero, suc, ◌+◌, ◌<◌, ◌≤◌}
use native.Mathlib.Omega.{arith}
use lib.Dec.{eqb}
use lib.ListN.{length, length-append}
use borrow.Author.Tests.{eqb-true, ne_eqb, not-true, not-false}
use Rattle.state.specs.Counted.{Kind}
use Rattle.lemmas.proofs.Tests.{choose, never}
use Rattle.graph.specs.Table.{Table, stored, store}
use Rattle.graph.specs.Sightings.{Rule}
use Rattle.graph.specs.Adding.{store_windows}
use Rattle.graph.proofs.Store.{store_there, store_length}
use Rattle.graph.proofs.Adding.{store_or}
use Rattle.sorting.specs.Rows.{Row}
use Rattle.adding.specs.Batch.{kmer_at, code_at, counted_by, is_new, has_key, tally, tally_rows, new_rows}
use Rattle.adding.proofs.Each.{Each, each_weaker, each_append}
use Rattle.adding.proofs.Tallies.{or_absorbs, has_append, has_snoc, tally_append}
use Rattle.adding.proofs.Stability.{Numbered}

-- A row of one of the first m windows, which is new.
pub record Fresh (K : ℕ) (label ks : List ℕ) (m : ℕ) (r : Row) : Type 0 where
  pub below : r.number < m
  pub kmer : r.key ≡ kmer_at K label r.number
  pub new : is_new K label ks r.number ≡ true

numbered_append : (rs : List Row) (s : Row) → Numbered rs → Each (λ r. r.number < s.number) rs → Numbered (rs ++ (s ∷ []))
numbered_append [] s n b = (tt, tt)
numbered_append (r ∷ rs) s n b =
    (each_append (λ t. r.number < t.number) rs (s ∷ []) n.0 (b.0, tt), numbered_append rs s n.1 b.1)

has_new : (K : ℕ) (label ks : List ℕ) (m y : ℕ) (rs : List Row) → Each (Fresh K label ks m) rs → has_key y rs ≡ true → stored ks y ≡ false
unfolding has_key
has_new K label ks m y [] f h = absurd (false≢true h)
has_new K label ks m y (r ∷ rs) f h = go (eqb r.key y) refl h (has_new K label ks m y rs f.1)
  where
    go : (b : Bool) → eqb r.key y ≡ b → (b || has_key y rs) ≡ true → (has_key y rs ≡ true → stored ks y ≡ false) → stored ks y ≡ false
    go true e q ih =
        ap (stored ks) (sym (eqb-true r.key y e) ∙ f.0.kmer) ∙ not-true (stored ks (kmer_at K label r.number)) f.0.new
    go false e q ih = ih q

module _ (K : ℕ) (label ks : List ℕ) where
  pub rows_fresh : (m : ℕ) → Each (Fresh K label ks m) (new_rows K label ks m)
  unfolding new_rows
  rows_fresh zero = tt
  rows_fresh (suc m) =
      let more = each_weaker (Fresh K label ks m) (Fresh K label ks (suc m))
      (λ r f. record { below = omega (arith, f.below); kmer = f.kmer; new = f.new }) (new_rows K label ks m) (rows_fresh m) in
      each_append (Fresh K label ks (suc m)) (new_rows K label ks m) _ more
      (choose (Each (Fresh K label ks (suc m))) (is_new K label ks m)
      (λ n. (record { below = omega arith; kmer = refl; new = n }, tt)) (λ _. tt))

  pub rows_numbered : (m : ℕ) → Numbered (new_rows K label ks m)
  unfolding new_rows
  rows_numbered zero = tt
  rows_numbered (suc m) =
      let ih = rows_numbered m in
      let old : List Row = new_rows K label ks m in
      choose (λ (l : List Row). Numbered (old ++ l)) (is_new K label ks m)
      (λ _. numbered_append old (record { key = kmer_at K label m; number = m }) ih
      (each_weaker (Fresh K label ks m) (λ r. r.number < m) (λ r f. f.below) old (rows_fresh m)))
      (λ _. rw (append-nil old) ih)

  pub rows_few : (m : ℕ) → length (new_rows K label ks m) ≤ m
  unfolding new_rows
  rows_few zero = omega arith
  rows_few (suc m) =
      let ih = rows_few m in
      let old : List Row = new_rows K label ks m in
      choose (λ (l : List Row). length (old ++ l) ≤ suc m) (is_new K label ks m)
      (λ _. simp length-append (omega arith)) (λ _. simp length-append (omega arith))

  module _ (y : ℕ) where
    -- A k-mer that is not stored has all its windows among the rows.
    pub rows_tally : (κ : Kind) (rule : Rule) (m w : ℕ) → stored ks y ≡ false → tally_rows κ rule K label y (new_rows K label ks m) w ≡ tally κ rule K label y m w
    unfolding new_rows tally tally_rows
    rows_tally κ rule zero w n = refl
    rows_tally κ rule (suc m) w n =
        let x : ℕ = kmer_at K label m in
        let old : List Row = new_rows K label ks m in
        let ih = rows_tally κ rule m w n in
        choose (λ (l : List Row). tally_rows κ rule K label y (old ++ l) w ≡ tally κ rule K label y (suc m) w) (is_new K label ks m)
        (λ _. tally_append κ rule K label y old (record { key = x; number = m } ∷ []) w
        ∙ ap (λ (v : ℕ). cond (eqb x y) (counted_by κ (code_at rule K label m) v) v) ih)
        (λ e.
        let q : eqb x y ≡ false = ne_eqb x y (λ d. never (stored ks y) (ap (stored ks) (sym d) ∙ not-false (stored ks x) e) n) in
        rw q (tally_append κ rule K label y old [] w ∙ ih))

    -- With the windows stored, y is stored if it was or is among the rows.
    pub rows_stored : (t : Table) → t.keys ≡ ks → (m : ℕ)
        → stored (store_windows K label t m).keys y ≡ (stored ks y || has_key y (new_rows K label ks m))
    unfolding store_windows new_rows has_key
    rows_stored t e zero = ap (λ (l : List ℕ). stored l y) e ∙ sym (or-false (stored ks y))
    rows_stored t e (suc m) =
        let x : ℕ = kmer_at K label m in
        let old : List Row = new_rows K label ks m in
        store_or (store_windows K label t m) x y ∙ ap (λ (b : Bool). b || eqb x y) (rows_stored t e m)
        ∙ choose (λ (l : List Row). ((stored ks y || has_key y old) || eqb x y) ≡ (stored ks y || has_key y (old ++ l))) (is_new K label ks m)
        (λ _. or_assoc (stored ks y) (has_key y old) (eqb x y)
        ∙ ap (λ (b : Bool). stored ks y || b)
        (sym (has_snoc y old (record { key = x; number = m }))))
        (λ n. or_absorbs (stored ks y || has_key y old) (eqb x y)
        (λ q. ap (λ (b : Bool). b || has_key y old) (ap (stored ks) (sym (eqb-true x y q)) ∙ not-false (stored ks x) n))
        ∙ ap (λ (b : Bool). stored ks y || b) (sym (has_append y old [] ∙ or-false (has_key y old))))

    -- None of the rows' k-mers is stored.
    pub rows_new : (m : ℕ) → has_key y (new_rows K label ks m) ≡ true → stored ks y ≡ false
    rows_new m h = has_new K label ks m y (new_rows K label ks m) (rows_fresh m) h

  -- Storing the windows adds no more k-mers than there are rows.
  pub rows_count : (t : Table) → t.keys ≡ ks → (m : ℕ) → length (store_windows K label t m).keys ≤ length ks + length (new_rows K label ks m)
  unfolding store_windows new_rows
  rows_count t e zero = omega (arith, ap length e)
  rows_count t e (suc m) =
      let u : Table = store_windows K label t m in
      let x : ℕ = kmer_at K label m in
      let old : List Row = new_rows K label ks m in
      let ih = rows_count t e m in
      let most : length (store u x).keys ≤ suc (length u.keys) =
      rw (store_length u x) (choose (λ (i : ℕ). i ≤ suc (length u.keys)) (stored u.keys x) (λ _. omega arith) (λ _. omega arith)) in
      choose (λ (l : List Row). length (store u x).keys ≤ length ks + length (old ++ l)) (is_new K label ks m)
      (λ _. simp length-append (omega arith))
      (λ n.
      let s : stored u.keys x ≡ true = rows_stored x t e m ∙ rw (not-false (stored ks x) n) in
      rw (store_there u x s, append-nil old) ih)
