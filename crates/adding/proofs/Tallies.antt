-- The k-mers and the counters that rows give, with others behind them. Assumes nothing.
use mathlib.Core.Path.{◌≡◌, refl, sym, ap, ◌∙◌}
use mathlib.Core.Bool.{Bool, true, false, cond, ◌||◌, or-false, or_assoc}
use mathlib.Core.List.{List, [], ◌∷◌, ◌++◌}
use Prim.Native.Nat.{ℕ, ◌+◌, ◌/◌, ◌%◌}
use native.Mathlib.Omega.{arith}
use lib.Dec.{eqb}
use borrow.Author.Tests.{eq-eqb, ne_eqb}
use Rattle.lemmas.proofs.Tests.{or_first, or_second}
use Rattle.state.specs.Counted.{Kind}
use Rattle.graph.specs.Sightings.{Rule}
use Rattle.sorting.specs.Rows.{Row}
use Rattle.adding.specs.Batch.{counted_by, has_key, code_at, tally_rows}

-- A test that holds only where the first does adds nothing.
pub or_absorbs : (a b : Bool) → (b ≡ true → a ≡ true) → (a || b) ≡ a
or_absorbs a true h = rw (h refl)
or_absorbs a false h = or-false a

pub has_append : (y : ℕ) (rs ss : List Row) → has_key y (rs ++ ss) ≡ (has_key y rs || has_key y ss)
unfolding has_key
has_append y [] ss = refl
has_append y (r ∷ rs) ss =
    ap (λ (b : Bool). eqb r.key y || b) (has_append y rs ss) ∙ sym (or_assoc (eqb r.key y) (has_key y rs) (has_key y ss))

pub has_snoc : (y : ℕ) (rs : List Row) (r : Row) → has_key y (rs ++ (r ∷ [])) ≡ (has_key y rs || eqb r.key y)
unfolding has_key
has_snoc y rs r = has_append y rs (r ∷ []) ∙ ap (λ (b : Bool). has_key y rs || b) (or-false (eqb r.key y))

-- The bit above the two neighbours is not counted.
pub marked_counts : (κ : Kind) (c w : ℕ) → counted_by κ (c + 64) w ≡ counted_by κ c w
marked_counts κ c w =
    let f : (c + 64) % 8 ≡ c % 8 = omega arith in
    let e : (c + 64) / 8 ≡ c / 8 + 8 = omega arith in
    rw (f, e, round (c / 8))
  where
    round : (n : ℕ) → (n + 8) % 8 ≡ n % 8
    round n = omega arith

module _ (κ : Kind) (rule : Rule) (K : ℕ) (label : List ℕ) where
  pub tally_append : (y : ℕ) (rs ss : List Row) (w : ℕ) → tally_rows κ rule K label y (rs ++ ss) w ≡ tally_rows κ rule K label y ss (tally_rows κ rule K label y rs w)
  unfolding tally_rows
  tally_append y [] ss w = refl
  tally_append y (r ∷ rs) ss w = tally_append y rs ss (cond (eqb r.key y) (counted_by κ (code_at rule K label r.number) w) w)

  module _ (y : ℕ) (rs : List Row) (r : Row) (w : ℕ) where
    pub row_counted : r.key ≡ y → tally_rows κ rule K label y (rs ++ (r ∷ [])) w ≡ counted_by κ (code_at rule K label r.number) (tally_rows κ rule K label y rs w)
    unfolding tally_rows
    row_counted e = tally_append y rs (r ∷ []) w ∙ rw (eq-eqb r.key y e)

    pub row_passed : (r.key ≡ y → ⊥) → tally_rows κ rule K label y (rs ++ (r ∷ [])) w ≡ tally_rows κ rule K label y rs w
    unfolding tally_rows
    row_passed n = tally_append y rs (r ∷ []) w ∙ rw (ne_eqb r.key y n)

  -- Rows of other k-mers count nothing.
  pub tally_none : (y : ℕ) (rs : List Row) (w : ℕ) → has_key y rs ≡ false → tally_rows κ rule K label y rs w ≡ w
  unfolding tally_rows has_key
  tally_none y [] w h = refl
  tally_none y (p ∷ rs) w h =
      rw (or_first (eqb p.key y) (has_key y rs) h) (tally_none y rs w (or_second (eqb p.key y) (has_key y rs) h))
