-- Rows sorted by k-mer keep the order of each k-mer's own rows, so each k-mer's counters are the same. Assumes nothing.
use mathlib.Core.Path.{◌≡◌, refl, ap, ◌∙◌}
use mathlib.Core.Bool.{Bool, true, false, cond, ◌&&◌, ◌||◌, and-false}
use mathlib.Core.Logic.{⊎_elim}
use mathlib.Core.List.{List, [], ◌∷◌}
use Prim.Native.Nat.{ℕ, ◌<◌, ◌≤◌}
use native.Mathlib.Omega.{arith}
use lib.Dec.{ltb, eqb}
use borrow.Author.Tests.{ltb-true, ltb-false, le-ltb, eqb-true, ne_eqb}
use Rattle.state.specs.Counted.{Kind}
use Rattle.lemmas.proofs.Tests.{choose, both, or_first, never}
use Rattle.lemmas.proofs.Numbers.{true_or_false}
use Rattle.sorting.specs.Index.{put_by, sort_by}
use Rattle.graph.specs.Sightings.{Rule}
use Rattle.sorting.specs.Rows.{Row, comes_first}
use Rattle.adding.specs.Batch.{has_key, counted_by, code_at, tally_rows}
use Rattle.adding.proofs.Each.{Each, each_put, each_sort, each_weaker}

-- The numbers ascend.
abbrev pub Numbered : List Row → Type 0
Numbered [] = Unit {0}
Numbered (r ∷ rs) = Each (λ s. r.number < s.number) rs × Numbered rs

-- Of two rows the later one comes first only if its k-mer is smaller.
passes : (s r : Row) → r.number < s.number → comes_first s r ≡ true → s.key < r.key
passes s r h c =
    let n : ltb s.number r.number ≡ false = le-ltb s.number r.number (omega arith) in
    ⊎_elim (λ t. ltb-true s.key r.key t)
    (λ (f : ltb s.key r.key ≡ false). never (comes_first s r) c (rw (f, n) (and-false (eqb s.key r.key))))
    (true_or_false (ltb s.key r.key))

-- ---- whether a k-mer is among the rows

swap_or : (a b c : Bool) → (a || (b || c)) ≡ (b || (a || c))
swap_or true true c = refl
swap_or true false c = refl
swap_or false b c = refl

module _ (y : ℕ) where
  has_put : (r : Row) (rs : List Row) → has_key y (put_by comes_first r rs) ≡ (eqb r.key y || has_key y rs)
  unfolding has_key put_by
  has_put r [] = refl
  has_put r (s ∷ rs) =
      let ih = has_put r rs in
      choose (λ (l : List Row). has_key y l ≡ (eqb r.key y || (eqb s.key y || has_key y rs))) (comes_first s r)
      (λ _. ap (λ (b : Bool). eqb s.key y || b) ih ∙ swap_or (eqb s.key y) (eqb r.key y) (has_key y rs)) (λ _. refl)

  pub has_sort : (rs : List Row) → has_key y (sort_by comes_first rs) ≡ has_key y rs
  unfolding has_key sort_by
  has_sort [] = refl
  has_sort (r ∷ rs) = has_put r (sort_by comes_first rs) ∙ ap (λ (b : Bool). eqb r.key y || b) (has_sort rs)

-- ---- its counters

module _ (κ : Kind) (rule : Rule) (K : ℕ) (label : List ℕ) (y : ℕ) where
  -- A word with a row counted, if the row is y's.
  abbrev step : Row → ℕ → ℕ
  step r w = cond (eqb r.key y) (counted_by κ (code_at rule K label r.number) w) w

  -- Rows of two k-mers may change places.
  steps_swap : (r s : Row) (w : ℕ) → s.key < r.key → step r (step s w) ≡ step s (step r w)
  steps_swap r s w h =
      ⊎_elim
      (λ e. let n : eqb s.key y ≡ false = ne_eqb s.key y (λ q. omega (arith, eqb-true r.key y e)) in rw (n, e))
      (λ e. rw e) (true_or_false (eqb r.key y))

  tally_put : (r : Row) (rs : List Row) (w : ℕ) → Each (λ s. r.number < s.number) rs
      → tally_rows κ rule K label y (put_by comes_first r rs) w ≡ tally_rows κ rule K label y rs (step r w)
  unfolding tally_rows put_by
  tally_put r [] w a = refl
  tally_put r (s ∷ rs) w a =
      let ih = tally_put r rs (step s w) a.1 in
      choose (λ (l : List Row). tally_rows κ rule K label y l w ≡ tally_rows κ rule K label y rs (step s (step r w))) (comes_first s r)
      (λ c. ih ∙ ap (tally_rows κ rule K label y rs) (steps_swap r s w (passes s r a.0 c))) (λ _. refl)

  pub tally_sort : (rs : List Row) (w : ℕ) → Numbered rs → tally_rows κ rule K label y (sort_by comes_first rs) w ≡ tally_rows κ rule K label y rs w
  unfolding tally_rows sort_by
  tally_sort [] w n = refl
  tally_sort (r ∷ rs) w n =
      tally_put r (sort_by comes_first rs) w (each_sort (λ s. r.number < s.number) comes_first rs n.0) ∙ tally_sort rs (step r w) n.1

-- ---- the k-mers ascend

abbrev pub Ordered : List Row → Type 0
Ordered [] = Unit {0}
Ordered (r ∷ rs) = Each (λ s. r.key ≤ s.key) rs × Ordered rs

first_le : (s r : Row) → comes_first s r ≡ true → s.key ≤ r.key
first_le s r c =
    ⊎_elim (λ t. omega (arith, ltb-true s.key r.key t))
    (λ f. let e : eqb s.key r.key ≡ true = (both (eqb s.key r.key) (ltb s.number r.number) (rw f at c)).0 in
    omega (arith, eqb-true s.key r.key e))
    (true_or_false (ltb s.key r.key))

put_ordered : (r : Row) (rs : List Row) → Ordered rs → Ordered (put_by comes_first r rs)
unfolding put_by
put_ordered r [] o = (tt, tt)
put_ordered r (s ∷ rs) o =
    let ih = put_ordered r rs o.1 in
    choose Ordered (comes_first s r)
    (λ c. (each_put (λ t. s.key ≤ t.key) comes_first r rs (first_le s r c) o.0, ih))
    (λ c.
    let h : r.key ≤ s.key =
    ltb-false s.key r.key (or_first (ltb s.key r.key) (eqb s.key r.key && ltb s.number r.number) c) in
    ((h, each_weaker (λ t. s.key ≤ t.key) (λ t. r.key ≤ t.key) (λ t l. omega arith) rs o.0), o))

pub sort_ordered : (rs : List Row) → Ordered (sort_by comes_first rs)
unfolding sort_by
sort_ordered [] = tt
sort_ordered (r ∷ rs) = put_ordered r (sort_by comes_first rs) (sort_ordered rs)
