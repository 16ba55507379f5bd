-- Fit keys: what that says of the first, of each behind it, and of those from a place on. Assumes nothing.
use mathlib.Core.Path.{◌≡◌, refl}
use mathlib.Core.Bool.{Bool, true, false, ◌&&◌}
use mathlib.Core.List.{List, [], ◌∷◌}
use Prim.Native.Nat.{ℕ, zero, suc, ◌^◌, ◌≤◌, ◌<◌}
use native.Mathlib.Omega.{arith}
use borrow.Author.Tests.{ltb-false, leb-true, le-leb, le-ltb}
use lib.Dec.{ltb, leb}
use lib.ListN.{length, get_or}
use Rattle.lemmas.proofs.Tests.{both}
use Rattle.kmer.specs.Kmer.{is_canon}
use Rattle.graph.specs.Table.{fit_from, rank}
use Rattle.graph.proofs.Rank.{rank_on}

pub record FitCons (K least x : ℕ) (ks : List ℕ) : Type 0 where
  pub above : least ≤ x
  pub below : ltb x (4 ^ K) ≡ true
  pub canonical : is_canon K x ≡ true
  pub rest : fit_from K (suc x) ks ≡ true

pub fit_nil : (K least : ℕ) → fit_from K least [] ≡ true
unfolding fit_from
fit_nil K least = refl

module _ (K least x : ℕ) (ks : List ℕ) where
  pub fit_cons : fit_from K least (x ∷ ks) ≡ true → FitCons K least x ks
  unfolding fit_from
  fit_cons h =
      let a = both (leb least x && ltb x (4 ^ K) && is_canon K x) (fit_from K (suc x) ks) h in
      let b = both (leb least x && ltb x (4 ^ K)) (is_canon K x) a.0 in
      let c = both (leb least x) (ltb x (4 ^ K)) b.0 in
      record { above = leb-true least x c.0; below = c.1; canonical = b.1; rest = a.1 }

  pub cons_fit : FitCons K least x ks → fit_from K least (x ∷ ks) ≡ true
  unfolding fit_from
  cons_fit f = rw (le-leb least x f.above, f.below, f.canonical, f.rest)

-- Each key is at least the bound.
pub fit_least : (K least : ℕ) (ks : List ℕ) → fit_from K least ks ≡ true → (i : ℕ) → i < length ks → least ≤ get_or ks i 0
fit_least K least [] f i h = absurd (omega arith)
fit_least K least (x ∷ ks) f zero h = (fit_cons K least x ks f).above
fit_least K least (x ∷ ks) f (suc i) h =
    let g = fit_cons K least x ks f in
    omega (arith, g.above, fit_least K (suc x) ks g.rest i (omega arith))

-- Each is canonical and below 4 to the K.
pub fit_each : (K least : ℕ) (ks : List ℕ) → fit_from K least ks ≡ true → (i : ℕ) → i < length ks
    → (ltb (get_or ks i 0) (4 ^ K) ≡ true) × (is_canon K (get_or ks i 0) ≡ true)
fit_each K least [] f i h = absurd (omega arith)
fit_each K least (x ∷ ks) f zero h = ((fit_cons K least x ks f).below, (fit_cons K least x ks f).canonical)
fit_each K least (x ∷ ks) f (suc i) h = fit_each K (suc x) ks (fit_cons K least x ks f).rest i (omega arith)

-- No key from x's place on is smaller than x.
pub fit_after : (K least : ℕ) (ks : List ℕ) (x : ℕ) → fit_from K least ks ≡ true → (i : ℕ) → rank ks x ≤ i → i < length ks → ltb (get_or ks i 0) x ≡ false
fit_after K least [] x f i r h = absurd (omega arith)
fit_after K least (y ∷ ks) x f i r h = go (ltb y x) refl i r h (fit_after K (suc y) ks x (fit_cons K least y ks f).rest)
  where
    go : (t : Bool) → ltb y x ≡ t → (i : ℕ) → rank (y ∷ ks) x ≤ i → i < suc (length ks)
        → ((j : ℕ) → rank ks x ≤ j → j < length ks → ltb (get_or ks j 0) x ≡ false) → ltb (get_or (y ∷ ks) i 0) x ≡ false
    go true e zero r h ih = absurd (omega (arith, rank_on y ks x e))
    go true e (suc j) r h ih = ih j (omega (arith, rank_on y ks x e)) (omega arith)
    go false e zero r h ih = e
    go false e (suc j) r h ih =
        le-ltb (get_or ks j 0) x (omega (arith, ltb-false y x e, fit_least K (suc y) ks (fit_cons K least y ks f).rest j (omega arith)))
