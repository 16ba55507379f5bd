-- Words of any kind: 0 has no bit outside the counters, and raising one of the eight sets none; below the tops of two
-- kinds a cutoff retains the same of the same sightings. Assumes nothing.
use mathlib.Core.Path.{◌≡◌, refl, ap, ◌∙◌}
use mathlib.Core.Bool.{true}
use Prim.Native.Nat.{ℕ, zero, suc, ◌+◌, ◌*◌, ◌%◌, ◌^◌, ◌≤◌, ◌<◌, min}
use native.Mathlib.Nat.{zero-mod, mul-zero, add-mul-mod_self_left}
use native.Mathlib.Omega.{arith}
use lib.Dec.{leb, eqb, ltb}
use lib.Pow.{pow-add}
use borrow.Author.Tests.{eqb-true, eq-eqb, ltb-true, lt-ltb, leb-true, le-leb}
use Rattle.lemmas.proofs.Tests.{both, same_bool}
use Rattle.state.specs.Counted.{Kind, unit, word_fits, slot_of, count, raise, retained, edge_at}
use Rattle.state.specs.declared.Side.{Side}
use Rattle.state.proofs.Counters.{unit_pos, raised_by, raise_fits}

-- ---- no bit outside the counters

-- Every unit is a multiple of the first.
unit_first : (κ : Kind) (j : ℕ) → unit κ j ≡ unit κ 0 * 2 ^ (κ.width * j)
unit_first κ j =
    let e : κ.first + κ.width * 0 ≡ κ.first = omega (arith, mul-zero κ.width) in
    rw e (pow-add 2 κ.first (κ.width * j))

raise_multiple : (κ : Kind) (w j : ℕ) → raise κ w j % unit κ 0 ≡ w % unit κ 0
raise_multiple κ w j =
    raised_by (λ v. v % unit κ 0 ≡ w % unit κ 0) κ w j (λ _. refl)
    (λ _. ap (λ (u : ℕ). (w + u) % unit κ 0) (unit_first κ j) ∙ add-mul-mod_self_left w (unit κ 0) (2 ^ (κ.width * j)))

pub zero_fits : (κ : Kind) → word_fits κ 0 ≡ true
zero_fits κ = rw (eq-eqb (0 % unit κ 0) 0 (zero-mod (unit κ 0)), lt-ltb 0 (unit κ 8) (unit_pos κ 8))

pub raise_word_fits : (κ : Kind) (w j : ℕ) → j < 8 → word_fits κ w ≡ true → word_fits κ (raise κ w j) ≡ true
raise_word_fits κ w j h f =
    let p = both (eqb (w % unit κ 0) 0) (ltb w (unit κ 8)) f in
    let a : raise κ w j % unit κ 0 ≡ 0 = raise_multiple κ w j ∙ eqb-true _ _ p.0 in
    let b : raise κ w j < unit κ 8 = raise_fits κ 8 w j h (ltb-true _ _ p.1) in
    rw (eq-eqb (raise κ w j % unit κ 0) 0 a, lt-ltb (raise κ w j) (unit κ 8) b)

-- ---- below the tops

-- A cutoff up to both tops is reached by both of two counters that stand for the same number of sightings, or by
-- neither.
pub reached_alike : (a b c x : ℕ) → c ≤ a → c ≤ b → leb c (min a x) ≡ leb c (min b x)
reached_alike a b c x ha hb =
    same_bool (leb c (min a x)) (leb c (min b x))
    (λ h. le-leb c (min b x) (let l = leb-true c (min a x) h in omega arith))
    (λ h. le-leb c (min a x) (let l = leb-true c (min b x) h in omega arith))

-- Words of two kinds whose counters reach a cutoff alike have the same edges.
module _ (κ μ : Kind) (c w v : ℕ) (s : Side) (alike : (j : ℕ) → leb c (count κ w j) ≡ leb c (count μ v j)) where
  retained_alike : (m b : ℕ) → retained κ c w s m b ≡ retained μ c v s m b
  unfolding retained
  retained_alike zero b = refl
  retained_alike (suc m) b = rw (alike (slot_of s b), retained_alike m (suc b))

  pub edge_alike : edge_at κ c w s ≡ edge_at μ c v s
  unfolding edge_at
  edge_alike = rw (retained_alike 4 0)
