-- Counters of any width from any bit on: raising one gives the smaller of its top and one more, leaves the others
-- alone and sets no bit past the last; the order of raising does not matter. Assumes nothing.
use mathlib.Core.Path.{◌≡◌, refl, sym, ap, ◌∙◌}
use mathlib.Core.Bool.{Bool, true, false, cond}
use Prim.Native.Nat.{ℕ, suc, ◌+◌, ◌-◌, ◌*◌, ◌/◌, ◌%◌, ◌^◌, ◌≤◌, ◌<◌, min}
use native.Mathlib.Nat.{zero-div, zero-mod, add-zero, mul-add, mul-suc, mod-lt, div-eq_of_lt, div-div-eq-div-mul}
use native.Mathlib.Nat.{add-mul-div_left, add-mul-mod_self_left, add-div_right, div-add-mod'}
use native.Mathlib.Omega.{arith}
use lib.Arith.{digits_mod, digits_div}
use lib.Pow.{pow-add, pow_pos}
use lib.Dec.{ltb, eqb}
use borrow.Author.Tests.{eqb-true, eqb-false, ltb-true, ltb-false, eq-eqb, ne_eqb}
use Rattle.lemmas.proofs.Tests.{choose}
use Rattle.state.specs.Counted.{Kind, top, unit, count, raise}

pub unit_pos : (κ : Kind) (i : ℕ) → 0 < unit κ i
unit_pos κ i = pow_pos (κ.first + κ.width * i)

-- The unit of a later counter.
unit_later : (κ : Kind) (i m : ℕ) → unit κ (i + suc m) ≡ unit κ i * (2 ^ κ.width * 2 ^ (κ.width * m))
unit_later κ i m =
    let e : κ.first + κ.width * (i + suc m) ≡ κ.first + κ.width * i + (κ.width + κ.width * m) =
    omega (arith, mul-add κ.width i (suc m), mul-suc κ.width m) in
    rw (e, pow-add 2 (κ.first + κ.width * i) (κ.width + κ.width * m), pow-add 2 κ.width (κ.width * m))

-- A digit below its top takes one more without a carry.
no_carry : (q B : ℕ) → suc (q % B) < B → q + 1 ≡ q / B * B + suc (q % B)
no_carry q B h = omega (arith, div-add-mod' q B)

count_lt : (κ : Kind) (w j : ℕ) → count κ w j < 2 ^ κ.width
unfolding count
count_lt κ w j = mod-lt (w / unit κ j) (pow_pos κ.width)

pub count_le : (κ : Kind) (w j : ℕ) → count κ w j ≤ top κ
count_le κ w j = omega (arith, count_lt κ w j)

-- In the word 0 every counter is 0.
pub count_zero : (κ : Kind) (j : ℕ) → count κ 0 j ≡ 0
unfolding count
count_zero κ j = rw (zero-div, zero-mod)

-- One unit of counter j more, where it is below its top.
module _ (κ : Kind) (w j : ℕ) (h : count κ w j < top κ) where
  below_top : suc (count κ w j) < 2 ^ κ.width
  below_top = omega arith

  plus_same : count κ (w + unit κ j) j ≡ suc (count κ w j)
  unfolding count
  plus_same =
      let q = w / unit κ j in
      rw (add-div_right w (unit_pos κ j), no_carry q (2 ^ κ.width) below_top) (digits_mod (q / 2 ^ κ.width) below_top)

  -- What stands above counter j stays.
  plus_above : (m : ℕ) → (w + unit κ j) / unit κ (j + suc m) ≡ w / unit κ (j + suc m)
  unfolding count
  plus_above m =
      let U = unit κ j in
      let B = 2 ^ κ.width in
      let R = 2 ^ (κ.width * m) in
      let parts : (x : ℕ) → x / (U * (B * R)) ≡ x / U / B / R =
      λ x. sym (div-div-eq-div-mul (x / U) B R ∙ div-div-eq-div-mul x U (B * R)) in
      let same : (w + U) / U / B ≡ w / U / B =
      rw (add-div_right w (unit_pos κ j), no_carry (w / U) B below_top) (digits_div (w / U / B) below_top) in
      rw (unit_later κ j m, parts (w + U), parts w, same)

-- A unit of a later counter leaves an earlier one alone.
plus_below : (κ : Kind) (w i m : ℕ) → count κ (w + unit κ (i + suc m)) i ≡ count κ w i
unfolding count
plus_below κ w i m =
    rw (unit_later κ i m, add-mul-div_left w (2 ^ κ.width * 2 ^ (κ.width * m)) (unit_pos κ i))
    (add-mul-mod_self_left (w / unit κ i) (2 ^ κ.width) (2 ^ (κ.width * m)))

-- A full counter stays.
pub raise_full : (κ : Kind) (w j : ℕ) → top κ ≤ count κ w j → raise κ w j ≡ w
unfolding raise
raise_full κ w j h =
    let e : count κ w j ≡ top κ = omega (arith, count_le κ w j) in
    simp (eq-eqb (count κ w j) (top κ) e)

-- A counter below its top is given one unit.
pub raise_more : (κ : Kind) (w j : ℕ) → count κ w j < top κ → raise κ w j ≡ w + unit κ j
unfolding raise
raise_more κ w j h = simp (ne_eqb (count κ w j) (top κ) (λ e. omega arith))

-- What holds of a word in which counter j is full, and of one with a unit more where it is not, holds of the raised
-- one.
pub raised_by :
    (P : ℕ → Type 0) (κ : Kind) (w j : ℕ) →
    (top κ ≡ count κ w j → P w) → (count κ w j < top κ → P (w + unit κ j)) → P (raise κ w j)
unfolding raise
raised_by P κ w j f g =
    choose P (eqb (count κ w j) (top κ)) (λ e. f (sym (eqb-true _ _ e)))
    (λ e. g (omega (arith, count_le κ w j, eqb-false (count κ w j) (top κ) e)))

-- The raised counter: one more, at most its top.
pub raise_same : (κ : Kind) (w j : ℕ) → count κ (raise κ w j) j ≡ min (top κ) (suc (count κ w j))
raise_same κ w j =
    raised_by (λ v. count κ v j ≡ min (top κ) (suc (count κ w j))) κ w j (λ e. omega arith)
    (λ h. rw (plus_same κ w j h) (omega arith))

-- Every other counter stays.
pub raise_other : (κ : Kind) (w j i : ℕ) → (i ≡ j → ⊥) → count κ (raise κ w j) i ≡ count κ w i
unfolding count
raise_other κ w j i ne = raised_by (λ v. count κ v i ≡ count κ w i) κ w j (λ e. refl) (λ h. go h (ltb i j) refl)
  where
    go : count κ w j < top κ → (t : Bool) → ltb i j ≡ t → count κ (w + unit κ j) i ≡ count κ w i
    go h true e =
        let d : j ≡ i + suc (j - suc i) = omega (arith, ltb-true i j e) in
        rw d (plus_below κ w i (j - suc i))
    go h false e =
        let d : i ≡ j + suc (i - suc j) = omega (arith, ltb-false i j e) in
        rw d (ap (λ (q : ℕ). q % 2 ^ κ.width) (plus_above κ w j h (i - suc j)))

-- A word without a bit past its first n counters stays so when one of them is raised.
pub raise_fits : (κ : Kind) (n w j : ℕ) → j < n → w < unit κ n → raise κ w j < unit κ n
raise_fits κ n w j l h = raised_by (λ v. v < unit κ n) κ w j (λ e. h) more
  where
    more : count κ w j < top κ → w + unit κ j < unit κ n
    more b =
        let d : n ≡ j + suc (n - suc j) = omega arith in
        let e : (w + unit κ j) / unit κ n ≡ w / unit κ n = rw d (plus_above κ w j b (n - suc j)) in
        let z : (w + unit κ j) / unit κ n ≡ 0 = e ∙ div-eq_of_lt h in
        let s = div-add-mod' (w + unit κ j) (unit κ n) in
        omega (arith, mod-lt (w + unit κ j) (unit_pos κ n), rw z at s)

-- What raising counter j adds to a word.
unfoldable added : Kind → ℕ → ℕ → ℕ
added κ w j = cond (eqb (count κ w j) (top κ)) 0 (unit κ j)

raise_added : (κ : Kind) (w j : ℕ) → raise κ w j ≡ w + added κ w j
unfolding raise added
raise_added κ w j = go (eqb (count κ w j) (top κ))
  where
    go : (t : Bool) → cond t w (w + unit κ j) ≡ w + cond t 0 (unit κ j)
    go true = sym (add-zero w)
    go false = refl

added_other : (κ : Kind) (w i j : ℕ) → (j ≡ i → ⊥) → added κ (raise κ w i) j ≡ added κ w j
unfolding added
added_other κ w i j ne = rw (raise_other κ w i j ne)

-- Counters are raised in either order.
pub raise_comm : (κ : Kind) (w i j : ℕ) → raise κ (raise κ w i) j ≡ raise κ (raise κ w j) i
raise_comm κ w i j = go (eqb i j) refl
  where
    go : (t : Bool) → eqb i j ≡ t → raise κ (raise κ w i) j ≡ raise κ (raise κ w j) i
    go true e = let d : i ≡ j = eqb-true _ _ e in rw d
    go false e =
        let ne = eqb-false i j e in
        let p : raise κ (raise κ w i) j ≡ w + added κ w i + added κ w j =
        raise_added κ (raise κ w i) j ∙ rw (added_other κ w i j (λ d. ne (sym d)), raise_added κ w i) in
        let q : raise κ (raise κ w j) i ≡ w + added κ w j + added κ w i =
        raise_added κ (raise κ w j) i ∙ rw (added_other κ w j i ne, raise_added κ w j) in
        omega arith
