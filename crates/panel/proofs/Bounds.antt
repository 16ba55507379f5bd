-- A number lies between two where the range from the one to the other contains it; and between two in order where its
-- difference to the first, which may wrap, is at most theirs. Assumes nothing.
use Rattle.std.proofs.Common.{◌≡◌, ℕ, ◌+◌, ◌-◌, ◌%◌, ◌^◌, ◌<◌, ◌≤◌, Bool, true, false, leb, Some, sym, ◌∙◌, ⊎_elim}
use Rattle.std.proofs.Common.{arith, le-leb, leb-true}
use Rattle.std.specs.Range.{range_inclusive_contains, range_inclusive_start, range_inclusive_end, range_inclusive_exhausted}
use Rattle.std.specs.declared.ops.RangeInclusive.{RangeInclusive}
use Rattle.std.specs.Ordering.{nat_cmp, is_le}
use Rattle.std.proofs.lemmas.Bool.Decides.{nat_tests}
use Rattle.lemmas.proofs.Numbers.{lt_or_ge, mod_is}
use Rattle.lemmas.proofs.Tests.{both, same_bool}
use Rattle.panel.specs.Probes.{between}

at_most : (x y : ℕ) → is_le (nat_cmp x y) ≡ leb x y
at_most x y = grind (arith, nat_tests)

pub contained : {r : RangeInclusive ℕ} {low high : ℕ} (x : ℕ) {t : Bool} → range_inclusive_start r ≡ low
    → range_inclusive_end r ≡ high → range_inclusive_exhausted r ≡ false
    → t ≡ range_inclusive_contains (λ x y. Some (nat_cmp x y)) r x → t ≡ between low x high
contained {low} {high} x s e n h = h ∙ rw (s, e, n, at_most low x, at_most x high)

module _ (low x high r : ℕ) (order : low ≤ high) (small : high < 2 ^ 64) (word : r < 2 ^ 64)
    (wraps : (r + low) % 2 ^ 64 ≡ x) where
  -- The difference has not wrapped, or it has and x is below.
  plain : r + low < 2 ^ 64 → x ≡ r + low
  plain h = sym wraps ∙ mod_is (r + low) (2 ^ 64) 0 (r + low) (omega arith) h

  wrapped : 2 ^ 64 ≤ r + low → x < low
  wrapped h =
      let e = sym wraps ∙ mod_is (r + low) (2 ^ 64) 1 (r + low - 2 ^ 64) (omega arith) (omega arith) in
      omega (arith, e)

  inside : leb r (high - low) ≡ true → between low x high ≡ true
  inside h =
      let n : r ≤ high - low = leb-true r (high - low) h in
      let e : x ≡ r + low = plain (omega arith) in
      rw (le-leb low x (omega arith), le-leb x high (omega arith))

  near : between low x high ≡ true → leb r (high - low) ≡ true
  near h =
      let b = both (leb low x) (leb x high) h in
      let l : low ≤ x = leb-true low x b.0 in
      let m : x ≤ high = leb-true x high b.1 in
      let n : r ≤ high - low =
      ⊎_elim (λ k. omega (arith, plain k)) (λ k. omega (arith, wrapped k)) (lt_or_ge (r + low) (2 ^ 64)) in
      le-leb r (high - low) n

  pub one_comparison : leb r (high - low) ≡ between low x high
  one_comparison = same_bool (leb r (high - low)) (between low x high) inside near
