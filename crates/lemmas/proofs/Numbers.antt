-- The two cases of a test and of an order; quotients and remainders. Assumes nothing.
use mathlib.Core.Path.{◌≡◌, refl, sym, ap, ◌∙◌}
use mathlib.Core.Bool.{Bool, true, false}
use mathlib.Core.Logic.{◌⊎◌, inl, inr, ⊎_elim}
use Prim.Native.Nat.{ℕ, ◌+◌, ◌-◌, ◌*◌, ◌/◌, ◌%◌, ◌^◌, ◌<◌, ◌≤◌}
use native.Mathlib.Omega.{arith}
use lib.Arith.{digits_div, digits_mod}
use lib.Dec.{ltb}
use lib.Pow.{mod-mod-pow}
use borrow.Author.Tests.{ltb-true, ltb-false, lt-ltb, le-ltb}

pub true_or_false : (t : Bool) → (t ≡ true) ⊎ (t ≡ false)
true_or_false true = inl refl
true_or_false false = inr refl

pub lt_or_ge : (a b : ℕ) → (a < b) ⊎ (b ≤ a)
lt_or_ge a b = ⊎_elim (λ t. inl (ltb-true a b t)) (λ t. inr (ltb-false a b t)) (true_or_false (ltb a b))

-- Two orders of which each holds where the other does.
pub same_test : (a b x y : ℕ) → (a < b → x < y) → (b ≤ a → y ≤ x) → ltb a b ≡ ltb x y
same_test a b x y f g =
    ⊎_elim (λ l. lt-ltb a b l ∙ sym (lt-ltb x y (f l))) (λ l. le-ltb a b l ∙ sym (le-ltb x y (g l))) (lt_or_ge a b)

-- A quotient and a remainder that are known.
pub mod_is : (n m q r : ℕ) → n ≡ q * m + r → r < m → n % m ≡ r
mod_is n m q r e h = ap (λ (x : ℕ). x % m) e ∙ digits_mod q h

pub div_is : (n m q r : ℕ) → n ≡ q * m + r → r < m → n / m ≡ q
div_is n m q r e h = ap (λ (x : ℕ). x / m) e ∙ digits_div q h

-- A shorter mask after a longer one.
pub mod_mod : (n j w : ℕ) → j ≤ w → n % 2 ^ w % 2 ^ j ≡ n % 2 ^ j
mod_mod n j w h =
    let e : (w - j) + j ≡ w = omega arith in
    rw e at (mod-mod-pow n (w - j) j)
