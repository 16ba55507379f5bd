-- Tests: what follows from the value of a Bool. Assumes nothing.
use mathlib.Core.Path.{◌≡◌, refl, sym, ◌∙◌}
use mathlib.Core.Bool.{Bool, true, false, not, cond, ◌&&◌, ◌||◌, false≢true}
use mathlib.Core.Logic.{◌⊎◌, inl, inr}
use Prim.Native.Nat.{ℕ}
use native.Mathlib.Omega.{arith}
use borrow.Author.Tests.{not-true, not-false}

-- What holds of each arm under its test holds of the chosen one.
pub choose : {A : Type 0} (P : A → Type 0) (t : Bool) {x y : A} → (t ≡ true → P x) → (t ≡ false → P y) → P (cond t x y)
choose P true f g = f refl
choose P false f g = g refl

-- Both tests of a conjunction hold.
pub both : (a b : Bool) → a && b ≡ true → (a ≡ true) × (b ≡ true)
both true b h = (refl, h)
both false b h = absurd (false≢true h)

-- Neither test of a disjunction holds.
pub or_first : (a b : Bool) → (a || b) ≡ false → a ≡ false
or_first true b h = h
or_first false b h = refl

pub or_second : (a b : Bool) → (a || b) ≡ false → b ≡ false
or_second true b h = absurd (false≢true (sym h))
or_second false b h = h

-- One test of a disjunction holds,
pub or_cases : (a b : Bool) → (a || b) ≡ true → (a ≡ true) ⊎ (b ≡ true)
or_cases true b h = inl refl
or_cases false b h = inr h

-- and it holds where its second test does.
pub or_on : (a : Bool) {b : Bool} → b ≡ true → (a || b) ≡ true
or_on true h = refl
or_on false h = h

-- Two tests of which each holds where the other does.
pub same_bool : (a b : Bool) → (a ≡ true → b ≡ true) → (b ≡ true → a ≡ true) → a ≡ b
same_bool true b f g = sym (f refl)
same_bool false true f g = g refl
same_bool false false f g = refl

-- No test is both true and false.
pub never : {P : Type 0} (b : Bool) → b ≡ true → b ≡ false → P
never b p q = let z : ◌≡◌ {A = ℕ} 0 1 = cc in absurd (omega arith)

-- A test t of the code that answers a definition's u, after `if !t`: passed, or not.
pub passed : {t u : Bool} → t ≡ u → not t ≡ false → u ≡ true
passed {t} e h = sym e ∙ not-false t h

pub failed : {t u : Bool} → t ≡ u → not t ≡ true → u ≡ false
failed {t} e h = sym e ∙ not-true t h
