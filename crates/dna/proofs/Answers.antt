-- An answer gives or refuses, and never both. Assumes nothing.
use mathlib.Core.Path.{◌≡◌, refl, sym, ap, ◌∙◌}
use mathlib.Core.List.{List, []}
use Prim.Native.Nat.{ℕ}
use Rattle.std.specs.Prelude.{Result, Ok, Err}
use Rattle.dna.specs.Answer.{Answer, gives, refuses}

-- What holds of each arm holds of the chosen one.
pub either : {A B : Type 0} (P : B → Type 0) (a : Answer A) {f : A → B} {g : ℕ → List ℕ → B}
    → ((x : A) → a ≡ gives x → P (f x)) → ((r : ℕ) (vs : List ℕ) → a ≡ refuses r vs → P (g r vs))
    → P (elim a [ gives x ↦ f x | refuses r vs ↦ g r vs ])
either P (gives x) p q = p x refl
either P (refuses r vs) p q = q r vs refl

pub ungiven : {A P : Type 0} (x : A) (r : ℕ) (vs : List ℕ) → gives x ≡ refuses r vs → P
ungiven x r vs e = cc

-- Where a Result's answer gives what f reads off its value, or refuses with its error's number, it tells all cases
-- apart that f and the numbers tell apart.
module _ {A B E : Type 0} (says : Result A E → Answer B) (f : A → B) (number : E → ℕ)
    (given : (a : A) → says (Ok a) ≡ gives (f a)) (refused : (e : E) → says (Err e) ≡ refuses (number e) []) where
  pub told_apart : ((a b : A) → f a ≡ f b → a ≡ b) → ((d e : E) → number d ≡ number e → d ≡ e)
      → (x y : Result A E) → says x ≡ says y → x ≡ y
  told_apart values errors (Ok a) (Ok b) h =
      let e = sym (given a) ∙ h ∙ given b in
      ap Ok (values a b cc)
  told_apart values errors (Ok a) (Err e) h = ungiven (f a) (number e) [] (sym (given a) ∙ h ∙ refused e)
  told_apart values errors (Err d) (Ok b) h = ungiven (f b) (number d) [] (sym (given b) ∙ sym h ∙ refused d)
  told_apart values errors (Err d) (Err e) h =
      let q = sym (refused d) ∙ h ∙ refused e in
      ap Err (errors d e cc)
