-- The number and the figures of each case are what its call's answer says. Assumes nothing.
use mathlib.Core.Path.{◌≡◌, sym, ap, ◌∙◌}
use mathlib.Core.List.{List}
use Prim.Native.Nat.{ℕ}
use Rattle.dna.specs.Answer.{Answer, Filled}
use Rattle.capi.specs.Says.{number_of, figures, noted, of_number, Tells, FillsOut}

-- Over the figures before and after; `case` is what an answer was found to be.
module _ {before after : List ℕ} where
  pub told : {A : Type 0} {f : A → List ℕ} {a case : Answer A} {n : ℕ} → a ≡ case → n ≡ number_of case
      → after ≡ noted (figures f case) before → Tells f a n before after
  told {f = f} e m h = record {
    number = m ∙ ap number_of (sym e);
    figures_after = h ∙ ap (λ (x : Answer _). noted (figures f x) before) (sym e);
  }

  -- `says` is what the cases of a call's answer mean: an answer is told, and a slice is filled.
  pub tells : {A R : Type 0} {f : A → List ℕ} (says : R → Answer A) {a : Answer A} {r case : R} {n : ℕ} → says r ≡ a
      → r ≡ case → n ≡ number_of (says case) → after ≡ noted (figures f (says case)) before → Tells f a n before after
  tells says w e m h = told (sym w ∙ ap says e) m h

  pub fills : {R : Type 0} (says : R → Answer ℕ) {r case : R} {n : ℕ} {out : List ℕ} {f : Filled}
      → says r ≡ f.answer → out ≡ f.slice → r ≡ case → n ≡ number_of (says case)
      → after ≡ noted (figures of_number (says case)) before → FillsOut n out before after f
  fills says w o e m h =
      let t = tells {f = of_number} says w e m h in
      record { number = t.number; figures_after = t.figures_after; out_after = o }
