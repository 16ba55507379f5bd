-- A rule over a table or a range, proved at every place by one comparison that is computed: the table is the list that the rule
-- makes, and `made_at` carries that to each place. Assumes nothing.
use mathlib.Core.Path.{◌≡◌, ◌∙◌, sym, ap}
use mathlib.Core.List.{List, [], ◌∷◌}
use Prim.Native.Nat.{ℕ, zero, suc, ◌+◌, ◌<◌}
use native.Mathlib.Nat.{add-zero, zero-add, add-suc, suc-add, le_of_suc-le-suc, not-suc-le-zero}
use lib.ListN.{get_or}

module _ {A : Type 0} where
  -- f at n places from i on.
  abbrev pub made : (ℕ → A) → ℕ → ℕ → List A
  made f i zero = []
  made f i (suc n) = f i ∷ made f (suc i) n

  made_from : (f : ℕ → A) (d : A) (n i k : ℕ) → k < n → get_or (made f i n) k d ≡ f (i + k)
  made_from f d zero i k h = absurd (not-suc-le-zero h)
  made_from f d (suc n) i zero h = sym (ap f (add-zero i))
  made_from f d (suc n) i (suc k) h = made_from f d n (suc i) k (le_of_suc-le-suc h) ∙ ap f (suc-add i k ∙ sym (add-suc i k))

  -- Two rules that make one list agree at each of its places.
  pub everywhere : (f g : ℕ → A) (n : ℕ) → made f 0 n ≡ made g 0 n → (k : ℕ) → k < n → f k ≡ g k
  everywhere f g n e k h =
      ap f (sym (zero-add k)) ∙ sym (made_from f (f 0) n 0 k h) ∙ ap (λ (l : List A). get_or l k (f 0)) e ∙ made_from g (f 0) n 0 k h
      ∙ ap g (zero-add k)

pub made_at : (f : ℕ → ℕ) (n k : ℕ) → k < n → get_or (made f 0 n) k 0 ≡ f k
made_at f n k h = made_from f 0 n 0 k h ∙ ap f (zero-add k)
