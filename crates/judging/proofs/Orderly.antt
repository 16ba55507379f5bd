-- Rule 1 of one label. Assumes nothing.
use Prim.Native.Nat.{ℕ}
use mathlib.Core.Path.{◌≡◌, refl, sym, ◌∙◌}
use mathlib.Core.Bool.{Bool, true, false, cond, not}
use mathlib.Core.List.{List}
use Rattle.std.proofs.Common.{Some, None, Less, Equal, Greater, is_ge}
use Rattle.dna.specs.Letters.{reverse_complement}
use Rattle.dna.specs.Order.{before}
use Rattle.sorting.specs.Index.{order_of}
use Rattle.rules.specs.Verdict.{not_behind, breaks1}
use Rattle.judging.specs.declared.Span.{Span}
use Rattle.judging.specs.Passing.{spanned, Follows, Follows.nothing, Follows.behind}

-- Two texts compared.
behind_is : (s t : List ℕ) {r : Bool} → r ≡ is_ge (order_of s t) → r ≡ not (before s t)
behind_is s t e = e ∙ told (before s t) (before t s)
  where
    told : (a b : Bool) → is_ge (cond a Less (cond b Greater Equal)) ≡ not a
    told true b = refl
    told false true = refl
    told false false = refl

module _ (text l : List ℕ) where
  pub behind_none : (done : List (List ℕ)) → Follows text None done → false ≡ not_behind done l
  unfolding not_behind
  behind_none done nothing = refl

  pub behind_some : (b : Span) {r : Bool} → r ≡ is_ge (order_of (spanned text b) l)
      → (done : List (List ℕ)) → Follows text (Some b) done → r ≡ not_behind done l
  unfolding not_behind
  behind_some b e done (behind _) = behind_is (spanned text b) l e

-- Rule 1, by its two tests.
module _ (done : List (List ℕ)) (l : List ℕ) {r : Bool} (e : r ≡ not_behind done l) where
  pub out_first : r ≡ true → r ≡ breaks1 done l
  unfolding breaks1
  out_first h = let n : not_behind done l ≡ true = sym e ∙ h in h ∙ sym (rw n)

  pub out_second : r ≡ false → {t : Bool} → t ≡ before (reverse_complement l) l → t ≡ breaks1 done l
  unfolding breaks1
  out_second h q = let n : not_behind done l ≡ false = sym e ∙ h in q ∙ sym (rw n)
