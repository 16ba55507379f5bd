-- Rule 1: the lowest label out of order, or all in order. Assumes nothing.
use Prim.Native.Nat.{ℕ, ◌≤◌, ◌<◌}
use mathlib.Core.Path.{◌≡◌, refl}
use mathlib.Core.Logic.{inl, inr, ⊎_elim}
use mathlib.Core.Bool.{true, false, not}
use mathlib.Core.List.{List, [], ◌∷◌}
use borrow.Author.Tests.{not-true, not-false}
use lib.ListN.{length}
use Rattle.lemmas.proofs.Tests.{never, or_first, or_second, or_cases, or_on}
use Rattle.dna.specs.Letters.{reverse_complement}
use Rattle.dna.specs.Order.{before}
use Rattle.graph.specs.Walks.{Ends}
use Rattle.laws.specs.Demand.{Each, Each.none, Each.more, Ascending, Ascending.asc_none, Ascending.asc_one, Ascending.asc}
use Rattle.rules.specs.Rules.{Rule1}
use Rattle.rules.specs.Verdict.{first_of, not_behind, breaks1}
use Rattle.rules.specs.Judged.{At, At.here, At.there, Lowest, Later, Later.later, OutOfOrder}
use Rattle.rules.proofs.Firsts.{Clear, Clear.clear_none, Clear.clear_more, first_clear, first_lowest}

behind_later : (done : List (List ℕ)) (l : List ℕ) → not_behind done l ≡ true → Later done l
unfolding not_behind
behind_later [] l h = never false h refl
behind_later (m ∷ done) l h = later (not-true (before m l) h)

later_behind : {done : List (List ℕ)} {l : List ℕ} → Later done l → not_behind done l ≡ true
unfolding not_behind
later_behind (later q) = rw q

tells : (done : List (List ℕ)) (l : List ℕ) (rest : List (List ℕ)) → breaks1 done l ≡ true → OutOfOrder done l rest
unfolding breaks1
tells done l rest h = ⊎_elim (λ q. inl (behind_later done l q)) (λ q. inr q)
    (or_cases (not_behind done l) (before (reverse_complement l) l) h)

told : (done : List (List ℕ)) (l : List ℕ) (rest : List (List ℕ)) → OutOfOrder done l rest → breaks1 done l ≡ true
unfolding breaks1
told done l rest (inl q) = rw (later_behind q)
told done l rest (inr q) = or_on (not_behind done l) q

-- The first label that breaks rule 1 is the lowest out of order.
pub lowest_1 : (ls : List (List ℕ)) → first_of breaks1 [] ls < length ls → Lowest OutOfOrder ls (first_of breaks1 [] ls)
lowest_1 ls h = first_lowest breaks1 OutOfOrder (λ _ _. Unit {0}) (λ _ _ _ _ _. tt) (λ done l rest _ q. tells done l rest q)
    (λ done l rest _ q. told done l rest q) ls tt h

clear_ascends : {done ls : List (List ℕ)} → Clear breaks1 done ls → Ascending ls
unfolding breaks1 not_behind
clear_ascends clear_none = asc_none
clear_ascends (clear_more q clear_none) = asc_one
clear_ascends (clear_more {l = l} q (clear_more {l = m} p c)) =
    asc (not-false (before l m) (or_first (not (before l m)) (before (reverse_complement m) m) p)) (clear_ascends (clear_more p c))

clear_above : {done ls : List (List ℕ)} → Clear breaks1 done ls → Each (λ l. before (reverse_complement l) l ≡ false) ls
unfolding breaks1
clear_above clear_none = none
clear_above {done} (clear_more {l = l} q c) = more (or_second (not_behind done l) (before (reverse_complement l) l) q) (clear_above c)

-- Labels that ascend behind the last of some.
abbrev Behind : List (List ℕ) → List (List ℕ) → Type 0
Behind [] ls = Ascending ls
Behind (m ∷ done) ls = Ascending (m ∷ ls)

behind_next : (done : List (List ℕ)) {l : List ℕ} {ls : List (List ℕ)} → Behind done (l ∷ ls) → Ascending (l ∷ ls)
behind_next [] a = a
behind_next (m ∷ done) (asc q a) = a

out_of_order : {done ls : List (List ℕ)} {i : ℕ} → At OutOfOrder done ls i → Behind done ls
    → Each (λ l. before (reverse_complement l) l ≡ false) ls → ⊥
out_of_order (here {l = l} (inr q)) a (more p e) = never (before (reverse_complement l) l) q p
out_of_order (here (inl (later {m = m} {l = l} q))) (asc p a) e = never (before m l) p q
out_of_order {done} (there t) a (more p e) = out_of_order t (behind_next done a) e

module _ (K : ℕ) (ks : List ℕ) (es : List Ends) where
  -- Where no label breaks it, the list keeps rule 1;
  pub keeps_1 : (ls : List (List ℕ)) → length ls ≤ first_of breaks1 [] ls → Rule1 K ks es ls
  keeps_1 ls h = let c = first_clear breaks1 [] ls h in record { ascend = clear_ascends c; none_above = clear_above c }

  -- and where one is out of order it does not.
  pub broken_1 : {ls : List (List ℕ)} {i : ℕ} → At OutOfOrder [] ls i → Rule1 K ks es ls → ⊥
  broken_1 a r = out_of_order a r.ascend r.none_above
