-- Labels in the order of the index: the same labels, and in ascending order where no k-mer occurs twice. Assumes nothing.
use mathlib.Core.Path.{◌≡◌, refl, ap, ◌∙◌}
use mathlib.Core.Bool.{false}
use mathlib.Core.Logic.{⊎_elim}
use mathlib.Core.List.{List, [], ◌∷◌, map}
use Prim.Native.Nat.{ℕ, suc, ◌+◌, ◌≤◌}
use native.Mathlib.Omega.{arith}
use lib.ListN.{length}
use Rattle.lemmas.proofs.Tests.{choose}
use Rattle.lemmas.proofs.Numbers.{true_or_false}
use Rattle.dna.specs.Order.{before}
use Rattle.dna.proofs.Order.{before_asym, before_same}
use Rattle.graph.specs.Contraction.{Entry, entries, put_in, sorted}
use Rattle.laws.specs.Windows.{occurs, occurrences}
use Rattle.laws.specs.Demand.{Each, Each.none, Each.more, Ascending, Ascending.asc_none, Ascending.asc_one, Ascending.asc}

abbrev pub labels_of : List Entry → List (List ℕ)
labels_of es = map (λ (e : Entry). e.label) es

-- ---- the same labels

put_length : (e : Entry) (es : List Entry) → length (put_in e es) ≡ suc (length es)
unfolding put_in
put_length e [] = refl
put_length e (x ∷ es) =
    let ih = put_length e es in
    choose (λ (z : List Entry). length z ≡ suc (suc (length es))) (before x.label e.label) (λ _. ap suc ih) (λ _. refl)

pub sorted_length : (at : ℕ) (ls : List (List ℕ)) → length (sorted (entries at ls)) ≡ length ls
unfolding sorted entries
sorted_length at [] = refl
sorted_length at (l ∷ ls) =
    put_length (record { start = at; label = l }) (sorted (entries (at + length l) ls)) ∙ ap suc (sorted_length (at + length l) ls)

module _ (K x : ℕ) where
  put_occurrences : (e : Entry) (es : List Entry) → occurrences K x (labels_of (put_in e es)) ≡ occurs K x e.label + occurrences K x (labels_of es)
  unfolding put_in occurrences
  put_occurrences e [] = refl
  put_occurrences e (m ∷ es) =
      let ih = put_occurrences e es in
      choose (λ (z : List Entry). occurrences K x (labels_of z) ≡ occurs K x e.label + (occurs K x m.label + occurrences K x (labels_of es)))
      (before m.label e.label) (λ _. omega (arith, ih)) (λ _. refl)

  pub sorted_occurrences : (at : ℕ) (ls : List (List ℕ)) → occurrences K x (labels_of (sorted (entries at ls))) ≡ occurrences K x ls
  unfolding sorted entries occurrences
  sorted_occurrences at [] = refl
  sorted_occurrences at (l ∷ ls) =
      put_occurrences (record { start = at; label = l }) (sorted (entries (at + length l) ls))
      ∙ ap (λ (n : ℕ). occurs K x l + n) (sorted_occurrences (at + length l) ls)

module _ (P : Entry → Type 0) where
  put_each : (e : Entry) {es : List Entry} → P e → Each P es → Each P (put_in e es)
  unfolding put_in
  put_each e h none = more h none
  put_each e h (more {x = m} p q) =
      choose (Each P) (before m.label e.label) (λ _. more p (put_each e h q)) (λ _. more h (more p q))

  pub sorted_each : {es : List Entry} → Each P es → Each P (sorted es)
  unfolding sorted
  sorted_each none = none
  sorted_each (more {x = e} p q) = put_each e p (sorted_each q)

-- What holds of each label holds of each in the order of the index.
module _ (P : List ℕ → Type 0) where
  pub entries_each : (at : ℕ) {ls : List (List ℕ)} → Each P ls → Each (λ (e : Entry). P e.label) (entries at ls)
  unfolding entries
  entries_each at none = none
  entries_each at (more {x = l} p q) = more p (entries_each (at + length l) q)

  labels_each : {es : List Entry} → Each (λ (e : Entry). P e.label) es → Each P (labels_of es)
  labels_each none = none
  labels_each (more p q) = more p (labels_each q)

  pub in_order_each : {ls : List (List ℕ)} → Each P ls → Each P (labels_of (sorted (entries 0 ls)))
  in_order_each q = labels_each (sorted_each (λ (e : Entry). P e.label) (entries_each 0 q))

-- ---- their order

-- None stands before the one ahead of it.
data Up : List (List ℕ) → Type 0 where
  up_none : Up []
  up_one : {l : List ℕ} → Up (l ∷ [])
  up : {l m : List ℕ} {ls : List (List ℕ)} → before m l ≡ false → Up (m ∷ ls) → Up (l ∷ m ∷ ls)

-- An entry that does not stand before k, put behind it.
up_put : (k e : Entry) (es : List Entry) → before e.label k.label ≡ false → Up (labels_of (k ∷ es)) → Up (labels_of (k ∷ put_in e es))
unfolding put_in
up_put k e [] h u = up h up_one
up_put k e (m ∷ es) h (up q u) =
    choose (λ (z : List Entry). Up (labels_of (k ∷ z))) (before m.label e.label)
    (λ t. up q (up_put m e es (before_asym m.label e.label t) u)) (λ t. up h (up t u))

put_up : (e : Entry) (es : List Entry) → Up (labels_of es) → Up (labels_of (put_in e es))
unfolding put_in
put_up e [] u = up_one
put_up e (m ∷ es) u =
    choose (λ (z : List Entry). Up (labels_of z)) (before m.label e.label)
    (λ t. up_put m e es (before_asym m.label e.label t) u) (λ t. up t u)

sorted_up : (es : List Entry) → Up (labels_of (sorted es))
unfolding sorted
sorted_up [] = up_none
sorted_up (e ∷ es) = put_up e (sorted es) (sorted_up es)

-- A label has a k-mer.
abbrev pub Some-kmer : ℕ → List ℕ → Type 0
Some-kmer K l = (x : ℕ) × (1 ≤ occurs K x l)

ascending : (K : ℕ) {ls : List (List ℕ)} → Up ls → ((x : ℕ) → occurrences K x ls ≤ 1) → Each (Some-kmer K) ls → Ascending ls
unfolding occurrences
ascending K up_none t e = asc_none
ascending K up_one t e = asc_one
ascending K (up {l = l} {m = m} {ls = ls} q u) t (more s e) =
    asc
    (⊎_elim (λ b. b) (λ b. absurd (twice (before_same l m b q))) (true_or_false (before l m)))
    (ascending K u (λ x. omega (arith, t x)) e)
  where
    twice : l ≡ m → ⊥
    twice d = omega (arith, t s.0, s.1, ap (occurs K s.0) d)

-- Labels that each have a k-mer, none of them twice, strictly ascend in the order of the index.
pub in_order_ascend : (K : ℕ) (ls : List (List ℕ)) → ((x : ℕ) → occurrences K x ls ≤ 1) → Each (Some-kmer K) ls
    → Ascending (labels_of (sorted (entries 0 ls)))
in_order_ascend K ls t e =
    ascending K (sorted_up (entries 0 ls)) (λ x. omega (arith, sorted_occurrences K x 0 ls, t x)) (in_order_each (Some-kmer K) e)
