-- Where a k-mer stands among keys, and whether it is one of them. Assumes nothing.
use mathlib.Core.Path.{◌≡◌, refl, sym, ap, ◌∙◌}
use mathlib.Core.Bool.{Bool, true, false, ◌&&◌}
use mathlib.Core.Logic.{⊎_elim}
use mathlib.Core.List.{List, [], ◌∷◌}
use Prim.Native.Nat.{ℕ, zero, suc, ◌≤◌, ◌<◌}
use native.Mathlib.Omega.{arith}
use borrow.Author.Tests.{ltb-true, lt-ltb, le-ltb, eqb-true, ne_eqb}
use lib.Dec.{ltb, eqb}
use lib.ListN.{length, get_or, get_or-eq_default}
use Rattle.lemmas.proofs.Numbers.{lt_or_ge}
use Rattle.lemmas.proofs.Tests.{both}
use Rattle.graph.specs.Table.{rank, stored}

-- Among no keys it stands first, and is none.
pub rank_nil : (x : ℕ) → rank [] x ≡ 0
unfolding rank
rank_nil x = refl

pub stored_nil : (x : ℕ) → stored [] x ≡ false
unfolding stored rank
stored_nil x = ne_eqb (suc x) x (λ e. omega arith)

module _ (y : ℕ) (ks : List ℕ) (x : ℕ) where
  -- Behind a smaller key it is looked for among the others.
  pub rank_on : ltb y x ≡ true → rank (y ∷ ks) x ≡ suc (rank ks x)
  unfolding rank
  rank_on e = rw e

  pub stored_on : ltb y x ≡ true → stored (y ∷ ks) x ≡ stored ks x
  unfolding stored
  stored_on e = rw (rank_on e)

  -- A key that is no smaller ends the search.
  pub rank_here : ltb y x ≡ false → rank (y ∷ ks) x ≡ 0
  unfolding rank
  rank_here e = rw e

  pub stored_here : ltb y x ≡ false → stored (y ∷ ks) x ≡ eqb y x
  unfolding stored
  stored_here e = rw (rank_here e)

pub rank_le : (ks : List ℕ) (x : ℕ) → rank ks x ≤ length ks
rank_le [] x = omega (arith, rank_nil x)
rank_le (y ∷ ks) x = go (rank_le ks x) (ltb y x) refl
  where
    go : rank ks x ≤ length ks → (t : Bool) → ltb y x ≡ t → rank (y ∷ ks) x ≤ suc (length ks)
    go ih true e = omega (arith, rank_on y ks x e)
    go ih false e = omega (arith, rank_here y ks x e)

-- The keys before the place are smaller.
pub rank_before : (ks : List ℕ) (x i : ℕ) → i < rank ks x → ltb (get_or ks i 0) x ≡ true
rank_before [] x i h = absurd (omega (arith, rank_nil x))
rank_before (y ∷ ks) x i h = go (ltb y x) refl i h (rank_before ks x)
  where
    go : (t : Bool) → ltb y x ≡ t → (i : ℕ) → i < rank (y ∷ ks) x → ((j : ℕ) → j < rank ks x → ltb (get_or ks j 0) x ≡ true)
        → ltb (get_or (y ∷ ks) i 0) x ≡ true
    go true e zero h ih = e
    go true e (suc j) h ih = ih j (omega (arith, rank_on y ks x e))
    go false e i h ih = absurd (omega (arith, rank_here y ks x e))

default_any : (l : List ℕ) (i d e : ℕ) → i < length l → get_or l i e ≡ get_or l i d
default_any [] i d e h = absurd (omega arith)
default_any (x ∷ l) zero d e h = refl
default_any (x ∷ l) (suc i) d e h = default_any l i d e (omega arith)

-- It is one of the keys where the place is one of theirs and holds it.
pub stored_is : (ks : List ℕ) (x : ℕ) → stored ks x ≡ ltb (rank ks x) (length ks) && eqb (get_or ks (rank ks x) 0) x
unfolding stored
stored_is ks x = ⊎_elim
    (λ h. rw (lt-ltb (rank ks x) (length ks) h, default_any ks (rank ks x) 0 (suc x) h))
    (λ h. rw (le-ltb (rank ks x) (length ks) h, get_or-eq_default ks (suc x) h) (ne_eqb (suc x) x (λ e. omega arith)))
    (lt_or_ge (rank ks x) (length ks))

module _ (ks : List ℕ) (x : ℕ) (h : stored ks x ≡ true) where
  pub stored_lt : rank ks x < length ks
  stored_lt = ltb-true (rank ks x) (length ks) (both (ltb (rank ks x) (length ks)) (eqb (get_or ks (rank ks x) 0) x) (sym (stored_is ks x) ∙ h)).0

  pub stored_at : get_or ks (rank ks x) 0 ≡ x
  stored_at =
      eqb-true (get_or ks (rank ks x) 0) x (both (ltb (rank ks x) (length ks)) (eqb (get_or ks (rank ks x) 0) x) (sym (stored_is ks x) ∙ h)).1

-- Two stored k-mers at one place are one.
pub same_rank : (ks : List ℕ) (x y : ℕ) → stored ks x ≡ true → stored ks y ≡ true → rank ks x ≡ rank ks y → x ≡ y
same_rank ks x y p q e = sym (stored_at ks x p) ∙ ap (λ (i : ℕ). get_or ks i 0) e ∙ stored_at ks y q
