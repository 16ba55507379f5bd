-- The search among the keys of a slice: its tests, the place at which it ends, and what is found there. Assumes
-- nothing.
use mathlib.Core.Path.{◌≡◌, sym, ap, ◌∙◌}
use mathlib.Core.Bool.{Bool, true, false, cond, ◌&&◌}
use mathlib.Core.List.{List}
use Prim.Native.Nat.{ℕ, ◌/◌, ◌≤◌, ◌<◌, min}
use native.Mathlib.Omega.{arith}
use Rattle.std.specs.Prelude.{Result, Ok, Err}
use lib.Dec.{ltb, eqb}
use lib.ListN.{length, get_or}
use borrow.Author.Tests.{ltb-true, lt-ltb, le-ltb, eqb-true}
use Rattle.lemmas.proofs.Tests.{choose, both}
use Rattle.graph.specs.Table.{keys_of}
use Rattle.table.specs.Search.{key, place_between, find_between, place_of, find_in}
use Rattle.graph.proofs.Keys.{keys_length}
use Rattle.table.proofs.Keys.{key_is}
use Rattle.table.proofs.Halving.{Left, left_none}

-- The key at a place is smaller than x.
abbrev pub smaller : List ℕ → ℕ → ℕ → Bool
smaller ks x i = ltb (get_or ks i 0) x

-- The search from l to h among the first n keys of a slice, which reach so far.
module _ (n : ℕ) (words : List ℕ) (x l h : ℕ) where
  abbrev pub Leaves : ℕ → ℕ → Type 0
  Leaves lo hi = Left (smaller (keys_of n words) x) (length (keys_of n words)) l h lo hi

  pub smaller_is : h ≤ length (keys_of n words) → (i v : ℕ) (t : Bool) → i < h → v ≡ key words i → t ≡ ltb v x
      → smaller (keys_of n words) x i ≡ t
  smaller_is w i v t k e f =
      let s = keys_length n words in
      ap (λ (y : ℕ). ltb y x) (key_is n words i (omega arith) (omega arith) ∙ sym e) ∙ sym f

  pub place_is : {lo hi : ℕ} → Leaves lo hi → hi ≤ lo → lo ≡ place_between (keys_of n words) l h x
  unfolding place_between
  place_is left e = left_none (smaller (keys_of n words) x) left e

-- The search from lo to hi among the first n keys goes from l to m, cut to those that there are, and ends at i.
module _ (n : ℕ) (words : List ℕ) (lo hi x l m i : ℕ) (e : m ≡ min (min hi n) (length words / 2)) (f : l ≡ min lo m)
    (p : m ≤ length (keys_of n words) → i ≡ place_between (keys_of n words) l m x) where
  found_is : find_between (keys_of n words) lo hi x
      ≡ cond (ltb i m && eqb (get_or (keys_of n words) i 0) x) (Ok i) (Err i)
  unfolding find_between
  found_is =
      let s = keys_length n words in
      let c : min hi (length (keys_of n words)) ≡ m = omega arith in
      let q : place_between (keys_of n words) l m x ≡ i = sym (p (omega arith)) in
      rw (c, ← f, q)

  pub find_end : m ≤ i → Err i ≡ find_between (keys_of n words) lo hi x
  find_end h = sym (found_is ∙ rw (le-ltb i m h))

  module _ (h : i < m) (v : ℕ) (k : v ≡ key words i) where
    here : get_or (keys_of n words) i 0 ≡ v
    here = key_is n words i (omega arith) (omega arith) ∙ sym k

    pub find_at : eqb v x ≡ true → Ok i ≡ find_between (keys_of n words) lo hi x
    find_at e = sym (found_is ∙ rw (lt-ltb i m h, here, e))

    pub find_gap : eqb v x ≡ false → Err i ≡ find_between (keys_of n words) lo hi x
    find_gap e = sym (found_is ∙ rw (lt-ltb i m h, here, e))

-- From the first place to the last it is the search among all.
pub find_all : (n : ℕ) (words : List ℕ) (x : ℕ) {f : Result ℕ ℕ} → f ≡ find_between (keys_of n words) 0 n x
    → f ≡ find_in (keys_of n words) x
unfolding find_between find_in place_between place_of
find_all n words x e =
    let s = keys_length n words in
    let l : min n (length (keys_of n words)) ≡ length (keys_of n words) = omega arith in
    let z : min 0 (length (keys_of n words)) ≡ 0 = omega arith in
    rw (l, z) at e

-- What is found between two places stands there.
pub between_at : (ks : List ℕ) (lo hi x i : ℕ) → find_between ks lo hi x ≡ Ok i → (i < length ks) × (get_or ks i 0 ≡ x)
unfolding find_between
between_at ks lo hi x i e =
    let end = min hi (length ks) in
    let p = place_between ks (min lo end) end x in
    choose (λ (f : Result ℕ ℕ). f ≡ Ok i → (i < length ks) × (get_or ks i 0 ≡ x)) (ltb p end && eqb (get_or ks p 0) x)
    (λ t e.
    let s : p ≡ i = cc in
    let b = both (ltb p end) (eqb (get_or ks p 0) x) t in
    (omega (arith, ltb-true p end b.0), rw s at (eqb-true (get_or ks p 0) x b.1)))
    (λ t e. let z : ◌≡◌ {A = ℕ} 0 1 = cc in absurd (omega arith)) e
