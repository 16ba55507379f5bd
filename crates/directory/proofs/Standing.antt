-- The test of the keys beside a place, and that a search ends at a place up to the last. Assumes nothing.
use mathlib.Core.Path.{◌≡◌}
use mathlib.Core.Bool.{Bool, true, false, ◌&&◌}
use mathlib.Core.List.{List}
use Prim.Native.Nat.{ℕ, zero, suc, ◌+◌, ◌-◌, ◌/◌, ◌≤◌, ◌<◌, min}
use native.Mathlib.Omega.{arith}
use Rattle.std.specs.Prelude.{Result, Err}
use borrow.Author.Tests.{ltb-true, le-leb, lt-leb, eq-eqb, ne_eqb}
use lib.Dec.{ltb, eqb}
use lib.ListN.{length, get_or}
use Rattle.lemmas.proofs.Tests.{choose}
use Rattle.graph.specs.Table.{keys_of}
use Rattle.graph.proofs.Keys.{keys_length}
use Rattle.table.specs.Search.{key, halving, place_between, find_between}
use Rattle.table.proofs.Keys.{key_is}
use Rattle.table.proofs.Halving.{middle}
use Rattle.directory.specs.Directory.{before, stands}

-- The first n keys of a slice, and x beside place i.
module _ (n : ℕ) (words : List ℕ) (x i : ℕ) where
  pub before_at : (v : ℕ) → i < min n (length words / 2) → v ≡ key words i → ltb x v ≡ before (keys_of n words) x i
  before_at v h e =
      let s = keys_length n words in
      rw (lt-leb (length (keys_of n words)) i (omega arith), key_is n words i (omega arith) (omega arith), e)

  pub before_end : min n (length words / 2) ≤ i → true ≡ before (keys_of n words) x i
  before_end h = let s = keys_length n words in rw (le-leb (length (keys_of n words)) i (omega arith))

  pub stands_not : before (keys_of n words) x i ≡ false → false ≡ stands (keys_of n words) x (Err i)
  unfolding stands
  stands_not e = rw e

  pub stands_first : before (keys_of n words) x i ≡ true → i ≡ 0 → true ≡ stands (keys_of n words) x (Err i)
  unfolding stands
  stands_first e z = rw (e, eq-eqb i 0 z)

  pub stands_on : (v : ℕ) → before (keys_of n words) x i ≡ true → (i ≡ 0 → ⊥) → i ≤ length (keys_of n words)
      → v ≡ key words (i - 1)
      → ltb v x ≡ stands (keys_of n words) x (Err i)
  unfolding stands
  stands_on v e z h k =
      let s = keys_length n words in
      rw (e, ne_eqb i 0 z, key_is n words (i - 1) (omega arith) (omega arith), k)

halving_most : (passes : ℕ → Bool) (most lo hi : ℕ) → lo ≤ hi → halving passes most lo hi ≤ hi
unfolding halving
halving_most passes zero lo hi h = h
halving_most passes (suc most) lo hi h =
    choose (λ (r : ℕ). r ≤ hi) (ltb lo hi)
    (λ t.
    let l = ltb-true lo hi t in
    choose (λ (r : ℕ). r ≤ hi) (passes (middle lo hi))
    (λ _. halving_most passes most (middle lo hi + 1) hi (omega arith))
    (λ _. omega (arith, halving_most passes most lo (middle lo hi) (omega arith))))
    (λ _. h)

pub gap_most : (ks : List ℕ) (lo hi x i : ℕ) → find_between ks lo hi x ≡ Err i → i ≤ length ks
unfolding find_between place_between
gap_most ks lo hi x i e =
    let end = min hi (length ks) in
    let p = place_between ks (min lo end) end x in
    choose (λ (f : Result ℕ ℕ). f ≡ Err i → i ≤ length ks) (ltb p end && eqb (get_or ks p 0) x)
    (λ t e. let z : ◌≡◌ {A = ℕ} 0 1 = cc in absurd (omega arith))
    (λ t e.
    let s : p ≡ i = cc in
    omega (arith, halving_most (λ j. ltb (get_or ks j 0) x) (length ks) (min lo end) end (omega arith))) e
