-- Keys tested one by one: what is left to test, and how each test bears on the whole. Assumes nothing.
use mathlib.Core.Path.{◌≡◌, sym, ◌∙◌}
use mathlib.Core.Bool.{Bool, true, false, ◌&&◌}
use mathlib.Core.List.{List, ◌∷◌}
use Prim.Native.Nat.{ℕ, suc, ◌+◌, ◌-◌, ◌*◌, ◌/◌, ◌^◌, ◌≤◌, ◌<◌}
use native.Mathlib.Omega.{arith}
use borrow.Author.Tests.{le-leb, lt-leb, ltb-true}
use lib.Dec.{ltb, leb}
use lib.ListN.{length, drop}
use lib.Seq.{drop-cons}
use Rattle.lemmas.proofs.Tests.{both}
use Rattle.kmer.specs.Kmer.{is_canon}
use Rattle.graph.specs.Table.{keys_of, fit_from}
use Rattle.table.specs.Search.{key}

-- The next key has to be at least some number: a k-mer below that fails, and any other passes as it is a key.
module _ (K least x : ℕ) where
  pub too_low : x < least → false ≡ leb least x && ltb x (4 ^ K) && is_canon K x
  too_low l = rw (lt-leb least x l)

  pub not_low : {t : Bool} → least ≤ x → t ≡ ltb x (4 ^ K) && is_canon K x
      → t ≡ leb least x && ltb x (4 ^ K) && is_canon K x
  not_low l e = e ∙ rw (le-leb least x l)

-- The first i keys have passed, the next has to be at least some number up to 4 to the K, and the whole is as the rest
-- is.
pub record Passed (K n : ℕ) (keys : List ℕ) (least i : ℕ) : Type 0 where
  pub upto : i ≤ n
  pub bounded : least ≤ 4 ^ K
  pub rest : fit_from K 0 (keys_of n keys) ≡ fit_from K least (keys_of (n - i) (drop (2 * i) keys))

module _ (K n : ℕ) (keys : List ℕ) where
  pub passed_none : Passed K n keys 0 0
  passed_none = let e : n - 0 ≡ n = omega arith in record { upto = omega arith; bounded = omega arith; rest = rw e }

  pub passed_all : {least i : ℕ} → Passed K n keys least i → n ≤ i → true ≡ fit_from K 0 (keys_of n keys)
  unfolding fit_from keys_of
  passed_all {least} {i} p l =
      let e : n - i ≡ 0 = omega arith in
      sym (p.rest ∙ rw e)

  module _ {least i : ℕ} (p : Passed K n keys least i) (h : i < n) (l : n ≤ length keys / 2) where
    first : keys_of (n - i) (drop (2 * i) keys) ≡ key keys i ∷ keys_of (n - (i + 1)) (drop (2 * (i + 1)) keys)
    unfolding keys_of
    first =
        let a : n - i ≡ suc (n - (i + 1)) = omega arith in
        let d = drop-cons keys (2 * i) 0 (omega arith) in
        let e = drop-cons keys (suc (2 * i)) 0 (omega arith) in
        let q : 2 * i + 1 ≡ suc (2 * i) = omega arith in
        let s : 2 * (i + 1) ≡ suc (suc (2 * i)) = omega arith in
        rw (a, d, e, q, s)

    tests : fit_from K 0 (keys_of n keys)
        ≡ leb least (key keys i) && ltb (key keys i) (4 ^ K) && is_canon K (key keys i)
        && fit_from K (suc (key keys i)) (keys_of (n - (i + 1)) (drop (2 * (i + 1)) keys))
    unfolding fit_from
    tests = p.rest ∙ rw first

    pub not_passed : false ≡ leb least (key keys i) && ltb (key keys i) (4 ^ K) && is_canon K (key keys i)
        → false ≡ fit_from K 0 (keys_of n keys)
    not_passed e = sym (tests ∙ rw (sym e))

    pub passed_more : true ≡ leb least (key keys i) && ltb (key keys i) (4 ^ K) && is_canon K (key keys i)
        → Passed K n keys (suc (key keys i)) (i + 1)
    passed_more e =
        let b = (both (leb least (key keys i)) _
        (both (leb least (key keys i) && ltb (key keys i) (4 ^ K)) _ (sym e)).0).1 in
        record { upto = omega arith; bounded = ltb-true (key keys i) (4 ^ K) b; rest = tests ∙ rw (sym e) }
