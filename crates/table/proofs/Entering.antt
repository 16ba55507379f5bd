-- Values put in at places, the last first: those from the j-th on are in. Assumes nothing.
use mathlib.Core.Path.{◌≡◌, ◌∙◌}
use mathlib.Core.Bool.{true}
use mathlib.Core.List.{List, []}
use Prim.Native.Nat.{ℕ, suc, ◌-◌, ◌≤◌, ◌<◌}
use native.Mathlib.Omega.{arith}
use lib.ListN.{length, get_or, take, drop, drop_of_length-le}
use lib.Seq.{drop-cons, length-take-le, get_or-take}
use Rattle.graph.specs.Table.{insert_at}
use Rattle.table.specs.Join.{rising, put_in}
use Rattle.table.proofs.Places.{place_within, place_order}

-- A list with the values from the j-th on put in.
abbrev pub put_from : ℕ → List ℕ → List ℕ → List ℕ → List ℕ
put_from j ps xs l = put_in (drop j ps) (drop j xs) l

put_none : (j : ℕ) (ps xs l : List ℕ) → length ps ≤ j → put_from j ps xs l ≡ l
unfolding put_in
put_none j ps xs l h = let e : drop j ps ≡ [] = drop_of_length-le ps h in rw e

put_next : (j : ℕ) (ps xs l : List ℕ) → j < length ps → j < length xs
    → put_from j ps xs l ≡ insert_at (get_or ps j 0) (get_or xs j 0) (put_from (suc j) ps xs l)
unfolding put_in
put_next j ps xs l h k = let d = drop-cons ps j 0 h in let e = drop-cons xs j 0 k in rw (d, e)

-- The vertices from the j-th on are in, and no place of those before it is above the end.
pub record Upto (n m : ℕ) (places : List ℕ) (end j : ℕ) : Type 0 where
  pub left : j ≤ m
  pub within : end ≤ n
  pub next : (k : ℕ) → k < j → get_or places k 0 ≤ end

module _ (n m : ℕ) (places : List ℕ) (l : m ≤ length places) where
  pub upto_none : rising n 0 (take m places) ≡ true → Upto n m places n m
  upto_none r = record { left = omega arith; within = omega arith; next = place_within n m places l r }

  pub upto_more : {end j : ℕ} → rising n 0 (take m places) ≡ true → Upto n m places end j → 0 < j
      → Upto n m places (get_or places (j - 1) 0) (j - 1)
  upto_more {end} {j} r u h =
      record {
        left = omega arith;
        within = omega (arith, u.next (j - 1) (omega arith));
        next = λ k b. place_order n m places l r k (j - 1) (omega arith) (omega arith);
      }

  -- The one before them is put in.
  pub put_before : (xs ys : List ℕ) (j : ℕ) → 0 < j → j ≤ m → m ≤ length xs
      → put_from (j - 1) (take m places) xs ys
      ≡ insert_at (get_or places (j - 1) 0) (get_or xs (j - 1) 0) (put_from j (take m places) xs ys)
  put_before xs ys j h b k =
      let e : suc (j - 1) ≡ j = omega arith in
      let p : get_or (take m places) (j - 1) 0
      ≡ get_or places (j - 1) 0 = get_or-take m places (j - 1) 0 (omega arith) in
      put_next (j - 1) (take m places) xs ys (omega (arith, length-take-le m places l)) (omega arith) ∙ rw (e, p)

  pub put_last : (xs ys : List ℕ) → put_from m (take m places) xs ys ≡ ys
  put_last xs ys = put_none m (take m places) xs ys (omega (arith, length-take-le m places l))
