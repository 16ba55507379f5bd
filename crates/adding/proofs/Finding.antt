-- Where the search finds a k-mer, or would put it. Assumes nothing.
use mathlib.Core.Path.{◌≡◌, sym, ◌∙◌}
use mathlib.Core.Bool.{Bool, true, false, cond}
use mathlib.Core.Logic.{⊎_elim}
use mathlib.Core.List.{List}
use Prim.Native.Nat.{ℕ, ◌≤◌}
use native.Mathlib.Omega.{arith}
use Rattle.std.specs.Prelude.{Result, Ok, Err}
use Rattle.lemmas.proofs.Numbers.{true_or_false}
use Rattle.graph.specs.Table.{keys_of, fit_from, rank, stored}
use Rattle.graph.proofs.Keys.{keys_length}
use Rattle.graph.proofs.Rank.{rank_le}
use Rattle.directory.specs.Directory.{find_by}
use Rattle.directory.proofs.Confirmed.{found_by}
use Rattle.table.proofs.Ranked.{find_rank}

-- What the search finds is the k-mer's rank, and whether it is stored.
pub record Finds (ks : List ℕ) (x i : ℕ) (there : Bool) : Type 0 where
  pub place : i ≡ rank ks x
  pub is : stored ks x ≡ there

module _ (K n : ℕ) (keys cells : List ℕ) (x : ℕ) (fits : fit_from K 0 (keys_of n keys) ≡ true) {f : Result ℕ ℕ}
    (e : f ≡ find_by K (keys_of n keys) cells x) where
  abbrev ks : List ℕ
  ks = keys_of n keys

  found : f ≡ cond (stored ks x) (Ok (rank ks x)) (Err (rank ks x))
  found = e ∙ found_by K ks fits K cells x ∙ find_rank K ks x fits

  pub finds_ok : {i : ℕ} → f ≡ Ok i → Finds ks x i true
  finds_ok {i} q =
      ⊎_elim
      (λ s.
      let a : Ok i ≡ Ok (rank ks x) = sym q ∙ found ∙ rw s in
      record { place = cc; is = s })
      (λ s.
      let a : Ok i ≡ Err (rank ks x) = sym q ∙ found ∙ rw s in
      cc)
      (true_or_false (stored ks x))

  pub finds_err : {i : ℕ} → f ≡ Err i → Finds ks x i false
  finds_err {i} q =
      ⊎_elim
      (λ s.
      let a : Err i ≡ Ok (rank ks x) = sym q ∙ found ∙ rw s in
      cc)
      (λ s.
      let a : Err i ≡ Err (rank ks x) = sym q ∙ found ∙ rw s in
      record { place = cc; is = s })
      (true_or_false (stored ks x))

-- Such a place is at most the number stored.
pub finds_below : {x i : ℕ} {t : Bool} (n : ℕ) (keys : List ℕ) → Finds (keys_of n keys) x i t → i ≤ n
finds_below {x} n keys f = omega (arith, f.place, rank_le (keys_of n keys) x, keys_length n keys)
