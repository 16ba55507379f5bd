-- On fit keys the search ends at the rank. Assumes nothing.
use mathlib.Core.Path.{◌≡◌, sym, ◌∙◌}
use mathlib.Core.Bool.{true, cond}
use mathlib.Core.List.{List}
use Prim.Native.Nat.{ℕ}
use native.Mathlib.Omega.{arith}
use Rattle.std.specs.Prelude.{Result, Ok, Err}
use lib.ListN.{length}
use Rattle.graph.specs.Table.{fit_from, rank, stored}
use Rattle.graph.proofs.Rank.{rank_le, rank_before, stored_is}
use Rattle.graph.proofs.Fit.{fit_after}
use Rattle.graph.proofs.Lookup.{rank_at, at_stored}
use Rattle.table.specs.Search.{find_between, place_of, find_in}
use Rattle.table.proofs.Halving.{halving_ends}
use Rattle.table.proofs.Searching.{smaller, between_at}

module _ (K : ℕ) (ks : List ℕ) (x : ℕ) (fits : fit_from K 0 ks ≡ true) where
  pub place_rank : place_of ks x ≡ rank ks x
  unfolding place_of
  place_rank =
      halving_ends (smaller ks x) (rank ks x) (length ks) (rank_before ks x) (fit_after K 0 ks x fits) (length ks) 0
      (length ks)
      (omega arith) (omega arith) (rank_le ks x) (omega arith)

  pub find_rank : find_in ks x ≡ cond (stored ks x) (Ok (rank ks x)) (Err (rank ks x))
  unfolding find_in
  find_rank = rw (place_rank, stored_is ks x)

  -- What is found between two places is found among all.
  pub find_anywhere : (lo hi : ℕ) {f : Result ℕ ℕ} {i : ℕ} → f ≡ find_between ks lo hi x → f ≡ Ok i
      → Ok i ≡ find_in ks x
  find_anywhere lo hi {i = i} e q =
      let p = between_at ks lo hi x i (sym e ∙ q) in
      sym (find_rank ∙ rw (rw p.1 at (at_stored K ks fits i p.0), rw p.1 at (rank_at K 0 ks fits i p.0)))
