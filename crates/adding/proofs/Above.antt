-- A k-mer above all keys, put behind them. Assumes nothing.
use mathlib.Core.Path.{◌≡◌, sym, ap, ◌∙◌}
use mathlib.Core.Bool.{true, false, ◌||◌}
use mathlib.Core.Logic.{⊎_elim}
use mathlib.Core.List.{List, [], ◌∷◌, ◌++◌}
use Prim.Native.Nat.{ℕ, ◌-◌, ◌^◌, ◌<◌}
use native.Mathlib.Omega.{arith}
use lib.Dec.{eqb}
use lib.ListN.{length, get_or}
use lib.Seq.{take-length, drop-length}
use borrow.Author.Tests.{ltb-false, lt-ltb, le-ltb}
use Rattle.lemmas.proofs.Numbers.{lt_or_ge}
use Rattle.kmer.specs.Kmer.{is_canon}
use Rattle.graph.specs.Table.{Table, fit_from, rank, stored}
use Rattle.graph.proofs.Rank.{rank_le, stored_is}
use Rattle.graph.proofs.Fit.{fit_after}
use Rattle.graph.proofs.Insert.{with_key, insert_fit}
use Rattle.graph.proofs.Store.{store_new}
use Rattle.graph.proofs.Adding.{store_or}

module _ (K : ℕ) (ks : List ℕ) (x : ℕ) (fits : fit_from K 0 ks ≡ true) (above : 0 < length ks → get_or ks (length ks - 1) 0 < x) where
  above_rank : rank ks x ≡ length ks
  above_rank =
      ⊎_elim
      (λ h.
      let a = fit_after K 0 ks x fits (length ks - 1) (omega arith) (omega arith) in
      absurd (omega (arith, ltb-false (get_or ks (length ks - 1) 0) x a, above (omega arith))))
      (λ h. omega (arith, rank_le ks x)) (lt_or_ge (rank ks x) (length ks))

  pub above_new : stored ks x ≡ false
  above_new = stored_is ks x ∙ rw (above_rank, le-ltb (length ks) (length ks) (omega arith))

  above_last : with_key ks x ≡ ks ++ (x ∷ [])
  above_last = rw (above_rank, take-length ks, drop-length ks)

  pub above_fit : x < 4 ^ K → is_canon K x ≡ true → fit_from K 0 (ks ++ (x ∷ [])) ≡ true
  above_fit b c = rw above_last at (insert_fit K 0 x ks fits (omega arith) (lt-ltb x (4 ^ K) b) c above_new)

  pub above_stored : (y : ℕ) → stored (ks ++ (x ∷ [])) y ≡ (stored ks y || eqb x y)
  above_stored y =
      let t : Table = record { keys = ks; counts = [] } in
      sym (ap (λ (u : Table). stored u.keys y) (store_new t x above_new) ∙ ap (λ (l : List ℕ). stored l y) above_last)
      ∙ store_or t x y
