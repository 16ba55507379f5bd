-- A look-up by a directory that finds x where its slot says. Assumes nothing.
use Rattle.std.proofs.Common.{◌≡◌, ℕ, ◌+◌, ◌<◌, true, ltb, List, length, get_or, sym, ap, ◌∙◌, add-one, arith, Result, Ok}
use Rattle.table.specs.Search.{find_between}
use Rattle.directory.specs.Directory.{bases_of, slot_of, stands, hinted, find_by}
use Rattle.directory.proofs.Cells.{bases_some}

module _ (k : ℕ) (ks cells : List ℕ) (x b t : ℕ) (e : b ≡ bases_of (length cells)) (l : b ≡ 0 → ⊥)
    (s : t ≡ slot_of b k x)
    (f : Result ℕ ℕ) (h : f ≡ find_between ks (get_or cells t 0) (get_or cells (t + 1) 0) x) where
  hinted_is : hinted k ks cells x ≡ f
  hinted_is = sym (h ∙ rw (add-one t, s, e))

  enough : ltb 1024 (length cells) ≡ true
  enough = let g : 0 < b = omega arith in bases_some (length cells) (rw e at g)

  pub look_at : (i : ℕ) → f ≡ Ok i → Ok i ≡ find_by k ks cells x
  unfolding stands
  look_at i q = sym q ∙ rw (hinted_is, enough, ap (stands ks x) q)
