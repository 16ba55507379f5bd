-- Over a fit table the answer is right whatever the directory says. Assumes nothing.
use mathlib.Core.Path.{◌≡◌, refl, sym, ◌∙◌}
use mathlib.Core.Bool.{true, false, ◌&&◌}
use mathlib.Core.List.{List}
use mathlib.Core.Logic.{⊎_elim}
use Prim.Native.Nat.{ℕ, ◌-◌, ◌≤◌, ◌<◌}
use native.Mathlib.Omega.{arith}
use Rattle.std.specs.Prelude.{Result, Ok, Err}
use borrow.Author.Tests.{ltb-true, lt-ltb, le-ltb, ne_eqb, lt-leb}
use lib.Dec.{ltb}
use lib.ListN.{length, get_or}
use Rattle.lemmas.proofs.Numbers.{lt_or_ge}
use Rattle.lemmas.proofs.Tests.{choose, both, never}
use Rattle.graph.specs.Table.{fit_from, rank, stored}
use Rattle.graph.proofs.Rank.{rank_le, rank_before, stored_is}
use Rattle.graph.proofs.Fit.{fit_after}
use Rattle.table.specs.Search.{find_between, find_in}
use Rattle.table.proofs.Ranked.{find_rank, find_anywhere}
use Rattle.directory.specs.Directory.{before, behind, stands, hinted, find_by}
use Rattle.directory.proofs.Standing.{gap_most}

module _ (K : ℕ) (ks : List ℕ) (fits : fit_from K 0 ks ≡ true) (x : ℕ) where
  -- A place whose keys beside it say that x would be there is x's rank.
  module _ (i : ℕ) (h : i ≤ length ks) (a : before ks x i ≡ true) (b : behind ks x i ≡ true) where
    above : i < length ks → x < get_or ks i 0
    above l = ltb-true x (get_or ks i 0) (rw (lt-leb (length ks) i l) at a)

    rank_up : rank ks x ≤ i
    rank_up =
        ⊎_elim
        (λ l. absurd (omega (
          arith,
          above (omega (arith, rank_le ks x)),
          ltb-true (get_or ks i 0) x
              (rank_before ks x i l),
        )))
        (λ l. l) (lt_or_ge i (rank ks x))

    rank_down : i ≤ rank ks x
    rank_down =
        ⊎_elim
        (λ l.
        let p : ltb (get_or ks (i - 1) 0) x ≡ true = rw (ne_eqb i 0 (λ z. omega arith)) at b in
        never (ltb (get_or ks (i - 1) 0) x) p (fit_after K 0 ks x fits (i - 1) (omega arith) (omega arith)))
        (λ l. l) (lt_or_ge (rank ks x) i)

    rank_here : rank ks x ≡ i
    rank_here = omega (arith, rank_up, rank_down)

    no_key : stored ks x ≡ false
    no_key =
        stored_is ks x
        ∙ ⊎_elim (λ l. rw (rank_here, lt-ltb i (length ks) l) (ne_eqb (get_or ks i 0) x (λ e. omega (arith, above l))))
        (λ l. rw (rank_here, le-ltb i (length ks) l)) (lt_or_ge i (length ks))

    gap_here : Err i ≡ find_in ks x
    gap_here = sym (find_rank K ks x fits ∙ rw (no_key, rank_here))

  -- What is found between two places and stands the test is what is found among all.
  between_stands : (lo hi : ℕ) (f : Result ℕ ℕ) → f ≡ find_between ks lo hi x → stands ks x f ≡ true → f ≡ find_in ks x
  unfolding stands
  between_stands lo hi (Ok i) e s = find_anywhere K ks x fits lo hi e refl
  between_stands lo hi (Err i) e s =
      let t = both (before ks x i) (behind ks x i) s in
      gap_here i (gap_most ks lo hi x i (sym e)) t.0 t.1

pub found_by : (K : ℕ) (ks : List ℕ) → fit_from K 0 ks ≡ true → (k : ℕ) (cells : List ℕ) (x : ℕ)
    → find_by k ks cells x ≡ find_in ks x
found_by K ks fits k cells x =
    let f : Result ℕ ℕ = hinted k ks cells x in
    choose (λ (g : Result ℕ ℕ). g ≡ find_in ks x) (ltb 1024 (length cells) && stands ks x f)
    (λ t. between_stands K ks fits x _ _ f refl (both (ltb 1024 (length cells)) (stands ks x f) t).1)
    (λ t. refl)
