-- A vertex ahead: how it is found, and by which side it is entered. Assumes nothing.
use mathlib.Core.Path.{◌≡◌, sym, ◌∙◌}
use mathlib.Core.Bool.{true, false, cond}
use mathlib.Core.List.{List}
use Prim.Native.Nat.{ℕ, min}
use native.Mathlib.Omega.{arith}
use borrow.Author.Tests.{ltb-true, ltb-false, le-leb, lt-leb}
use lib.Dec.{ltb}
use Rattle.std.specs.Prelude.{Result, Ok, Err}
use Rattle.lemmas.proofs.Tests.{choose}
use Rattle.kmer.specs.Kmer.{rc, canon, is_canon}
use Rattle.state.specs.declared.Side.{Side}
use Rattle.state.specs.declared.Side.TheVariants.{Front, Back}
use Rattle.graph.specs.declared.Step.{Step}
use Rattle.graph.specs.declared.Step.TheVariants.{Missing}
use Rattle.graph.specs.Table.{rank, stored}
use Rattle.graph.specs.Walks.{enter, arrive}
use Rattle.table.specs.Search.{find_in}
use Rattle.table.proofs.Ranked.{find_rank}
use Rattle.marks.specs.Marks.{ends, visits}
use Rattle.marks.specs.Ready.{keys_for, Ready}
use Rattle.contraction.specs.Over.{look_in, arrive_in}

-- The k-mer y, with where it is found.
module _ {K : ℕ} {keys ms : List ℕ} (r : Ready K keys ms) (a : ℕ) (start : Side) (y : ℕ) {f : Result ℕ ℕ}
    (ended : f ≡ find_in (keys_for ms keys) y) where
  abbrev ks : List ℕ
  ks = keys_for ms keys

  found : f ≡ cond (stored ks y) (Ok (rank ks y)) (Err (rank ks y))
  found = ended ∙ find_rank K ks y r.fits

  found_at : {w : ℕ} → f ≡ Ok w → (stored ks y ≡ true) × (rank ks y ≡ w)
  found_at {w} e =
      choose (λ (g : Result ℕ ℕ). g ≡ Ok w → (stored ks y ≡ true) × (rank ks y ≡ w)) (stored ks y)
      (λ p q. (p, cc)) (λ p q. absurd (cc)) (sym found ∙ e)

  pub look_found : {w : ℕ} → f ≡ Ok w → (t : Side) (b : ℕ) {st : Step}
      → ((N : ℕ) (l : List ℕ) → st ≡ enter N l (ends ms) a start (visits ms) w t b)
      → st ≡ look_in K keys ms a start y t b
  look_found e t b enters = let p = found_at e in enters K ks ∙ rw (p.0, p.1)

  pub look_missing : {w : ℕ} → f ≡ Err w → (t : Side) (b : ℕ) → Missing ≡ look_in K keys ms a start y t b
  look_missing {w} e t b =
      choose (λ (g : Result ℕ ℕ). g ≡ Err w → Missing ≡ look_in K keys ms a start y t b) (stored ks y)
      (λ p q. absurd (cc)) (λ p q. rw p) (sym found ∙ e)

-- The k-mer y and its reverse complement o: the smaller is looked up, and whether it is y says by which side the vertex
-- is entered.
module _ (K : ℕ) (keys ms : List ℕ) (a : ℕ) (start : Side) (y b : ℕ) {o : ℕ} (other : o ≡ rc K y) {st : Step} where
  pub arrive_turned : ltb o y ≡ true → st ≡ look_in K keys ms a start o Back b → st ≡ arrive_in K keys ms a start y b
  unfolding arrive canon is_canon
  arrive_turned h e =
      let l = ltb-true o y h in
      let c : min y (rc K y) ≡ o = omega arith in
      e ∙ rw (c, lt-leb y (rc K y) (omega arith))

  pub arrive_straight : ltb o y ≡ false → st ≡ look_in K keys ms a start y Front b
      → st ≡ arrive_in K keys ms a start y b
  unfolding arrive canon is_canon
  arrive_straight h e =
      let l = ltb-false o y h in
      let c : min y (rc K y) ≡ y = omega arith in
      e ∙ rw (c, le-leb y (rc K y) (omega arith))
