-- What a look-up by the directory tells of a k-mer. Assumes nothing.
use Prim.Native.Nat.{ℕ, ◌<◌}
use mathlib.Core.Path.{◌≡◌, sym, ◌∙◌}
use mathlib.Core.Bool.{true, false, cond}
use mathlib.Core.List.{List}
use native.Mathlib.Omega.{arith}
use lib.ListN.{length}
use Rattle.lemmas.proofs.Tests.{choose}
use Rattle.graph.specs.Table.{rank, stored}
use Rattle.graph.proofs.Rank.{stored_lt}
use Rattle.graph.proofs.Keys.{keys_length}
use Rattle.std.proofs.Common.{Result, Ok, Err}
use Rattle.table.proofs.Ranked.{find_rank}
use Rattle.directory.specs.Directory.{find_by}
use Rattle.directory.proofs.Confirmed.{found_by}
use Rattle.marks.specs.Ready.{keys_for, Ready}

module _ {K : ℕ} {keys ms : List ℕ} (r : Ready K keys ms) (cells : List ℕ) (c : ℕ) {f : Result ℕ ℕ}
    (ended : f ≡ find_by K (keys_for ms keys) cells c) where
  abbrev ks : List ℕ
  ks = keys_for ms keys

  found : f ≡ cond (stored ks c) (Ok (rank ks c)) (Err (rank ks c))
  found = ended ∙ found_by K ks r.fits K cells c ∙ find_rank K ks c r.fits

  pub at_is : {w : ℕ} → f ≡ Ok w → (stored ks c ≡ true) × (rank ks c ≡ w)
  at_is {w} e =
      choose (λ (g : Result ℕ ℕ). g ≡ Ok w → (stored ks c ≡ true) × (rank ks c ≡ w)) (stored ks c)
      (λ p q. (p, cc)) (λ p q. absurd (let z : ◌≡◌ {A = ℕ} 0 1 = cc in omega arith)) (sym found ∙ e)

  pub gap_is : {w : ℕ} → f ≡ Err w → stored ks c ≡ false
  gap_is {w} e =
      choose (λ (g : Result ℕ ℕ). g ≡ Err w → stored ks c ≡ false) (stored ks c)
      (λ p q. absurd (let z : ◌≡◌ {A = ℕ} 0 1 = cc in omega arith)) (λ p q. p) (sym found ∙ e)

  pub at_lt : {w : ℕ} → f ≡ Ok w → w < length ms
  at_lt e = let p = at_is e in omega (arith, stored_lt ks c p.0, p.1, keys_length (length ms) keys)
