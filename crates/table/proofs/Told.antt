-- What the answer of the test of a table tells of K and of the table. Assumes nothing.
use mathlib.Core.Path.{◌≡◌, refl, sym, ap, ◌∙◌}
use mathlib.Core.Bool.{Bool, true, false, cond}
use mathlib.Core.List.{List, [], ◌∷◌}
use Prim.Native.Nat.{ℕ}
use native.Mathlib.Omega.{arith}
use Rattle.std.specs.Prelude.{Result, Ok, Err}
use Rattle.dna.specs.Answer.{Answer, gives, refuses}
use Rattle.kmer.specs.Kmer.{ok_k}
use Rattle.state.specs.Counted.{Kind}
use Rattle.graph.specs.Table.{fit_for}
use Rattle.table.specs.Calls.{fit_answer, fit_call}
use Rattle.table.specs.declared.FitError.{FitError}
use Rattle.table.specs.declared.FitError.TheVariants.{Unfit, UnsupportedK}

-- ---- two tests in a row

abbrev tested : ℕ → Bool → Bool → Answer (Unit {0})
tested K t u = cond t (cond u (gives tt) (refuses 5 [])) (refuses 1 (K ∷ []))

refused_1 : (K k : ℕ) (t u : Bool) → refuses 1 (k ∷ []) ≡ tested K t u → (t ≡ false) × (k ≡ K)
refused_1 K k true true e = let z : ◌≡◌ {A = ℕ} 0 1 = cc in absurd (omega arith)
refused_1 K k true false e = let z : ◌≡◌ {A = ℕ} 1 5 = cc in absurd (omega arith)
refused_1 K k false u e = (refl, cc)

refused_5 : (K : ℕ) (t u : Bool) → refuses 5 [] ≡ tested K t u → (t ≡ true) × (u ≡ false)
refused_5 K true true e = let z : ◌≡◌ {A = ℕ} 0 1 = cc in absurd (omega arith)
refused_5 K true false e = (refl, refl)
refused_5 K false u e = let z : ◌≡◌ {A = ℕ} 5 1 = cc in absurd (omega arith)

passed : (K : ℕ) (t u : Bool) → gives tt ≡ tested K t u → (t ≡ true) × (u ≡ true)
passed K true true e = (refl, refl)
passed K true false e = let z : ◌≡◌ {A = ℕ} 0 1 = cc in absurd (omega arith)
passed K false u e = let z : ◌≡◌ {A = ℕ} 0 1 = cc in absurd (omega arith)

-- ---- the answer

module _ (κ : Kind) (K n : ℕ) (keys counts : List ℕ) {r : Result (Unit {0}) FitError}
    (t : fit_answer r ≡ fit_call κ K n keys counts) where
  pub told_unsupported : {k : ℕ} → r ≡ Err (UnsupportedK k) → (ok_k K ≡ false) × (k ≡ K)
  told_unsupported {k} e = refused_1 K k (ok_k K) (fit_for κ K n keys counts) (sym (ap fit_answer e) ∙ t)

  pub told_unfit : r ≡ Err Unfit → (ok_k K ≡ true) × (fit_for κ K n keys counts ≡ false)
  told_unfit e = refused_5 K (ok_k K) (fit_for κ K n keys counts) (sym (ap fit_answer e) ∙ t)

  pub told_fit : r ≡ Ok tt → (ok_k K ≡ true) × (fit_for κ K n keys counts ≡ true)
  told_fit e = passed K (ok_k K) (fit_for κ K n keys counts) (sym (ap fit_answer e) ∙ t)
