-- The order of two words, and the canonical form by the order. Assumes nothing.
use mathlib.Core.Path.{◌≡◌, sym}
use mathlib.Core.Bool.{true, false, not}
use mathlib.Core.Logic.{⊎_elim}
use Prim.Native.Nat.{ℕ, ◌^◌, ◌<◌}
use native.Mathlib.Omega.{arith}
use lib.Arith.{lt_of_le-ne}
use lib.Dec.{ltb}
use borrow.Author.Tests.{lt-ltb, le-ltb, le-leb, lt-leb, ltb-true, ltb-false}
use Rattle.lemmas.proofs.Numbers.{lt_or_ge, same_test}
use Rattle.kmer.specs.Kmer.{joined, rc, canon, is_canon}

module _ (a₀ a₁ b₀ b₁ : ℕ) where
  pub less_low : a₁ ≡ b₁ → ltb a₀ b₀ ≡ ltb (joined a₀ a₁) (joined b₀ b₁)
  less_low e = same_test a₀ b₀ (joined a₀ a₁) (joined b₀ b₁) (λ l. omega arith) (λ l. omega arith)

  pub less_high : a₀ < 2 ^ 64 → b₀ < 2 ^ 64 → (a₁ ≡ b₁ → ⊥) → ltb a₁ b₁ ≡ ltb (joined a₀ a₁) (joined b₀ b₁)
  less_high ha hb ne =
      same_test a₁ b₁ (joined a₀ a₁) (joined b₀ b₁) (λ l. omega arith) (λ l. omega (arith, lt_of_le-ne l (λ e. ne (sym e))))

module _ (K x : ℕ) where
  pub canon_turned : ltb (rc K x) x ≡ true → rc K x ≡ canon K x
  unfolding canon
  canon_turned h = omega (arith, ltb-true (rc K x) x h)

  pub canon_same : ltb (rc K x) x ≡ false → x ≡ canon K x
  unfolding canon
  canon_same h = omega (arith, ltb-false (rc K x) x h)

  pub canon_test : not (ltb (rc K x) x) ≡ is_canon K x
  unfolding is_canon
  canon_test =
      ⊎_elim (λ l. simp (lt-ltb (rc K x) x l) (sym (lt-leb x (rc K x) l)))
      (λ l. simp (le-ltb (rc K x) x l) (sym (le-leb x (rc K x) l))) (lt_or_ge (rc K x) x)
