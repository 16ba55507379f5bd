-- How the test of a table ends: K is refused, there is no room for so many vertices, a key is wrong, or the words
-- decide. Assumes nothing.
use mathlib.Core.Path.{◌≡◌, refl, sym}
use mathlib.Core.Bool.{Bool, true, false, cond}
use mathlib.Core.List.{List}
use Prim.Native.Nat.{ℕ, ◌≤◌, ◌<◌}
use Rattle.std.specs.Prelude.{Ok, Err}
use borrow.Author.Tests.{leb-true, le-leb, lt-leb}
use lib.Dec.{leb}
use lib.ListN.{take}
use Rattle.kmer.proofs.Bounds.{bounds_ok}
use Rattle.state.specs.Counted.{Kind}
use Rattle.graph.specs.Table.{keys_of, capacity, fit_from, words_fit}
use Rattle.table.specs.Calls.{fit_call, fit_answer}
use Rattle.table.specs.declared.FitError.TheVariants.{Unfit, UnsupportedK}

module _ (κ : Kind) (k n : ℕ) (keys counts : List ℕ) where
  pub fit_refused : (1 ≤ k → k ≤ 63 → ⊥) → fit_answer (Err (UnsupportedK k)) ≡ fit_call κ k n keys counts
  fit_refused h = go (leb 1 k) refl (leb k 63) refl
    where
      go : (a : Bool) → leb 1 k ≡ a → (b : Bool) → leb k 63 ≡ b
          → fit_answer (Err (UnsupportedK k)) ≡ fit_call κ k n keys counts
      go false p b q = rw p
      go true p false q = rw (p, q)
      go true p true q = absurd (h (leb-true 1 k p) (leb-true k 63 q))

  module _ (l : 1 ≤ k) (m : k ≤ 63) where
    pub fit_over : capacity keys counts < n → fit_answer (Err Unfit) ≡ fit_call κ k n keys counts
    fit_over h = rw (bounds_ok k l m, lt-leb n (capacity keys counts) h)

    module _ (r : n ≤ capacity keys counts) where
      pub fit_keys : fit_from k 0 (keys_of n keys) ≡ false → fit_answer (Err Unfit) ≡ fit_call κ k n keys counts
      fit_keys h = rw (bounds_ok k l m, le-leb n (capacity keys counts) r, h)

      pub fit_words : fit_from k 0 (keys_of n keys) ≡ true → (t : Bool) → t ≡ words_fit κ (take n counts)
          → fit_answer (cond t (Ok tt) (Err Unfit)) ≡ fit_call κ k n keys counts
      fit_words h true e = rw (bounds_ok k l m, le-leb n (capacity keys counts) r, h, sym e)
      fit_words h false e = rw (bounds_ok k l m, le-leb n (capacity keys counts) r, h, sym e)
