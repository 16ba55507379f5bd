-- Which strand of a text is the smaller, byte by byte. Assumes nothing.
use mathlib.Core.Path.{◌≡◌, sym, ◌∙◌}
use mathlib.Core.Bool.{true, false}
use mathlib.Core.Logic.{inr}
use mathlib.Core.List.{List}
use Prim.Native.Nat.{ℕ, ◌+◌, ◌≤◌, ◌<◌}
use native.Mathlib.Omega.{arith}
use borrow.Author.Tests.{le-ltb}
use lib.ListN.{length, get_or}
use Rattle.dna.specs.Letters.{reverse_complement}
use Rattle.dna.specs.Order.{before}
use Rattle.dna.proofs.Order.{Alike, alike_more, before_at, after_at, before_end}
use Rattle.dna.proofs.Reversal.{length_reverse_complement, reverse_complement_at}
use Rattle.strands.proofs.Turning.{opposite}

-- The strands are alike up to i; x is the other one's byte there.
module _ (s : List ℕ) (i x : ℕ) (h : i < length s) (f : Alike (reverse_complement s) s i) (e : x ≡ opposite s i) where
  there : get_or (reverse_complement s) i 0 ≡ x
  there = reverse_complement_at s i h ∙ sym e

  pub above_here : x < get_or s i 0 → before (reverse_complement s) s ≡ true
  above_here l =
      before_at (reverse_complement s) s i (omega (arith, length_reverse_complement s)) h f (omega (arith, there))

  pub below_here : get_or s i 0 < x → before (reverse_complement s) s ≡ false
  below_here l =
      after_at (reverse_complement s) s i (omega (arith, length_reverse_complement s)) h f (omega (arith, there))

  pub alike_here : x ≤ get_or s i 0 → get_or s i 0 ≤ x → Alike (reverse_complement s) s (i + 1)
  alike_here l m = alike_more (reverse_complement s) s i f (omega (arith, there))

-- Alike to the end, the other strand does not come first.
pub alike_whole : (s : List ℕ) (i : ℕ) → length s ≤ i → Alike (reverse_complement s) s i
    → before (reverse_complement s) s ≡ false
alike_whole s i h f =
    before_end (reverse_complement s) s i f (inr h)
    ∙ le-ltb (length (reverse_complement s)) (length s) (omega (arith, length_reverse_complement s))
