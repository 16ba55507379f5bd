-- Which strand of a label is kept. Assumes nothing.
use mathlib.Core.Path.{◌≡◌}
use mathlib.Core.Bool.{true, false}
use mathlib.Core.List.{List}
use Prim.Native.Nat.{ℕ}
use Rattle.dna.specs.Letters.{reverse_complement}
use Rattle.dna.specs.Order.{before}
use Rattle.graph.specs.Labels.{lesser}

pub lesser_turned : (s : List ℕ) → before (reverse_complement s) s ≡ true → reverse_complement s ≡ lesser s
unfolding lesser
lesser_turned s h = rw h

pub lesser_kept : (s : List ℕ) → before (reverse_complement s) s ≡ false → s ≡ lesser s
unfolding lesser
lesser_kept s h = rw h
