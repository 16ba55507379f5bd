-- The leading letters, then with each turn four letters more: whatever slice the leading letters were written into,
-- they are written there too. Assumes nothing.
use mathlib.Core.List.{List}
use Prim.Native.Nat.{ℕ, ◌+◌, ◌*◌, ◌%◌, ◌≤◌}
use lib.ListN.{length}
use Rattle.lemmas.proofs.Building.{Built}
use Rattle.kmer.specs.Kmer.{letters}
use Rattle.kmer.specs.Says.{value_of}
use Rattle.kmer.proofs.letters.write.Given as goal

abbrev pub invariant-loop-i : goal.invariant-loop-i
invariant-loop-i l =
    (s : List ℕ) → l.fn.k.bases ≤ length s → Built (letters l.fn.k.bases (value_of l.x)) s l.initial.out l.first
    → Built (letters l.fn.k.bases (value_of l.x)) s l.out (l.fn.k.bases % 4 + 4 * l.i)
