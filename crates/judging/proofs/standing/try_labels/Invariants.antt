-- The labels are tested one by one. Assumes nothing.
use mathlib.Core.List.{List}
use Prim.Native.Nat.{ℕ, ◌-◌}
use lib.ListN.{length}
use Rattle.judging.specs.Standing.{Placing}
use Rattle.judging.proofs.standing.try_labels.Given as goal

abbrev pub invariant-loop-at : goal.invariant-loop-at
invariant-loop-at l =
    (done : List (List ℕ))
    × Placing l.graph.k l.graph.keys.now l.initial.marks l.text l.marks done l.bad l.i l.at

abbrev pub decreases-loop-at : goal.decreases-loop-at
decreases-loop-at l = length l.text - l.at
