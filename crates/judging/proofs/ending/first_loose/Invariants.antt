-- The labels are tested one by one. Assumes nothing.
use mathlib.Core.List.{List}
use Prim.Native.Nat.{ℕ, ◌-◌}
use lib.ListN.{length}
use Rattle.marks.specs.Marks.{ends}
use Rattle.rules.specs.Verdict.{breaks4}
use Rattle.marks.specs.Ready.{keys_for}
use Rattle.judging.specs.Passing.{Passing}
use Rattle.judging.proofs.ending.first_loose.Given as goal

abbrev pub invariant-loop-at : goal.invariant-loop-at
invariant-loop-at l =
    (done : List (List ℕ))
    × Passing l.graph.k l.text (breaks4 l.graph.k (keys_for l.marks l.graph.keys.now) (ends l.marks)) done l.i l.at

abbrev pub decreases-loop-at : goal.decreases-loop-at
decreases-loop-at l = length l.text - l.at
