-- Each turn paints up to the next run. Assumes nothing.
use Prim.Native.Nat.{◌+◌}
use Rattle.colours.proofs.Painting.{Painting}
use Rattle.colours.proofs.list.paint_runs.Given as goal

abbrev pub invariant-loop-run : goal.invariant-loop-run
invariant-loop-run l = Painting l.kmers l.runs l.initial.out l.out l.color l.from (l.run-index + 1)
