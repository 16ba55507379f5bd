-- The bounds before b stand in their cells. Assumes nothing.
use Rattle.table.proofs.BoundsIn.{Bounding}
use Rattle.table.proofs.fitting.make_bounds.Given as goal

abbrev pub invariant-loop-b : goal.invariant-loop-b
invariant-loop-b l = Bounding l.k l.bounds l.b
