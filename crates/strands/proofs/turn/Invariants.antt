-- Each turn exchanges two more places. Assumes nothing.
use Rattle.strands.proofs.Turning.{Turned}
use Rattle.strands.proofs.turn.Given as goal

abbrev pub invariant-loop-i : goal.invariant-loop-i
invariant-loop-i l = Turned l.initial.label l.label l.i
