-- Each turn paints one more cell. Assumes nothing.
use lib.ListN.{length, replicate}
use Rattle.lemmas.proofs.Building.{Built}
use Rattle.colours.proofs.list.paint.Given as goal

abbrev pub invariant-loop-i : goal.invariant-loop-i
invariant-loop-i l = Built (replicate (length l.initial.cells) l.color) l.initial.cells l.cells l.i
