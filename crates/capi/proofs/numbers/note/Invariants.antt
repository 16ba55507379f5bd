-- The figures before i stand in their cells. Assumes nothing.
use mathlib.Core.Path.{◌≡◌}
use lib.ListN.{take}
use Rattle.capi.specs.Says.{noted}
use Rattle.capi.proofs.numbers.note.Given as goal

abbrev pub invariant-loop-i : goal.invariant-loop-i
invariant-loop-i l = l.figures ≡ noted (take l.i l.values) l.initial.figures
