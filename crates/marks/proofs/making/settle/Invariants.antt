-- Each turn leaves the visited bit alone of one more mark. Assumes nothing.
use Rattle.std.proofs.Common.{◌≡◌, ◌/◌, ◌++◌, map, take, drop}
use Rattle.marks.proofs.making.settle.Given as goal

abbrev pub invariant-loop-mark : goal.invariant-loop-mark
invariant-loop-mark l = l.marks ≡ map (λ m. m / 64)
    (take l.mark-index l.initial.marks) ++ drop l.mark-index l.initial.marks
