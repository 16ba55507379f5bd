-- Each turn looks at one place. Assumes nothing.
use Rattle.std.proofs.Common.{◌^◌, ◌<◌, ◌≤◌, length}
use Rattle.panel.proofs.Looking.{Looking}
use Rattle.panel.proofs.first_probe.Given as goal

abbrev pub invariant-loop-at : goal.invariant-loop-at
invariant-loop-at l =
    Looking l.probe l.least l.most l.label l.last l.held l.at × (l.least ≤ l.most) × (length l.label < 2 ^ 32)
