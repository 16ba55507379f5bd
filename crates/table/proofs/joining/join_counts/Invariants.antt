-- Each turn moves the counts behind a place up and puts in the new one. Assumes nothing.
use Rattle.std.proofs.Common.{◌+◌, drop}
use Rattle.table.proofs.Opening.{Opened}
use Rattle.table.proofs.Entering.{Upto}
use Rattle.table.proofs.CountsIn.{counts_from}
use Rattle.table.proofs.joining.join_counts.Given as goal

abbrev pub invariant-loop-j : goal.invariant-loop-j
invariant-loop-j l =
    Upto l.n l.m l.places l.end l.j
    × Opened (counts_from l.n l.m l.places l.new_counts l.initial.counts l.j) (drop (l.n + l.m) l.initial.counts)
    l.counts l.end l.j
