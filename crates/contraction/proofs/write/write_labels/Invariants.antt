-- Each turn passes a vertex by, or writes its label behind those that stand there. Assumes nothing.
use Rattle.contraction.proofs.Listed.{Listed}
use Rattle.contraction.proofs.write.write_labels.Given as goal

abbrev pub invariant-loop-a : goal.invariant-loop-a
invariant-loop-a l =
    Listed l.k l.keys l.marks l.trail l.initial.buffer l.initial.starts l.initial.lengths l.labels l.at l.from l.a
    l.buffer l.starts l.lengths
