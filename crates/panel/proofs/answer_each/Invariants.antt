-- Each turn answers for one more label. Assumes nothing.
use Rattle.panel.proofs.Answering.{Answering}
use Rattle.panel.proofs.answer_each.Given as goal

abbrev pub invariant-loop-i : goal.invariant-loop-i
invariant-loop-i l =
    Answering l.probe l.least l.most l.labels l.starts l.lengths l.count l.initial.out l.out l.i
