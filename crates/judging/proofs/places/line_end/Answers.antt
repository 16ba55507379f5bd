use Rattle.judging.proofs.Lines.{line_start, line_more}
use Rattle.judging.proofs.places.line_end.Goals as goal

pub loop-i-init : goal.loop-i-init
loop-i-init c = line_start c.args.text.now c.args.at

pub loop-i-preserved : goal.loop-i-preserved
loop-i-preserved c =
    let l = c.loop-i in
    let a = c.args in
    line_more a.text.now a.at l.i l.auto.i c.loop-i-test.true l.invariant c.if-text-i-eq10.false
