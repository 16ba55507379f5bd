use native.Mathlib.Omega.{arith}
use Rattle.lemmas.proofs.Building.{built_none, alike_more, alike_all}
use Rattle.colours.proofs.list.paint.Goals as goal

pub loop-i-init : goal.loop-i-init
loop-i-init c = built_none _ _

pub loop-i-preserved : goal.loop-i-preserved
loop-i-preserved c =
    let l = c.loop-i in
    alike_more _ _ l.cells l.i l.invariant (omega arith)

pub returns : goal.returns
returns c =
    let l = c.loop-i in
    alike_all _ _ l.cells l.i l.invariant (omega arith)
