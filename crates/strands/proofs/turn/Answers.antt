use native.Mathlib.Omega.{arith}
use Rattle.strands.proofs.Turning.{turned_none, turned_more, turned_all}
use Rattle.strands.proofs.turn.Goals as goal

pub loop-i-init : goal.loop-i-init
loop-i-init c = turned_none _

pub loop-i-preserved : goal.loop-i-preserved
loop-i-preserved c = turned_more c.loop-i.invariant _ _ _ (omega arith)
    (omega arith) c.complement_ascii-x.ensures c.complement_ascii-y.ensures

pub returns : goal.returns
returns c = turned_all c.loop-i.invariant (omega arith)
