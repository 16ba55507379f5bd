use mathlib.Core.Path.{sym}
use native.Mathlib.Omega.{arith}
use Rattle.strands.proofs.Smaller.{above_here, below_here, alike_here, alike_whole}
use Rattle.strands.proofs.is_above.Goals as goal

pub loop-i-init : goal.loop-i-init
loop-i-init c = λ t h. absurd (omega arith)

pub returns-then-x-y : goal.returns-then-x-y
returns-then-x-y c =
    let l = c.loop-i in
    let x = c.complement_ascii-x in
    sym (above_here _ l.i x.result (omega arith) l.invariant x.ensures c.if-x-y.true)

pub returns-then-y-x : goal.returns-then-y-x
returns-then-y-x c =
    let l = c.loop-i in
    let x = c.complement_ascii-x in
    sym (below_here _ l.i x.result (omega arith) l.invariant x.ensures c.if-y-x.true)

pub loop-i-preserved : goal.loop-i-preserved
loop-i-preserved c =
    let l = c.loop-i in
    let x = c.complement_ascii-x in
    alike_here _ l.i x.result (omega arith) l.invariant x.ensures c.if-y-x.false c.if-x-y.false

pub returns : goal.returns
returns c = sym (alike_whole _ c.loop-i.i (omega arith) c.loop-i.invariant)
