use Rattle.std.proofs.Common.{sym, ◌∙◌, arith, rules}
use Rattle.directory.proofs.Spreading.{spread_more, spread_end}
use Rattle.directory.proofs.making.fill_gaps.Goals as goal

pub loop-cell-preserved : goal.loop-cell-preserved
loop-cell-preserved c =
    let l = c.loop-cell in
    l.invariant ∙ spread_more l.directory l.most l.cell-index c.max-most.result (omega arith) (search rules)

pub returns : goal.returns
returns c =
    let l = c.loop-cell in
    sym (l.invariant ∙ spread_end l.directory l.most l.cell-index (omega arith))
