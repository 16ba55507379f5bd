-- The vertex is marked, and the step is the one that leaves it. Assumes nothing.
use Rattle.marks.proofs.Marking.{ends_marking}
use Rattle.marks.proofs.Still.{ready_still}
use Rattle.contraction.proofs.Rolling.{stands_still}
use Rattle.contraction.proofs.Stepping.{advanced}
use Rattle.contraction.proofs.Graph.advance.Goals as goal

pub leave-requires : goal.leave-requires
leave-requires c =
    let a = c.args in
    let kept = ends_marking a.marks.now a.stand.vertex in
    (ready_still c.requires.0 kept, stands_still _ kept c.requires.1)

pub returns : goal.returns
returns c =
    let a = c.args in
    advanced a.start.anchor a.start.side a.stand.vertex a.stand.side c.leave.ensures
