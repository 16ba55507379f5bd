-- `made`, or nothing where there are too few cells. Assumes nothing.
use Rattle.std.proofs.Common.{min}
use Rattle.directory.proofs.Made.{made}
use Rattle.directory.proofs.making.make.Goals as goal

pub returns-then-b-gt0 : goal.returns-then-b-gt0
returns-then-b-gt0 c =
    let a = c.args in
    made a.k (min a.n 65536) a.keys.now a.directory.now _ _ _ _ c.bases_of-b.ensures c.if-b-gt0.true
    (cc) c.tally.ensures c.fill_gaps.ensures
