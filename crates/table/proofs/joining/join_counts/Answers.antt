use Rattle.std.proofs.Common.{arith}
use Rattle.table.proofs.Entering.{upto_none, upto_more}
use Rattle.table.proofs.CountsIn.{counts_none, counts_more, counts_all}
use Rattle.table.proofs.joining.join_counts.Goals as goal

pub loop-j-init : goal.loop-j-init
loop-j-init c =
    let a = c.args in
    let p = c.requires in
    (upto_none a.n a.m a.places.now p.1 p.3, counts_none a.n a.m a.places.now p.1 a.new_counts.now a.counts.now p.2 p.0)

pub loop-j-preserved : goal.loop-j-preserved
loop-j-preserved c =
    let l = c.loop-j in
    let a = c.args in
    let p = c.requires in
    let e = c.copy_within.ensures in (
      upto_more a.n a.m a.places.now p.1 p.3 l.invariant.0 (omega arith),
      counts_more a.n a.m a.places.now p.1 a.new_counts.now a.counts.now p.2 p.0 l.end l.j l.invariant.0 l.invariant.1
          l.auto.counts (omega arith) e.after e.len,
    )

pub returns : goal.returns
returns c =
    let l = c.loop-j in
    let a = c.args in
    let p = c.requires in
    counts_all a.n a.m a.places.now p.1 a.new_counts.now a.counts.now p.2 p.0 l.end l.j l.invariant.1 l.auto.counts
    (omega arith)
