use native.Mathlib.Omega.{arith}
use Rattle.lemmas.proofs.Building.{built_none}
use Rattle.state.specs.Says.{kind_of}
use Rattle.marks.specs.Marks.{mark_of}
use Rattle.marks.proofs.Digesting.{first_more, first_all}
use Rattle.marks.proofs.making.digest.Goals as goal

pub loop-i-init : goal.loop-i-init
loop-i-init c = built_none _ _

pub loop-i-preserved : goal.loop-i-preserved
loop-i-preserved c =
    let l = c.loop-i in
    let a = c.args in
    first_more (mark_of (kind_of a.kind) a.cutoff) a.counts.now a.marks.now l.marks l.i l.invariant
    c.mark_of.result (omega arith) (omega arith) c.mark_of.ensures

pub returns : goal.returns
returns c =
    let l = c.loop-i in
    let a = c.args in
    first_all (mark_of (kind_of a.kind) a.cutoff) a.counts.now a.marks.now l.marks l.i l.invariant (omega arith)
