use Rattle.std.proofs.Common.{◌+◌, ◌∙◌, arith, length-drop, length-take}
use Rattle.panel.proofs.Answering.{answering_none, next_fits, answering_more, answering_all}
use Rattle.panel.proofs.answer_each.Goals as goal

pub loop-i-init : goal.loop-i-init
loop-i-init c =
    let p = c.requires in
    answering_none _ _ _ _ _ _ _ _ p.0 p.1 p.2 p.3

pub slice_bounds-first_probe-end : goal.slice_bounds-first_probe-end
slice_bounds-first_probe-end c =
    let f = next_fits c.loop-i.invariant (omega arith) in
    omega arith

pub first_probe-requires : goal.first_probe-requires
first_probe-requires c =
    let inv = c.loop-i.invariant in
    let f = next_fits inv (omega arith) in
    (inv.some, inv.order, simp (length-take, length-drop) (omega arith))

pub loop-i-preserved : goal.loop-i-preserved
loop-i-preserved c =
    let l = c.loop-i in
    let start = c.wide-start in
    let end = start.result + c.wide.result in
    answering_more l.invariant (omega arith) start.result end _ start.ensures.0 (omega arith)
    (c.unwrap_or.ensures ∙ c.first_probe.ensures)

pub returns : goal.returns
returns c = answering_all c.loop-i.invariant (omega arith)
