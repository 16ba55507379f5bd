use Rattle.judging.proofs.Passes.{ordering_start, ordering_record, ordering_end, ordering_found, ordering_on}
use Rattle.judging.proofs.order.first_out.Goals as goal

pub loop-at-init : goal.loop-at-init
loop-at-init c = ordering_start c.args.text.now

pub label_at-label-requires : goal.label_at-label-requires
label_at-label-requires c =
    let l = c.loop-at in
    let a = c.args in
    ordering_record a.text.now l.i l.before l.at l.invariant c.requires.0 c.requires.1 c.loop-at-test.true

pub returns-then-is_out : goal.returns-then-is_out
returns-then-is_out c =
    let l = c.loop-at in
    let a = c.args in
    ordering_found a.text.now l.i l.before l.at l.invariant c.loop-at-test.true
    c.label_at-label.result c.label_at-label.ensures c.is_out.ensures
    c.if-is_out.true

pub loop-at-preserved : goal.loop-at-preserved
loop-at-preserved c =
    let l = c.loop-at in
    let a = c.args in
    ordering_on a.text.now l.i l.before l.at l.invariant c.loop-at-test.true
    c.label_at-label.result c.label_at-label.ensures c.is_out.ensures
    c.if-is_out.false

pub returns : goal.returns
returns c =
    let l = c.loop-at in
    let a = c.args in
    ordering_end a.text.now l.i l.before l.at l.invariant c.loop-at-test.false
