-- Each turn takes the next line. Assumes nothing.
use lib.Dec.{eqb}
use Rattle.std.proofs.Common.{rules, tests}
use Rattle.std.proofs.lemmas.List.{length_push}
use Rattle.std.proofs.lemmas.Iterator.Splits.{YieldsList-from_slice_split}
use Rattle.std.proofs.lemmas.Iterator.Consumers.{YieldsList-turn, YieldsList-end}
use Rattle.std.proofs.lemmas.Result.{err_from_is_err_and}
use Rattle.label_text.proofs.Breaks.{lines_none}
use Rattle.label_text.proofs.Turns.{partly_none, partly_next, partly_more, partly_large, partly_all}
use Rattle.label_text.proofs.packing.pack_lines.Goals as goal

pub loop-line-init : goal.loop-line-init
loop-line-init c =
    let a = c.args in
    partly_none a.k a.cutoff a.text.now _ a.out.now _ c.is_header-fasta.ensures c.requires c.put_head.ensures

pub returns-in_err-open : goal.returns-in_err-open
returns-in_err-open c =
    let a = c.args in
    let l = c.loop-line in
    let lines =
    YieldsList-from_slice_split _ (λ b. eqb b 10) a.text.now (cc) (cc) (cc) (λ x b q k. search (rules, tests)) in
    let turn = YieldsList-turn lines l.yielded _ l.yielded_by _ _ c.in-Some.line c.in-Some.is c.next.ensures.steps in
    let p = partly_next a.k a.cutoff a.text.now _ _ c.in-Some.line.now _ l.invariant turn.0 turn.1 c.trimmed.ensures in
    let e = err_from_is_err_and c.from_residual.result c.from_residual.ensures.1 in
    rw e.1 (partly_large _ _ _ _ p c.in_err-open.ensures)

pub loop-line-preserved : goal.loop-line-preserved
loop-line-preserved c =
    let a = c.args in
    let l = c.loop-line in
    let lines =
    YieldsList-from_slice_split _ (λ b. eqb b 10) a.text.now (cc) (cc) (cc) (λ x b q k. search (rules, tests)) in
    let turn = YieldsList-turn lines l.yielded _ l.yielded_by _ _ c.in-Some.line c.in-Some.is c.next.ensures.steps in
    let p = partly_next a.k a.cutoff a.text.now _ _ c.in-Some.line.now _ l.invariant turn.0 turn.1 c.trimmed.ensures in
    rw (length_push l.yielded c.in-Some.line) (partly_more _ _ _ _ p c.in_ok-open.ensures)

pub returns : goal.returns
returns c =
    let a = c.args in
    let l = c.loop-line in
    let lines =
    YieldsList-from_slice_split _ (λ b. eqb b 10) a.text.now (cc) (cc) (cc) (λ x b q k. search (rules, tests)) in
    let end = YieldsList-end lines l.yielded _ l.yielded_by _ _ c.in-None.is c.next.ensures.steps in
    partly_all a.k a.cutoff a.text.now _ (rw (lines_none a.text.now _ end.1) at l.invariant) c.close.ensures
