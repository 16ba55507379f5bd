-- The form and K, the labels, the list. Assumes nothing.
use mathlib.Core.Path.{◌∙◌}
use Rattle.std.proofs.lemmas.Result.{err_from_is_err_and}
use Rattle.label_file.specs.Output.{refused}
use Rattle.label_file.proofs.Whole.{run_headless, run_stopped}
use Rattle.label_file.proofs.Verdicts.{judging, judgement_run, verdict_said, judged_line}
use Rattle.label_file.proofs.judgement.judge_file.Goals as goal

pub returns-in_err-k : goal.returns-in_err-k
unfolding refused
returns-in_err-k c =
    let list = c.args.list.now in
    let e = err_from_is_err_and c.from_residual.result c.from_residual.ensures.1 in
    rw (rw e.2 at e.1) (λ text. judgement_run _ _ list ∙ run_headless (judging list) _ _ _ c.in_err-k.ensures)

pub returns-in_err-vertices : goal.returns-in_err-vertices
unfolding refused
returns-in_err-vertices c =
    let list = c.args.list.now in
    let e = err_from_is_err_and c.from_residual-in_err-vertices.result c.from_residual-in_err-vertices.ensures.1 in
    let t = rw c.in_err-vertices.was at c.take_labels.ensures in
    rw (rw e.2 at e.1) (λ text. judgement_run _ _ list ∙ run_stopped (judging list) _ _ _ c.in_ok-k.ensures _ t)

pub returns-in-Ok : goal.returns-in-Ok
returns-in-Ok c =
    let a = c.args in
    let t = rw c.in_ok-vertices.was at c.take_labels.ensures in
    judged_line a.file.now a.list.now a.keys.now a.counts.now a.marks.now c.in_ok-k.ensures t c.in-Ok.ensures _
    (verdict_said _ c.in-Ok.verdict)

pub returns-in-Err : goal.returns-in-Err
returns-in-Err c =
    let a = c.args in
    let t = rw c.in_ok-vertices.was at c.take_labels.ensures in
    judged_line a.file.now a.list.now a.keys.now a.counts.now a.marks.now c.in_ok-k.ensures t c.in-Err.ensures _
    c.refused.ensures
