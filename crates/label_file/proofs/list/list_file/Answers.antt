-- The form and K, the labels, the list. Assumes nothing.
use mathlib.Core.Path.{◌∙◌}
use Rattle.std.proofs.lemmas.Result.{err_from_is_err_and}
use Rattle.label_file.proofs.Whole.{listing, run_headless, run_stopped, run_taken, output_run}
use Rattle.label_file.proofs.list.list_file.Goals as goal

pub returns-in_err-k : goal.returns-in_err-k
returns-in_err-k c =
    let e = err_from_is_err_and c.from_residual.result c.from_residual.ensures.1 in
    rw (e.1, e.2) (output_run _ _ ∙ run_headless listing _ _ _ c.in_err-k.ensures)

pub returns-in_err-vertices : goal.returns-in_err-vertices
returns-in_err-vertices c =
    let e = err_from_is_err_and c.from_residual-in_err-vertices.result c.from_residual-in_err-vertices.ensures.1 in
    let t = rw c.in_err-vertices.was at c.take_labels.ensures in
    rw (e.1, e.2) (output_run _ _ ∙ run_stopped listing _ _ _ c.in_ok-k.ensures _ t)

pub returns-in-Ok : goal.returns-in-Ok
returns-in-Ok c =
    let t = rw c.in_ok-vertices.was at c.take_labels.ensures in
    output_run _ _ ∙ run_taken listing _ _ _ c.in_ok-k.ensures _ t ∙ c.in-Ok.ensures _

pub returns-in-Err : goal.returns-in-Err
returns-in-Err c =
    let t = rw c.in_ok-vertices.was at c.take_labels.ensures in
    output_run _ _ ∙ run_taken listing _ _ _ c.in_ok-k.ensures _ t ∙ c.in-Err.ensures _
