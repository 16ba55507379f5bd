-- Each refusal is a case of the definition, in its order; what is left is the contraction of a fit table. Assumes
-- nothing.
use mathlib.Core.Path.{sym, ◌∙◌}
use Rattle.std.proofs.lemmas.Result.{err_from_is_err_and}
use Rattle.contraction.proofs.Firsts.{first_marks}
use Rattle.contraction.proofs.Refusals.{unfit, wrong_cutoff, few_marks, lent_first, goes_on}
use Rattle.state.specs.Says.{kind_of}
use Rattle.contraction.proofs.whole.contract.Goals as goal

pub returns-in_err-fit : goal.returns-in_err-fit
returns-in_err-fit c =
    let a = c.args in
    let p = err_from_is_err_and c.from_residual.result c.from_residual.ensures.1 in
    rw (p.1, p.2)
    (unfit (kind_of a.kind) a.k a.cutoff a.n a.keys.now a.counts.now a.labels.now a.starts.now a.lengths.now a.marks.now
    c.fit.ensures _ c.in_err-fit.was)

pub returns-then-not-answers_for : goal.returns-then-not-answers_for
returns-then-not-answers_for c =
    let a = c.args in
    wrong_cutoff (kind_of a.kind) a.k a.cutoff a.n a.keys.now a.counts.now a.labels.now a.starts.now a.lengths.now
    a.marks.now
    c.fit.ensures c.in_ok-fit.was (sym c.answers_for.ensures ∙ c.if-not-answers_for.true)

pub returns-then-marks-n : goal.returns-then-marks-n
returns-then-marks-n c =
    let a = c.args in
    few_marks (kind_of a.kind) a.k a.cutoff a.n a.keys.now a.counts.now a.labels.now a.starts.now a.lengths.now
    a.marks.now
    c.fit.ensures c.in_ok-fit.was (sym c.answers_for.ensures ∙ c.if-not-answers_for.false) c.if-marks-n.true

pub contract_fit-requires : goal.contract_fit-requires
contract_fit-requires c =
    let a = c.args in
    lent_first (kind_of a.kind) a.k a.cutoff a.n a.keys.now a.counts.now a.labels.now a.starts.now a.lengths.now
    a.marks.now
    c.fit.ensures c.in_ok-fit.was c.if-marks-n.false

pub returns : goal.returns
returns c =
    let a = c.args in
    let κ = kind_of a.kind in
    let t = lent_first κ a.k a.cutoff a.n a.keys.now a.counts.now a.labels.now a.starts.now a.lengths.now a.marks.now
    c.fit.ensures c.in_ok-fit.was c.if-marks-n.false in
    goes_on κ a.k a.cutoff a.n a.keys.now a.counts.now a.labels.now a.starts.now a.lengths.now a.marks.now
    c.fit.ensures c.in_ok-fit.was c.if-marks-n.false (sym c.answers_for.ensures ∙ c.if-not-answers_for.false)
    (first_marks κ a.k a.cutoff a.n a.keys.now a.counts.now a.labels.now a.starts.now a.lengths.now a.marks.now
    c.if-marks-n.false t c.contract_fit.ensures)
