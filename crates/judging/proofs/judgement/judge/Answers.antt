-- Each refusal is a case of the definition, in its order; what is left is the list judged over a fit table. Assumes
-- nothing.
use mathlib.Core.Path.{sym, ◌∙◌}
use Rattle.std.proofs.lemmas.Result.{err_from_is_err_and}
use Rattle.state.specs.Says.{kind_of}
use Rattle.judging.proofs.Refusing.{not_taken, wrong_cutoff, few_marks, even_K, no_list_lem, goes_on, first_n}
use Rattle.judging.proofs.judgement.judge.Goals as goal

pub returns-in_err-fit : goal.returns-in_err-fit
returns-in_err-fit c =
    let a = c.args in
    let p = err_from_is_err_and c.from_residual.result c.from_residual.ensures.1 in
    rw (p.1, p.2)
    (not_taken (kind_of a.kind) a.k a.cutoff a.n a.keys.now a.counts.now a.text.now a.marks.now
    c.fit.ensures _ c.in_err-fit.was)

pub returns-then-not-answers_for : goal.returns-then-not-answers_for
returns-then-not-answers_for c =
    let a = c.args in
    wrong_cutoff (kind_of a.kind) a.k a.cutoff a.n a.keys.now a.counts.now a.text.now
    a.marks.now
    c.fit.ensures c.in_ok-fit.was
    (sym c.answers_for.ensures ∙ c.if-not-answers_for.true)

pub returns-then-marks-n : goal.returns-then-marks-n
returns-then-marks-n c =
    let a = c.args in
    few_marks (kind_of a.kind) a.k a.cutoff a.n a.keys.now a.counts.now a.text.now
    a.marks.now
    c.fit.ensures c.in_ok-fit.was
    (sym c.answers_for.ensures ∙ c.if-not-answers_for.false) c.if-marks-n.true

pub returns-then-k-eq0 : goal.returns-then-k-eq0
returns-then-k-eq0 c =
    let a = c.args in
    even_K (kind_of a.kind) a.k a.cutoff a.n a.keys.now a.counts.now a.text.now a.marks.now
    c.fit.ensures c.in_ok-fit.was
    (sym c.answers_for.ensures ∙ c.if-not-answers_for.false)
    c.if-marks-n.false c.if-k-eq0.true

pub returns-then-not-is_list : goal.returns-then-not-is_list
returns-then-not-is_list c =
    let a = c.args in
    no_list_lem (kind_of a.kind) a.k a.cutoff a.n a.keys.now a.counts.now a.text.now
    a.marks.now
    c.fit.ensures c.in_ok-fit.was
    (sym c.answers_for.ensures ∙ c.if-not-answers_for.false)
    c.if-marks-n.false c.if-k-eq0.false c.is_list.ensures c.if-not-is_list.true

-- The first n marks are lent; those behind them stay.
pub returns : goal.returns
returns c =
    let a = c.args in
    let held = sym c.is_list.ensures ∙ c.if-not-is_list.false in
    goes_on (kind_of a.kind) a.k a.cutoff a.n a.keys.now a.counts.now a.text.now
    a.marks.now
    c.fit.ensures c.in_ok-fit.was
    (sym c.answers_for.ensures ∙ c.if-not-answers_for.false)
    c.if-marks-n.false c.if-k-eq0.false c.is_list.ensures
    (first_n (kind_of a.kind) a.k a.cutoff a.n a.keys.now a.counts.now a.text.now a.marks.now
    c.if-marks-n.false held c.judge_list.ensures)
