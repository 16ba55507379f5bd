-- The table is not fit for the label, or it is and the label is added. Assumes nothing.
use mathlib.Core.Path.{◌≡◌}
use Rattle.std.proofs.lemmas.Result.{err_from_is_err_and}
use Rattle.adding.specs.Says.{rule_of, of_fit}
use Rattle.adding.proofs.Outcomes.{not_fit}
use Rattle.state.specs.Says.{kind_of}
use Rattle.adding.proofs.Settings.add.Goals as goal

pub returns-in_err-fit : goal.returns-in_err-fit
returns-in_err-fit c =
    let a = c.args in
    let e = c.in_err-fit.field-0.0 in
    let t = err_from_is_err_and {Q = λ x. x ≡ of_fit e} c.from_residual.result c.from_residual.ensures.1 in
    rw (t.1, t.2)
    (not_fit (kind_of a.self.kind) (rule_of a.self.mode) a.self.k a.n a.keys.now a.counts.now a.label.now c.fit.ensures
    e c.in_err-fit.was)
