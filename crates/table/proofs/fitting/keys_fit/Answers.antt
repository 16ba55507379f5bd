-- An empty table is fit; else its keys are tested by the bounds. Assumes nothing.
use native.Mathlib.Omega.{arith}
use Rattle.table.proofs.Ascending.{passed_none, passed_all}
use Rattle.table.proofs.fitting.keys_fit.Goals as goal

pub returns-then-n-eq0 : goal.returns-then-n-eq0
returns-then-n-eq0 c =
    let a = c.args in passed_all a.k a.n a.keys.now (passed_none _ _ _) (omega arith)
