-- By their order; the first has none before it. Assumes nothing.
use mathlib.Core.Path.{ap, ◌∙◌}
use Rattle.std.proofs.Common.{is_ge}
use Rattle.judging.proofs.Orderly.{behind_none, behind_some}
use Rattle.judging.proofs.order.is_not_behind.Goals as goal

pub returns-in-Some : goal.returns-in-Some
returns-in-Some c = λ done f.
    behind_some _ _ c.in-Some.b (c.is_ge.ensures ∙ ap is_ge c.compare.ensures) done (rw c.in-Some.is at f)

pub returns-in-None : goal.returns-in-None
returns-in-None c = λ done f. behind_none _ _ done (rw c.in-None.is at f)
