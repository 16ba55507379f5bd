-- As it is on Back; on Front a base is complemented. Assumes nothing.
use mathlib.Core.Path.{sym, ap, ◌∙◌}
use Rattle.graph.specs.Walks.{leaving}
use Rattle.judging.proofs.Edges.{leaving_base, leaving_same}
use Rattle.judging.proofs.joining.leaving.Goals as goal

pub returns-in-Front : goal.returns-in-Front
returns-in-Front c =
    let e = c.args.edge in
    leaving_base e c.if-edge-lt4.true ∙ sym (ap (λ s. leaving s e) c.in-Front.is)

pub returns-in_default : goal.returns-in_default
returns-in_default c = leaving_same c.args.side c.args.edge c.if-edge-lt4.false
