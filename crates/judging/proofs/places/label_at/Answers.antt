-- The line behind the header. Assumes nothing.
use native.Mathlib.Omega.{arith}
use Rattle.judging.proofs.Lines.{record_inside, head_inside, spans}
use Rattle.judging.proofs.places.label_at.Goals as goal

pub line_end-start-requires : goal.line_end-start-requires
line_end-start-requires c = omega (arith, record_inside c.args.text.now c.args.at c.requires)

pub line_end-end-requires : goal.line_end-end-requires
line_end-end-requires c =
    head_inside c.args.text.now c.args.at c.line_end-start.result c.requires c.line_end-start.ensures

pub returns : goal.returns
returns c =
    spans c.args.text.now c.args.at c.line_end-start.result c.line_end-end.result c.requires
    c.line_end-start.ensures c.line_end-end.ensures
