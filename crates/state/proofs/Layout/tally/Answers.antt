-- Each base is added where it is retained (`below_kept`), and left out where it is not (`below_left`).
-- Assumes nothing.
use mathlib.Core.Path.{sym, ◌∙◌}
use native.Mathlib.Omega.{arith}
use Rattle.state.specs.Parts.{kind_in}
use Rattle.state.proofs.Edges.{below_all}
use Rattle.state.proofs.Retained.{below_none, below_kept, below_left}
use Rattle.state.proofs.Layout.tally.Goals as goal
use Rattle.state.proofs.Layout.tally.Goals.{then-retains, else-retains}

pub loop-bits-init : goal.loop-bits-init
loop-bits-init c = below_none (kind_in c.args.self) c.args.cutoff c.args.word c.args.side

pub loop-bits-preserved : goal.loop-bits-preserved
loop-bits-preserved c =
    let a = c.args in
    let b = c.loop-bits.invariant in
    elim c.if-retains.branch [
      | then-retains w ↦
          rw w.tally-is (below_kept (kind_in a.self) a.cutoff a.word a.side b c.loop-bits-test.true
          (sym c.retains.ensures ∙ w.if-retains.true))
      | else-retains w ↦
          rw w.tally-is (below_left (kind_in a.self) a.cutoff a.word a.side b
          (sym c.retains.ensures ∙ w.if-retains.false))
    ]

pub returns : goal.returns
returns c =
    below_all (kind_in c.args.self) c.args.cutoff c.args.word c.args.side c.loop-bits.invariant (omega arith)
