-- E and N by the number of edges, and where it is 1 the sum of the codes is the base. Assumes nothing.
use mathlib.Core.Path.{sym, ◌∙◌}
use Prim.Native.Nat.{◌<◌}
use native.Mathlib.Omega.{arith}
use Rattle.state.specs.Counted.{edge_count}
use Rattle.state.specs.Parts.{kind_in}
use Rattle.state.proofs.Edges.{edge_le, edge_none, edge_many}
use Rattle.state.proofs.Layout.edge_at.Goals as goal

pub overflow_cast-tally : goal.overflow_cast-tally
overflow_cast-tally c =
    let a = c.args in
    let code = c.tally-tally.ensures.codes c.in-1.is in
    record { fits = omega (arith, code, edge_le (kind_in a.self) a.cutoff a.word a.side) }

pub returns-in-0 : goal.returns-in-0
returns-in-0 c =
    let a = c.args in
    sym ((edge_none (kind_in a.self) a.cutoff a.word a.side).1 (sym c.tally-tally.ensures.edges ∙ c.in-0.is))

pub returns-in-1 : goal.returns-in-1
returns-in-1 c =
    let a = c.args in
    omega
    (arith, c.from_bits.ensures, c.tally-tally.ensures.codes c.in-1.is, edge_le (kind_in a.self) a.cutoff a.word a.side)

pub returns-in_default : goal.returns-in_default
returns-in_default c =
    let a = c.args in
    let many : 1 < edge_count (kind_in a.self) a.cutoff a.word a.side =
    omega (arith, c.tally-tally.ensures.edges, c.in_default) in
    sym ((edge_many (kind_in a.self) a.cutoff a.word a.side).1 many)
