-- The tests in their order. Assumes nothing.
use Rattle.judging.proofs.Looked.{sees_kmers, after_small, loose_none, loose_no, loose_on}
use Rattle.judging.proofs.Graph.is_loose.Goals as goal

pub returns-then-edge_in-gt3 : goal.returns-then-edge_in-gt3
returns-then-edge_in-gt3 c =
    let a = c.args in
    λ n m gf gx. loose_none a.f a.x n m gf gx c.exit-side.ensures c.edge_in.ensures
    c.if-edge_in-gt3.true

pub see-y-requires : goal.see-y-requires
see-y-requires c =
    let a = c.args in
    let g = a.self.now in
    (c.requires.0, after_small g.k a.x c.exit-side.result c.after.ensures)

pub is_step-requires : goal.is_step-requires
is_step-requires c = (c.requires.2, sees_kmers c.requires.0.ok c.see-y.ensures)

pub returns-then-is_step : goal.returns-then-is_step
returns-then-is_step c =
    let a = c.args in
    λ n m gf gx. loose_on a.f a.x n m gf gx c.exit-side.ensures c.edge_in.ensures
    c.after.result c.after.ensures c.see-y.result c.see-y.ensures
    c.is_step.ensures c.if-is_step.true
    c.canonical.ensures c.canonical-then-is_step.ensures c.canonical-then-is_step-2.ensures
    c.is_apart.ensures

pub returns-else-is_step : goal.returns-else-is_step
returns-else-is_step c =
    let a = c.args in
    λ n m gf gx. loose_no a.f a.x n m gf gx c.exit-side.ensures c.edge_in.ensures
    c.after.result c.after.ensures c.see-y.result
    c.see-y.ensures c.is_step.ensures c.if-is_step.false
