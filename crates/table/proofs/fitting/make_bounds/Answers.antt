use Rattle.table.proofs.BoundsIn.{bounding_none, bounding_more, bounding_all}
use Rattle.table.proofs.fitting.make_bounds.Goals as goal

pub loop-b-init : goal.loop-b-init
loop-b-init c = bounding_none c.told-bounds

pub loop-b-preserved : goal.loop-b-preserved
loop-b-preserved c = bounding_more c.bound.result c.loop-b.invariant c.loop-b-test.true c.bound.ensures

pub returns : goal.returns
returns c = bounding_all c.loop-b.invariant c.loop-b-test.false
