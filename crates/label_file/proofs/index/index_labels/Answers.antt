use mathlib.Core.Path.{refl}
use native.Mathlib.Omega.{arith}
use Rattle.label_file.proofs.Indexing.{indexed_none, indexed_all, room, indexed_next}
use Rattle.label_file.proofs.index.index_labels.Goals as goal

pub loop-at-init : goal.loop-at-init
loop-at-init c =
    indexed_none c.args.file.now c.args.starts.now c.args.lengths.now c.requires.0 c.requires.1 c.requires.2

pub two_bytes-size-requires : goal.two_bytes-size-requires
two_bytes-size-requires c = omega (arith, room c.loop-at.invariant c.loop-at-test.true _ refl)

pub loop-at-preserved : goal.loop-at-preserved
loop-at-preserved c =
    indexed_next c.loop-at.invariant c.loop-at-test.true c.two_bytes-size.result c.two_bytes-size.ensures.0

pub returns : goal.returns
returns c = indexed_all c.loop-at.invariant c.loop-at-test.false
