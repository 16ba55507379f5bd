-- The labels are written in anchor order, the marks become 0 and 1, and the index is put in order. Assumes nothing.
use Rattle.contraction.proofs.Listing.{all_listed}
use Rattle.contraction.proofs.whole.write_list.Goals as goal

pub returns : goal.returns
returns c =
    all_listed c.args.k c.args.keys.now c.args.marks.now c.requires.0 c.write_labels-count.ensures
    c.normalize_unitigs.ensures c.settle.ensures
