-- The invariant: the labels listed and those of the unread records are all of the file's. Assumes nothing.
use Prim.Native.Nat.{◌-◌}
use lib.ListN.{length}
use Rattle.label_file.proofs.Indexing.{SomeIndexed}
use Rattle.label_file.proofs.index.index_labels.Given as goal

abbrev pub invariant-loop-at : goal.invariant-loop-at
invariant-loop-at l = SomeIndexed l.file l.i l.at l.starts l.lengths

abbrev pub decreases-loop-at : goal.decreases-loop-at
decreases-loop-at l = length l.file - l.at
