-- The invariant: the labels passed and the records that remain are the whole file. Assumes nothing.
use Prim.Native.Nat.{◌-◌}
use lib.ListN.{length}
use Rattle.label_file.proofs.Remaining.{Remains}
use Rattle.label_file.proofs.form.form.Given as goal

abbrev pub invariant-loop-at : goal.invariant-loop-at
invariant-loop-at l = Remains l.file l.«record» l.at

abbrev pub decreases-loop-at : goal.decreases-loop-at
decreases-loop-at l = length l.file - l.at
