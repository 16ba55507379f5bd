-- The windows of a label are tested one by one. Assumes nothing.
use mathlib.Core.Path.{◌≡◌}
use mathlib.Core.Bool.{false}
use Rattle.marks.specs.Marks.{ends}
use Rattle.marks.specs.Ready.{keys_for}
use Rattle.judging.specs.Standing.{is_misplaced, is_bad, Testing, Joining}
use Rattle.judging.proofs.standing.test_label.Given as goal

abbrev pub invariant-loop-o : goal.invariant-loop-o
invariant-loop-o l = record {
  none : is_misplaced l.found ≡ false;
  testing : Testing l.graph.k l.graph.keys.now l.initial.marks l.label l.marks l.o;
  joining : Joining l.graph.k (keys_for l.initial.marks l.graph.keys.now) (ends l.initial.marks) l.label l.o
      (is_bad l.found);
}
