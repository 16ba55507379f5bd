-- Each turn computes one more mark. Assumes nothing.
use mathlib.Core.List.{map}
use lib.ListN.{length, take}
use Rattle.lemmas.proofs.Building.{Built}
use Rattle.state.specs.Says.{kind_of}
use Rattle.marks.specs.Marks.{mark_of}
use Rattle.marks.proofs.making.digest.Given as goal

abbrev pub invariant-loop-i : goal.invariant-loop-i
invariant-loop-i l =
    Built (map (mark_of (kind_of l.kind) l.cutoff) (take (length l.initial.marks) l.counts)) l.initial.marks l.marks l.i
