-- Each turn is one anchor of the run, and what it gives stands in the trail. Assumes nothing.
use Rattle.contraction.proofs.Paving.{Paving}
use Rattle.contraction.proofs.Surveying.{Surveying}
use Rattle.contraction.proofs.Graph.follow_all.Given as goal

abbrev pub invariant-loop-a : goal.invariant-loop-a
invariant-loop-a l =
    Surveying l.self.k l.self.keys.now l.initial.marks l.a l.all.labels l.all.bases l.marks
    × Paving l.self.k l.self.keys.now l.initial.marks l.a l.initial.trail l.at l.trail
