-- The invariant: the counters are those with the stored ones of the windows so far counted. Assumes nothing.
use Rattle.adding.proofs.Raising.{Raising}
use Rattle.state.specs.Says.{kind_of}
use Rattle.adding.proofs.scratch.Noted.raise_known.Given as goal

abbrev pub invariant-loop-o : goal.invariant-loop-o
invariant-loop-o g l = Raising (kind_of l.kind) l.m l.self.notes l.self.places l.initial.counts l.o l.counts
