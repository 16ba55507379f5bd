-- The invariant: what is noted of the windows so far, and the rows of the new ones. Assumes nothing.
use Rattle.graph.specs.Table.{keys_of}
use Rattle.adding.specs.Says.{rule_of}
use Rattle.adding.proofs.Looking.{Looking}
use Rattle.adding.proofs.scratch.Fresh.look_up.Given as goal

abbrev pub invariant-loop-o : goal.invariant-loop-o
invariant-loop-o g l =
    Looking (rule_of l.mode) l.k l.label (keys_of l.n l.keys) l.o l.new l.previous
    l.noted.notes l.noted.places l.self.keys l.self.offsets
