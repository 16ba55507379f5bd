-- The bases below the loop's are added up. Assumes nothing.
use Rattle.state.specs.Parts.{kind_in}
use Rattle.state.proofs.Retained.{Below}
use Rattle.state.proofs.Layout.tally.Given as goal

abbrev pub invariant-loop-bits : goal.invariant-loop-bits
invariant-loop-bits l = Below (kind_in l.self) l.cutoff l.word l.side l.bits l.tally.edges l.tally.codes
