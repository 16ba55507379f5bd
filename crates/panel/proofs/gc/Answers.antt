-- A byte is one of the two letters, or neither. Assumes nothing.
use Rattle.std.proofs.Common.{arith}
use Rattle.std.proofs.lemmas.Bool.Decides.{nat_tests}
use Rattle.dna.specs.Text.{among}
use Rattle.panel.proofs.gc.Goals as goal
use Rattle.panel.proofs.gc.Goals.{in-71, in_default}

pub returns : goal.returns
unfolding among
returns c = elim c.match-matches.branch [ in-71 w ↦ grind (arith, nat_tests) | in_default w ↦ grind (arith, nat_tests) ]
