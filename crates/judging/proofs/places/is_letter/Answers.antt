-- One of four. Assumes nothing.
use Rattle.std.proofs.Common.{arith}
use Rattle.std.proofs.lemmas.Grind.{common_steps}
use Rattle.dna.specs.Text.{among}
use Rattle.judging.proofs.places.is_letter.Goals as goal

pub returns-in-65 : goal.returns-in-65
unfolding among
returns-in-65 c = grind (arith, common_steps, c.in-65.is)

pub returns-in_default : goal.returns-in_default
unfolding among
returns-in_default c = grind (arith, common_steps)
