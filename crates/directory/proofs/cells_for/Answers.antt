-- In the order of the definition. Assumes nothing.
use Rattle.std.proofs.Common.{arith}
use Rattle.std.proofs.lemmas.Bool.Decides.{nat_tests}
use Rattle.directory.specs.Directory.{cells_for}
use Rattle.directory.proofs.cells_for.Goals as goal

pub returns-in-0-to-2048 : goal.returns-in-0-to-2048
unfolding cells_for
returns-in-0-to-2048 c = grind (arith, nat_tests)

pub returns-in-2049-to-8192 : goal.returns-in-2049-to-8192
unfolding cells_for
returns-in-2049-to-8192 c = grind (arith, nat_tests)

pub returns-in_default : goal.returns-in_default
unfolding cells_for
returns-in_default c = grind (arith, nat_tests)
