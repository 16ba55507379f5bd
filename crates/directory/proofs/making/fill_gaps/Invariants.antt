-- The cells passed are done, and those from there on follow from the largest of them. Assumes nothing.
use Rattle.std.proofs.Common.{◌≡◌}
use Rattle.directory.specs.Directory.{spread}
use Rattle.directory.proofs.Spreading.{onwards}
use Rattle.directory.proofs.making.fill_gaps.Given as goal

abbrev pub invariant-loop-cell : goal.invariant-loop-cell
invariant-loop-cell l = spread 0 l.initial.directory ≡ onwards l.directory l.most l.cell-index
