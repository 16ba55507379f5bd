-- The digits read so far say a number that is not above the limit. Assumes nothing.
use Rattle.labels.proofs.Spelling.{Read}
use Rattle.labels.proofs.number_of.Given as goal

abbrev pub invariant-loop-digit : goal.invariant-loop-digit
invariant-loop-digit l = Read l.digits l.most l.x l.digit-index
