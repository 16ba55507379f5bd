-- Each turn puts one more digit in front. Assumes nothing.
use Rattle.label_file.proofs.Digits.{Digits}
use Rattle.label_file.proofs.line.put_decimal.Given as goal

abbrev pub invariant-loop-x : goal.invariant-loop-x
invariant-loop-x l = Digits l.number l.initial.out l.at l.out l.x l.i

abbrev pub decreases-loop-x : goal.decreases-loop-x
decreases-loop-x l = l.i
