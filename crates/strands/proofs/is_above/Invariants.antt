-- The strands are alike so far. Assumes nothing.
use Rattle.dna.specs.Letters.{reverse_complement}
use Rattle.dna.proofs.Order.{Alike}
use Rattle.strands.proofs.is_above.Given as goal

abbrev pub invariant-loop-i : goal.invariant-loop-i
invariant-loop-i l = Alike (reverse_complement l.label) l.label l.i
