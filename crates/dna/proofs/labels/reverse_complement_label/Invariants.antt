use lib.ListN.{length}
use Rattle.lemmas.proofs.Building.{Built}
use Rattle.dna.specs.Letters.{reverse_complement}
use Rattle.dna.proofs.labels.reverse_complement_label.Given as goal

abbrev pub invariant-loop-i : goal.invariant-loop-i
invariant-loop-i l = Built (reverse_complement l.label) l.initial.out l.out (length l.yielded)
