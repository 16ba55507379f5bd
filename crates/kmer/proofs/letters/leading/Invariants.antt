-- Each turn writes one letter more. Assumes nothing.
use Rattle.lemmas.proofs.Building.{Built}
use Rattle.kmer.specs.Kmer.{letters}
use Rattle.kmer.specs.Says.{value_of}
use Rattle.kmer.proofs.letters.leading.Given as goal

abbrev pub invariant-loop-i : goal.invariant-loop-i
invariant-loop-i l = Built (letters l.k.bases (value_of l.x)) l.initial.cell-items l.cell-items l.i
