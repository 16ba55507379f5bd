-- The constant is the list that the rule makes, which antt computes. Assumes nothing.
use mathlib.Core.Path.{refl}
use Rattle.dna.specs.Letters.{letter_of}
use Rattle.kmer.specs.Kmer.{quad_of}
use Rattle.kmer.proofs.quads.table.Goals as goal

pub returns : goal.returns
unfolding quad_of letter_of
returns c = refl
