-- `passed`, at the word that comes in. Assumes nothing.
use Rattle.kmer.proofs.Passing.{passed}
use Rattle.kmer.proofs.eights.strange.Goals as goal

pub returns : goal.returns
returns c = passed c.args.x
