-- `gathered`, at the word that comes in. Assumes nothing.
use Rattle.kmer.proofs.Gathering.{gathered}
use Rattle.kmer.proofs.eights.codes.Goals as goal

pub returns : goal.returns
returns c = gathered c.args.x
