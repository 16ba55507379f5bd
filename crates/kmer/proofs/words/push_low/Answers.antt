-- `push_low`, at the word and the base that come in. Assumes nothing.
use Rattle.kmer.proofs.Moves.{push_low}
use Rattle.kmer.proofs.words.push_low.Goals as goal

pub returns : goal.returns
returns c = push_low c.args.word c.args.bits c.requires
