-- `push_high`, at the two words that come in. Assumes nothing.
use Rattle.kmer.proofs.Moves.{push_high}
use Rattle.kmer.proofs.words.push_high.Goals as goal

pub returns : goal.returns
returns c = push_high c.args.word c.args.above c.ranges.word.fits
