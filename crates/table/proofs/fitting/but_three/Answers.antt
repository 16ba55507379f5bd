-- The high word's low bits come in above what is left of the low word. Assumes nothing.
use native.Mathlib.Omega.{arith}
use Rattle.kmer.proofs.Halves.{low_word}
use Rattle.table.proofs.fitting.but_three.Goals as goal

pub returns : goal.returns
returns c = low_word 6 c.args.h c.args.l (omega arith) c.ranges.l.fits
