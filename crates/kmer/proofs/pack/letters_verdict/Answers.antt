-- Where nothing is strange, no letter is bad. Assumes nothing.
use mathlib.Core.Path.{sym, ap}
use Rattle.kmer.specs.Calls.{pack_bases}
use Rattle.kmer.proofs.pack.letters_verdict.Goals as goal

pub returns-then-strange-eq0 : goal.returns-then-strange-eq0
unfolding pack_bases
returns-then-strange-eq0 c = sym (ap (pack_bases c.args.seq.now) (c.requires c.if-strange-eq0.true))
