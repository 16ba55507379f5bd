-- A mask leaves the last bases. Assumes nothing.
use Rattle.directory.proofs.Leading.{last_is}
use Rattle.directory.proofs.slots.last_bases.Goals as goal

pub returns : goal.returns
returns c = last_is c.args.word c.args.b c.requires
