-- Up to K = 32 the key before is its low word. Assumes nothing.
use Rattle.std.proofs.Common.{get_or}
use Rattle.table.proofs.Short.{low_alone}
use Rattle.table.proofs.fitting.follows.Goals as goal

pub returns-then-k-le32 : goal.returns-then-k-le32
returns-then-k-le32 c =
    let w = c.args.before.words in
    rw (low_alone c.args.k c.if-k-le32.true (get_or w 0 0) (get_or w 1 0) c.requires.1) c.low_follows.ensures
