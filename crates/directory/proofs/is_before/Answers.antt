-- The key at the place, or none. Assumes nothing.
use Rattle.std.proofs.Common.{◌∙◌, le-leb, rules}
use Rattle.kmer.specs.Says.{value_of}
use Rattle.directory.proofs.Standing.{before_at, before_end}
use Rattle.directory.proofs.is_before.Goals as goal

pub returns-then-min-i : goal.returns-then-min-i
returns-then-min-i c =
    let a = c.args in
    rw (le-leb _ _ c.if-min-i.true) (before_end a.n a.keys.now (value_of a.x) a.i (search rules))

pub returns-else-min-i : goal.returns-else-min-i
returns-else-min-i c =
    let a = c.args in
    c.is_less.ensures ∙ before_at a.n a.keys.now (value_of a.x) a.i (value_of c.key_at.result)
    (search rules) c.key_at.ensures
