-- The key at the place, then the one before it. Assumes nothing.
use Rattle.std.proofs.Common.{sym, ◌∙◌, eq-eqb, arith}
use Rattle.kmer.specs.Says.{value_of}
use Rattle.graph.proofs.Keys.{keys_length}
use Rattle.directory.proofs.Standing.{stands_not, stands_first, stands_on}
use Rattle.directory.proofs.is_between.Goals as goal

pub key_at-requires : goal.key_at-requires
key_at-requires c = omega (arith, keys_length c.args.n c.args.keys.now)

pub returns-then-i-eq0 : goal.returns-then-i-eq0
returns-then-i-eq0 c =
    let a = c.args in
    rw (eq-eqb _ _ c.if-i-eq0.true)
    (stands_first a.n a.keys.now (value_of a.x) a.i (sym c.if-is_before.ensures) c.if-i-eq0.true)

pub returns-else-i-eq0 : goal.returns-else-i-eq0
returns-else-i-eq0 c =
    let a = c.args in
    c.is_less.ensures
    ∙ stands_on a.n a.keys.now (value_of a.x) a.i (value_of c.key_at.result) (sym c.if-is_before.ensures)
    c.if-i-eq0.false c.requires c.key_at.ensures

pub returns-else-is_before : goal.returns-else-is_before
returns-else-is_before c =
    let a = c.args in
    rw c.if-is_before.false (stands_not a.n a.keys.now (value_of a.x) a.i (sym c.if-is_before.ensures))
