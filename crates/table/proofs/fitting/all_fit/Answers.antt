use Rattle.std.proofs.Common.{arith}
use Rattle.table.specs.Search.{key}
use Rattle.table.proofs.Ascending.{passed_none, passed_all, passed_more, not_passed, not_low}
use Rattle.table.proofs.fitting.all_fit.Goals as goal

pub returns-then-not-is_key : goal.returns-then-not-is_key
returns-then-not-is_key c =
    let a = c.args in
    not_passed a.k a.n a.keys.now (passed_none _ _ _) c.requires.1 c.requires.2
    (not_low a.k 0 (key a.keys.now 0) (omega arith) (rw c.key_at-before.ensures at c.if-not-is_key.ensures))

pub loop-i-init : goal.loop-i-init
loop-i-init c =
    let a = c.args in
    rw c.key_at-before.ensures
    (passed_more a.k a.n a.keys.now (passed_none _ _ _) c.requires.1 c.requires.2
    (not_low a.k 0 (key a.keys.now 0) (omega arith) (rw c.key_at-before.ensures at c.if-not-is_key.ensures)))

pub follows-requires : goal.follows-requires
follows-requires c = (c.requires.0, c.loop-i.invariant.bounded, c.requires.3)

pub returns-then-not-follows : goal.returns-then-not-follows
returns-then-not-follows c =
    let a = c.args in
    not_passed a.k a.n a.keys.now c.loop-i.invariant c.loop-i-test.true c.requires.2
    (rw c.key_at-x.ensures at c.if-not-follows.ensures)

pub loop-i-preserved : goal.loop-i-preserved
loop-i-preserved c =
    let a = c.args in
    rw c.key_at-x.ensures
    (passed_more a.k a.n a.keys.now c.loop-i.invariant c.loop-i-test.true c.requires.2
    (rw c.key_at-x.ensures at c.if-not-follows.ensures))

pub returns : goal.returns
returns c =
    let a = c.args in
    passed_all a.k a.n a.keys.now c.loop-i.invariant c.loop-i-test.false
