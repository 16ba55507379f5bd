use mathlib.Core.Path.{refl}
use native.Mathlib.Omega.{arith}
use borrow.Author.Rules.{rules}
use Rattle.adding.proofs.OneByOne.{refused, added_all, entry_there, entry_inside, added_more, added_ends}
use Rattle.adding.proofs.Settings.add_each.Goals as goal

pub offset_bounds-starts-i : goal.offset_bounds-starts-i
offset_bounds-starts-i c = let there = (entry_there c.loop-i.invariant c.loop-i-test.true).0 in search rules

pub bounds-starts-i : goal.bounds-starts-i
bounds-starts-i c = (entry_there c.loop-i.invariant c.loop-i-test.true).0

pub offset_bounds-lengths-i : goal.offset_bounds-lengths-i
offset_bounds-lengths-i c = let there = (entry_there c.loop-i.invariant c.loop-i-test.true).1 in search rules

pub bounds-lengths-i : goal.bounds-lengths-i
bounds-lengths-i c = (entry_there c.loop-i.invariant c.loop-i-test.true).1

pub slice_bounds-add_next-end : goal.slice_bounds-add_next-end
slice_bounds-add_next-end c = omega (arith, entry_inside c.loop-i.invariant c.loop-i-test.true)

pub loop-i-preserved : goal.loop-i-preserved
loop-i-preserved c =
    added_more c.loop-i.invariant c.loop-i-test.true refl refl c.add_next-answer.ensures _ c.in-Ok.is
    c.add_next-answer.auto.keys c.add_next-answer.auto.counts

pub returns-in_default : goal.returns-in_default
returns-in_default c =
    added_ends c.loop-i.invariant c.loop-i-test.true refl refl c.add_next-answer.ensures (refused _ c.in_default.not-Ok)

pub returns : goal.returns
returns c = added_all c.loop-i.invariant (omega arith)
