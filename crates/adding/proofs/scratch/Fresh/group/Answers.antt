use mathlib.Core.Path.{refl, sym, ◌∙◌}
use native.Mathlib.Omega.{arith}
use Rattle.adding.proofs.Grouping.{grouping_none, grouping_same, grouping_new}
use Rattle.adding.proofs.scratch.Fresh.group.Goals as goal
use Rattle.adding.proofs.scratch.Fresh.group.Goals.{then-not-is_last, else-not-is_last}

pub loop-t-init : goal.loop-t-init
loop-t-init g c = (refl, grouping_none)

pub loop-t-preserved : goal.loop-t-preserved
loop-t-preserved g c =
    let v = c.loop-t.invariant in
    elim c.if-not-is_last.branch [
      | then-not-is_last w ↦ rw (w.self-is, w.u-is, w.put.ensures.offsets) (
        v.0,
        grouping_new v.1 c.loop-t-test.true (omega arith) (omega arith) c.key_at-x.ensures
            (sym c.is_last.ensures ∙ w.if-not-is_last.true) w.put.ensures.keys w.put.ensures.places w.put.ensures.counts
            (rw (w.self-is, w.u-is) at c.counted.ensures) (omega arith) (omega arith) (omega arith),
      )
      | else-not-is_last w ↦ rw (w.self-is, w.u-is) (
        v.0,
        grouping_same v.1 c.loop-t-test.true (omega arith) (omega arith) c.key_at-x.ensures
            (sym c.is_last.ensures ∙ w.if-not-is_last.false) (rw (w.self-is, w.u-is) at c.counted.ensures) (omega arith)
            (omega arith),
      )
    ]
