use Rattle.table.proofs.Places.{falls, too_far, tested_more, tested_all}
use Rattle.table.proofs.joining.rises.Goals as goal
use Rattle.table.proofs.joining.rises.Goals.{then-place-least-via-then-place-least, then-place-least-via-else-place-least+then-n-place}

pub returns-then-place-least : goal.returns-then-place-least
returns-then-place-least c =
    let t = c.loop-place.invariant in
    let h = c.loop-place-test.true in
    elim c.then-place-least.branch [
      | then-place-least-via-then-place-least w ↦ falls _ _ _ _ t h w.if-place-least.true
      | then-place-least-via-else-place-least+then-n-place w ↦ too_far _ _ _ _ t h w.if-place-least.false
          w.if-n-place.true
    ]

pub loop-place-preserved : goal.loop-place-preserved
loop-place-preserved c = tested_more _ _ _ _ c.loop-place.invariant c.loop-place-test.true c.if-place-least.false
    c.if-n-place.false

pub returns : goal.returns
returns c = tested_all _ _ _ _ c.loop-place.invariant c.loop-place-test.false
