-- Figure i is put into cell i, where there is one. Assumes nothing.
use mathlib.Core.Path.{ap, ◌∙◌}
use Prim.Native.Nat.{◌<◌, ◌≤◌}
use native.Mathlib.Omega.{arith}
use native.Mathlib.Numerals.{add-one}
use lib.ListN.{length, get_or, set}
use Rattle.capi.proofs.Noting.{noted_set, noted_past}
use Rattle.capi.proofs.numbers.note.Goals as goal
use Rattle.capi.proofs.numbers.note.Goals.{then-i-figures, else-i-figures}

pub loop-i-preserved : goal.loop-i-preserved
loop-i-preserved c =
    let values = c.args.values.now in
    let slice = c.args.figures.now in
    let i = c.loop-i.i in
    elim c.if-i-figures.branch [
      | then-i-figures w ↦
          let here : i < length slice = omega (arith, c.loop-i.auto.figures, w.if-i-figures.true) in
          let more = noted_set values slice i c.loop-i-test.true here in
          w.figures-is ∙ ap (λ s. set s i (get_or values i 0)) c.loop-i.invariant ∙ rw (add-one i) more
      | else-i-figures w ↦
          let past : length slice ≤ i = omega (arith, c.loop-i.auto.figures, w.if-i-figures.false) in
          w.figures-is ∙ c.loop-i.invariant ∙ rw (add-one i) (noted_past values slice i past)
    ]
