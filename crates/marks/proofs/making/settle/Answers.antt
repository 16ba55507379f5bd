use Rattle.std.proofs.Common.{◌/◌, ◌<◌, length, get_or, ◌∙◌, arith, take_all}
use Rattle.std.proofs.lemmas.List.{get_or_default, drop_all}
use Rattle.std.proofs.lemmas.List.Edits.{map_over_more}
use mathlib.Core.List.{append-nil}
use Rattle.marks.specs.Marks.{visits}
use Rattle.marks.proofs.making.settle.Goals as goal

pub loop-mark-preserved : goal.loop-mark-preserved
loop-mark-preserved c =
    let l = c.loop-mark in
    let within : l.mark-index < length l.marks = omega arith in
    map_over_more (λ m. m / 64) c.args.marks.now l.marks l.mark-index (get_or l.marks l.mark-index 0)
    (omega arith) l.invariant
    (get_or_default l.marks l.mark-index 0 _ within)

pub returns : goal.returns
unfolding visits
returns c =
    let l = c.loop-mark in
    let e = take_all l.mark-index c.args.marks.now (omega arith) in
    let n = drop_all l.mark-index c.args.marks.now (omega arith) in
    l.invariant ∙ rw (e, n) (append-nil _)
