use mathlib.Core.Path.{sym, ◌∙◌}
use Prim.Native.Nat.{◌<◌}
use native.Mathlib.Omega.{arith}
use lib.ListN.{length}
use Rattle.judging.proofs.Lines.{held_end, held_no_line, held_no_second, held_no_header, held_no_label, held_on}
use Rattle.judging.proofs.places.is_list.Goals as goal
use Rattle.judging.proofs.places.is_list.Goals.{then-end-text-via-then-end-text}
use Rattle.judging.proofs.places.is_list.Goals.{then-end-text-via-else-end-text+then-text-at-ne62}
use Rattle.judging.proofs.places.is_list.Goals.{then-end-text-via-else-end-text+else-text-at-ne62+then-not-is_label}

pub returns-then-head-text : goal.returns-then-head-text
returns-then-head-text c =
    let l = c.loop-at in
    let a = c.args in
    sym (l.invariant.1 ∙ held_no_line a.k a.text.now l.at c.line_end-head.result
    c.loop-at-test.true c.line_end-head.ensures c.if-head-text.true)

pub returns-then-end-text : goal.returns-then-end-text
returns-then-end-text c =
    let l = c.loop-at in
    let a = c.args in
    let g = c.line_end-head.ensures in
    let k = c.line_end-end.ensures in
    let h : c.line_end-head.result < length a.text.now = omega (arith, g.within, c.if-head-text.false) in
    elim c.then-end-text.branch [
      | then-end-text-via-then-end-text w ↦
          sym (l.invariant.1
          ∙ held_no_second a.k a.text.now l.at c.line_end-head.result g h c.line_end-end.result k w.if-end-text.true)
      | then-end-text-via-else-end-text+then-text-at-ne62 w ↦
          sym (l.invariant.1 ∙ held_no_header a.k a.text.now l.at c.line_end-head.result g h c.line_end-end.result k
          (omega (arith, k.within, w.if-end-text.false)) w.if-text-at-ne62.true)
      | then-end-text-via-else-end-text+else-text-at-ne62+then-not-is_label w ↦
          sym (l.invariant.1 ∙ held_no_label a.k a.text.now l.at c.line_end-head.result g h c.line_end-end.result k
          (omega (arith, k.within, w.if-end-text.false)) w.if-text-at-ne62.false w.is_label.ensures
          w.if-not-is_label.true)
    ]

pub loop-at-preserved : goal.loop-at-preserved
loop-at-preserved c =
    let l = c.loop-at in
    let a = c.args in
    let g = c.line_end-head.ensures in
    let k = c.line_end-end.ensures in (
      omega (arith, k.within, c.if-end-text.false),
      l.invariant.1 ∙ held_on a.k a.text.now l.at
          c.line_end-head.result g (omega (arith, g.within, c.if-head-text.false)) c.line_end-end.result
          k (omega (arith, k.within, c.if-end-text.false)) c.if-text-at-ne62.false c.is_label.ensures
          c.if-not-is_label.false,
    )

pub returns : goal.returns
returns c =
    let l = c.loop-at in
    let a = c.args in
    sym (l.invariant.1 ∙ held_end a.k a.text.now l.at c.loop-at-test.false l.invariant.0)
