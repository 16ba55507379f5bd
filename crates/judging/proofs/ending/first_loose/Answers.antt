use mathlib.Core.Path.{◌∙◌}
use mathlib.Core.List.{[], ◌∷◌}
use Prim.Native.Nat.{◌-◌}
use Rattle.dna.specs.Text.{part}
use Rattle.marks.specs.Marks.{ends}
use Rattle.rules.specs.Verdict.{breaks4}
use Rattle.marks.specs.Ready.{keys_for}
use Rattle.judging.proofs.Passes.{pass_start, pass_record, pass_label, pass_found, pass_on, pass_end, any_done_4}
use Rattle.judging.proofs.ending.first_loose.Goals as goal

pub loop-at-init : goal.loop-at-init
loop-at-init c =
    let a = c.args in
    let g = a.graph.now in (
      [],
      pass_start g.k a.text.now (breaks4 g.k (keys_for a.marks.now g.keys.now)
          (ends a.marks.now)) c.requires.1,
    )

pub label_at-label-requires : goal.label_at-label-requires
label_at-label-requires c =
    let l = c.loop-at in
    let a = c.args in
    let g = a.graph.now in
    pass_record g.k a.text.now (breaks4 g.k (keys_for a.marks.now g.keys.now) (ends a.marks.now))
    l.invariant.1 c.loop-at-test.true

pub has_loose_end-requires : goal.has_loose_end-requires
has_loose_end-requires c =
    let l = c.loop-at in
    let a = c.args in
    let g = a.graph.now in (
      c.requires.0,
      pass_label g.k a.text.now
          (breaks4 g.k (keys_for a.marks.now g.keys.now) (ends a.marks.now)) l.invariant.1
          c.loop-at-test.true c.label_at-label.ensures,
    )

pub returns-then-has_loose_end : goal.returns-then-has_loose_end
returns-then-has_loose_end c =
    let l = c.loop-at in
    let a = c.args in
    let g = a.graph.now in
    let m = c.label_at-label in
    pass_found g.k a.text.now (breaks4 g.k (keys_for a.marks.now g.keys.now) (ends a.marks.now))
    l.invariant.1 c.loop-at-test.true m.ensures
    (c.has_loose_end.ensures ∙ any_done_4 g.k (keys_for a.marks.now g.keys.now)
    (ends a.marks.now) l.invariant.0 (part a.text.now m.result.start (m.result.end - m.result.start)))
    c.if-has_loose_end.true

pub loop-at-preserved : goal.loop-at-preserved
loop-at-preserved c =
    let l = c.loop-at in
    let a = c.args in
    let g = a.graph.now in
    let m = c.label_at-label in (
      (part a.text.now m.result.start (m.result.end - m.result.start)) ∷ l.invariant.0,
      pass_on g.k
          a.text.now (breaks4 g.k (keys_for a.marks.now g.keys.now) (ends a.marks.now)) l.invariant.1
          c.loop-at-test.true m.ensures
          (c.has_loose_end.ensures ∙ any_done_4 g.k (keys_for a.marks.now g.keys.now)
          (ends a.marks.now) l.invariant.0 (part a.text.now m.result.start (m.result.end - m.result.start)))
          c.if-has_loose_end.false,
    )

pub returns : goal.returns
returns c =
    let l = c.loop-at in
    let a = c.args in
    let g = a.graph.now in
    pass_end g.k a.text.now (breaks4 g.k (keys_for a.marks.now g.keys.now) (ends a.marks.now))
    l.invariant.1 c.loop-at-test.false
