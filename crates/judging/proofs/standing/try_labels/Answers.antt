use mathlib.Core.Path.{ap, ◌∙◌}
use mathlib.Core.List.{[]}
use Rattle.marks.specs.Marks.{ends}
use Rattle.marks.specs.Ready.{keys_for}
use Rattle.rules.specs.Verdict.{breaks2}
use Rattle.judging.specs.Standing.{is_misplaced, is_bad}
use Rattle.judging.proofs.Passes.{pass_record, pass_label, placing_start, placing_found, placing_bad, placing_fine}
use Rattle.judging.proofs.Passes.{placing_end}
use Rattle.judging.proofs.standing.try_labels.Goals as goal
use Rattle.judging.proofs.standing.try_labels.Goals.{in-BadStep, in-Fine}

pub loop-at-init : goal.loop-at-init
loop-at-init c = ([], placing_start c.requires.0 c.requires.1 c.requires.2)

pub label_at-label-requires : goal.label_at-label-requires
label_at-label-requires c =
    let l = c.loop-at in
    let a = c.args in
    let g = a.graph.now in
    pass_record g.k a.text.now (breaks2 g.k (keys_for a.marks.now g.keys.now) (ends a.marks.now))
    l.invariant.1.passing
    c.loop-at-test.true

pub test_label-requires : goal.test_label-requires
test_label-requires c =
    let i = c.loop-at.invariant in
    let a = c.args in
    let g = a.graph.now in (
      i.1.ready,
      pass_label g.k a.text.now (breaks2 g.k (keys_for a.marks.now g.keys.now)
          (ends a.marks.now)) i.1.passing
          c.loop-at-test.true c.label_at-label.ensures,
    )

pub returns-in-Misplaced : goal.returns-in-Misplaced
returns-in-Misplaced c =
    placing_found c.loop-at.invariant.1 c.loop-at-test.true c.label_at-label.ensures
    c.test_label.ensures
    (ap is_misplaced c.in-Misplaced.is)

pub loop-at-preserved : goal.loop-at-preserved
loop-at-preserved c =
    let p = c.loop-at.invariant.1 in
    elim c.match-test_label.branch [
      | in-BadStep w ↦
          let told = w.in-BadStep.is in (
            _,
            placing_bad p c.loop-at-test.true c.label_at-label.ensures c.test_label.ensures
                (ap is_misplaced told) (ap is_bad told) (w.bad-is ∙ w.or-bad.ensures),
          )
      | in-Fine w ↦
          let told = w.in-Fine.is in (
            _,
            placing_fine p c.loop-at-test.true c.label_at-label.ensures c.test_label.ensures
                (ap is_misplaced told) (ap is_bad told) w.bad-is,
          )
    ]

pub returns : goal.returns
returns c = placing_end c.loop-at.invariant.1 c.loop-at-test.false
