use mathlib.Core.Path.{refl, sym, ◌∙◌}
use borrow.Author.Rules.{part_to_end}
use Rattle.label_file.proofs.Remaining.{too_long, headless, remains_all, remains_none, remains_bad, remains_next}
use Rattle.label_file.proofs.form.form.Goals as goal
use Rattle.label_file.proofs.form.form.Goals.{then-file-gt16384-via-then-file-gt16384}
use Rattle.label_file.proofs.form.form.Goals.{then-file-gt16384-via-else-file-gt16384+then-not-is_headed}

pub returns-then-file-gt16384 : goal.returns-then-file-gt16384
returns-then-file-gt16384 c =
    let file = c.args.file.now in
    elim c.then-file-gt16384.branch [
      | then-file-gt16384-via-then-file-gt16384 w ↦ (refl, too_long file w.if-file-gt16384.true)
      | then-file-gt16384-via-else-file-gt16384+then-not-is_headed w ↦
          (refl, headless file (sym w.is_headed.ensures ∙ w.if-not-is_headed.true) w.if-file-gt16384.false)
    ]

pub loop-at-init : goal.loop-at-init
loop-at-init c =
    remains_all c.args.file.now c.if-file-gt16384.false (sym c.is_headed.ensures ∙ c.if-not-is_headed.false)

pub returns-then-not-is_labelled : goal.returns-then-not-is_labelled
returns-then-not-is_labelled c =
    let l = c.loop-at in
    let fails = rw (part_to_end c.args.file.now l.at) at (sym c.is_labelled.ensures ∙ c.if-not-is_labelled.true) in
    (refl, remains_bad l.invariant c.loop-at-test.true fails)

pub loop-at-preserved : goal.loop-at-preserved
loop-at-preserved c =
    let l = c.loop-at in
    let passes = rw (part_to_end c.args.file.now l.at) at (sym c.is_labelled.ensures ∙ c.if-not-is_labelled.false) in
    rw c.two_bytes.ensures.0 (remains_next l.invariant c.loop-at-test.true passes)

pub returns : goal.returns
returns c = remains_none c.loop-at.invariant c.loop-at-test.false
