use mathlib.Core.Path.{◌∙◌}
use Rattle.label_text.proofs.Marks.{has_mark_any}
use Rattle.label_text.proofs.lines.is_mixed.Goals as goal

pub returns-then-not-is_header : goal.returns-then-not-is_header
returns-then-not-is_header c =
    rw (← c.if-not-is_header.ensures) (c.contains.ensures.value ∙ has_mark_any c.args.text.now)
