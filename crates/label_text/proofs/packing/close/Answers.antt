-- An empty label is left out; a mark and a size make another a record. Assumes nothing.
use mathlib.Core.Path.{◌∙◌}
use Rattle.label_text.proofs.Growing.{closes_none, closes_some}
use Rattle.label_text.proofs.packing.close.Goals as goal

pub returns-then-size-eq0 : goal.returns-then-size-eq0
returns-then-size-eq0 c = closes_none c.requires c.if-size-eq0.true

pub returns : goal.returns
returns c =
    closes_some c.requires c.if-size-eq0.false _ _
    c.copy_from_slice.ensures.after (c.copy_from_slice-2.ensures.after ∙ c.to_le_bytes.ensures)
