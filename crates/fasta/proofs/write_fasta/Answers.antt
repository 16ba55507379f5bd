-- The two tests choose the answer. Assumes nothing.
use mathlib.Core.Path.{sym, ◌∙◌}
use borrow.Author.Tests.{leb-true, leb-false}
use Rattle.label_index.proofs.Entries.{within_long}
use Rattle.fasta.proofs.Says.{lists_outside, lists_none, lists_all}
use Rattle.fasta.proofs.write_fasta.Goals as goal

pub returns-then-not-lie_within : goal.returns-then-not-lie_within
returns-then-not-lie_within c = lists_outside _ _ _ _ _ (sym c.lie_within.ensures ∙ c.if-not-lie_within.true)

pub has_room-requires : goal.has_room-requires
has_room-requires c =
    let w = sym c.lie_within.ensures ∙ c.if-not-lie_within.false in
    (within_long _ _ _ _ w).1

pub returns-then-not-has_room : goal.returns-then-not-has_room
returns-then-not-has_room c =
    let w = sym c.lie_within.ensures ∙ c.if-not-lie_within.false in
    lists_none _ _ _ _ _ w (leb-false _ _ (sym c.has_room.ensures ∙ c.if-not-has_room.true))

pub write_records-requires : goal.write_records-requires
write_records-requires c =
    let w = sym c.lie_within.ensures ∙ c.if-not-lie_within.false in
    (w, leb-true _ _ (sym c.has_room.ensures ∙ c.if-not-has_room.false))

pub returns : goal.returns
returns c =
    let w = sym c.lie_within.ensures ∙ c.if-not-lie_within.false in
    let h = leb-true _ _ (sym c.has_room.ensures ∙ c.if-not-has_room.false) in
    let e = c.write_records.ensures in
    lists_all _ _ _ _ _ w _ _ h e.0 e.1
