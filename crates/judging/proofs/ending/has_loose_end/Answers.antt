-- One end, then the other. Assumes nothing.
use Prim.Native.Nat.{◌≤◌}
use native.Mathlib.Omega.{arith}
use lib.ListN.{length}
use Rattle.laws.proofs.Plain.{plain_bases}
use Rattle.marks.specs.Marks.{ends}
use Rattle.marks.specs.Ready.{keys_for}
use Rattle.judging.proofs.Looked.{sees_kmers, kmers_turned}
use Rattle.judging.proofs.Rows.{end_loose, end_other}
use Rattle.judging.proofs.ending.has_loose_end.Goals as goal

pub see_window-first-requires : goal.see_window-first-requires
see_window-first-requires c =
    let a = c.args in
    let g = a.graph.now in
    let h : g.k ≤ length a.label.now = c.requires.1.1 in
    (c.requires.0, plain_bases a.label.now c.requires.1.0, omega arith)

pub see_window-last-requires : goal.see_window-last-requires
see_window-last-requires c =
    let a = c.args in
    let g = a.graph.now in
    let h : g.k ≤ length a.label.now = c.requires.1.1 in
    (c.requires.0, plain_bases a.label.now c.requires.1.0, omega arith)

pub is_loose-requires : goal.is_loose-requires
is_loose-requires c =
    let ok = c.requires.0.ok in
    (c.requires.0, sees_kmers ok c.see_window-first.ensures, sees_kmers ok c.see_window-last.ensures)

pub returns-then-is_loose : goal.returns-then-is_loose
returns-then-is_loose c =
    let a = c.args in
    let g = a.graph.now in
    end_loose g.k c.requires.0.ok a.label.now c.requires.1 (keys_for a.marks.now g.keys.now)
    (ends a.marks.now) c.see_window-first.ensures c.see_window-last.ensures
    c.is_loose.ensures c.if-is_loose.true

pub is_loose-requires-else-is_loose : goal.is_loose-requires-else-is_loose
is_loose-requires-else-is_loose c =
    let ok = c.requires.0.ok in (
      c.requires.0,
      kmers_turned c.turned.ensures (sees_kmers ok c.see_window-last.ensures),
      kmers_turned c.turned-else-is_loose.ensures (sees_kmers ok c.see_window-first.ensures),
    )

pub returns-else-is_loose : goal.returns-else-is_loose
returns-else-is_loose c =
    let a = c.args in
    let g = a.graph.now in
    end_other g.k c.requires.0.ok a.label.now c.requires.1 (keys_for a.marks.now g.keys.now)
    (ends a.marks.now) c.see_window-first.ensures c.see_window-last.ensures
    c.is_loose.ensures c.if-is_loose.false c.turned.ensures
    c.turned-else-is_loose.ensures c.is_loose-else-is_loose.ensures
