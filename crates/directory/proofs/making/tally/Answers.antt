use Rattle.std.proofs.Common.{◌+◌, ◌<◌, length, sym, ap, ◌∙◌, arith, rules}
use Rattle.kmer.specs.Says.{value_of}
use Rattle.directory.specs.Directory.{slot_of}
use Rattle.directory.proofs.Leading.{slot_lt}
use Rattle.directory.proofs.Tallying.{tally_next, tally_end}
use Rattle.directory.proofs.making.tally.Goals as goal
use Rattle.directory.proofs.making.tally.Goals.{After-slot_of-t}

-- The cell behind the slot is there.
room : (c : After-slot_of-t) → c.slot_of-t.result + 1 < length c.loop-i.directory
room c =
    let a = c.args in
    omega (arith, c.slot_of-t.ensures, slot_lt a.b a.k (value_of c.key_at.result), c.requires.3)

pub overflow_add-directory-in-loop-i : goal.overflow_add-directory-in-loop-i
overflow_add-directory-in-loop-i c = let r = room
    (goal.at.overflow_add-directory-in-loop-i c).After-slot_of-t in search rules

pub offset_bounds-directory-t : goal.offset_bounds-directory-t
offset_bounds-directory-t c = let r = room (goal.at.offset_bounds-directory-t c).After-slot_of-t in search rules

pub bounds-directory-t : goal.bounds-directory-t
bounds-directory-t c = room (goal.at.bounds-directory-t c).After-slot_of-t

pub loop-i-preserved : goal.loop-i-preserved
loop-i-preserved c =
    let l = c.loop-i in
    let a = c.args in
    let slot = slot_of a.b a.k in
    l.invariant
    ∙ tally_next slot a.n a.keys.now l.directory l.i c.requires.2 _ c.loop-i-test.true
    (c.slot_of-t.ensures ∙ ap slot c.key_at.ensures)

pub returns : goal.returns
returns c =
    let l = c.loop-i in
    let a = c.args in
    sym (l.invariant ∙ tally_end (slot_of a.b a.k) a.n a.keys.now l.directory l.i c.requires.2 (omega arith))
