use Rattle.std.proofs.Common.{◌≡◌, ◌+◌, ◌<◌, length, get_or, take, sym, ◌∙◌, arith, length-take, length-drop, length-take-le}
use Rattle.std.proofs.lemmas.List.{get_or-take, length_push}
use Rattle.std.proofs.lemmas.Slice.Zip.{zip_turn}
use Rattle.label_index.proofs.Entries.{within_long}
use Rattle.fasta.proofs.Writing.{listed_none, next_fits, listed_more}
use Rattle.fasta.proofs.write_records.Goals as goal
use Rattle.fasta.proofs.write_records.Goals.{In-Some}

pub slice_bounds-iter-end : goal.slice_bounds-iter-end
slice_bounds-iter-end c = sym (length-take-le _ _ (within_long _ _ _ _ c.requires.0).0)

pub slice_bounds-zip-end : goal.slice_bounds-zip-end
slice_bounds-zip-end c = sym (length-take-le _ _ (within_long _ _ _ _ c.requires.0).1)

pub loop-start-init : goal.loop-start-init
loop-start-init c = listed_none _ _ _ _ _ c.requires.0 c.requires.1

-- Which entry a turn has.
entry : (c : In-Some) → (length c.loop-start.yielded < c.args.count)
    × (c.in-Some.start.now ≡ get_or c.args.starts.now (length c.loop-start.yielded) 0)
    × (c.in-Some.length.now ≡ get_or c.args.lengths.now (length c.loop-start.yielded) 0)
entry c =
    let a = c.args in
    let l = c.loop-start in
    let t =
    zip_turn (take a.count a.starts.now) (take a.count a.lengths.now) l.yielded _ l.start-iterator c.next.new.self _
    (cc) (cc)
    l.yielded_by _
    c.in-Some.is c.next.ensures.steps in
    let h : length l.yielded < a.count = omega (arith, t.0, length-take a.count a.starts.now) in
    (h, t.2 0 ∙ get_or-take a.count a.starts.now _ 0 h, t.3 0 ∙ get_or-take a.count a.lengths.now _ 0 h)

pub slice_bounds-write_record-end : goal.slice_bounds-write_record-end
slice_bounds-write_record-end c =
    let e = entry (goal.at.slice_bounds-write_record-end c).In-Some in
    let f = next_fits c.loop-start.invariant e.0 in
    omega (arith, e.1, e.2)

pub write_record-at-requires : goal.write_record-at-requires
write_record-at-requires c =
    let e = entry (goal.at.write_record-at-requires c).In-Some in
    let f = next_fits c.loop-start.invariant e.0 in
    simp (length-take, length-drop) (omega (arith, e.1, e.2))

pub loop-start-preserved : goal.loop-start-preserved
loop-start-preserved c =
    let e = entry (goal.at.loop-start-preserved c).In-Some in
    let start = c.wide-start in
    let more = c.wide in
    let w = c.write_record-at in
    rw length_push (listed_more c.loop-start.invariant e.0 start.result (start.result + more.result) _ _
    (start.ensures.0 ∙ e.1) (omega (arith, e.2))
    w.ensures.0 w.ensures.1)
