use native.Mathlib.Omega.{arith}
use Rattle.contraction.proofs.Ahead.{ahead, listed_more}
use Rattle.contraction.proofs.Anchors.{anchor_small}
use Rattle.contraction.proofs.Listed.{listed_none, listed_skip, standing}
use Rattle.contraction.proofs.Standing.{place_inside, piece_here}
use Rattle.contraction.proofs.write.write_labels.Goals as goal

pub loop-a-init : goal.loop-a-init
loop-a-init c =
    let a = c.args in
    listed_none a.k a.keys.now a.marks.now a.trail.now a.buffer.now a.starts.now a.lengths.now
    c.requires.0 c.requires.1 c.requires.2

pub bounds-trail-from : goal.bounds-trail-from
bounds-trail-from c = place_inside (standing c.loop-a.invariant c.loop-a-test.true)

pub write_label-label-requires : goal.write_label-label-requires
write_label-label-requires c =
    let g = c.loop-a.invariant in
    let l = c.loop-a-test.true in
    let taken = c.if-trail-from-eq-SKIPPED.false in
    rw c.key_at.ensures (
      g.ready.ok,
      anchor_small g.ready c.loop-a.a l,
      piece_here (standing g l) taken,
      (ahead g l taken).room,
    )

pub overflow_cast-starts : goal.overflow_cast-starts
overflow_cast-starts c = omega (
  arith,
  (ahead c.loop-a.invariant c.loop-a-test.true
      c.if-trail-from-eq-SKIPPED.false).small,
)

pub bounds-starts-labels : goal.bounds-starts-labels
bounds-starts-labels c = (ahead c.loop-a.invariant c.loop-a-test.true c.if-trail-from-eq-SKIPPED.false).start_room

pub overflow_cast-lengths : goal.overflow_cast-lengths
overflow_cast-lengths c =
    let w = rw c.key_at.ensures at c.write_label-label.ensures in
    omega (arith, (ahead c.loop-a.invariant c.loop-a-test.true c.if-trail-from-eq-SKIPPED.false).small, w.bases)

pub bounds-lengths-labels : goal.bounds-lengths-labels
bounds-lengths-labels c = (ahead c.loop-a.invariant c.loop-a-test.true c.if-trail-from-eq-SKIPPED.false).length_room

pub loop-a-preserved-then-trail-from-eq-SKIPPED : goal.loop-a-preserved-then-trail-from-eq-SKIPPED
loop-a-preserved-then-trail-from-eq-SKIPPED c = listed_skip c.loop-a.invariant c.loop-a-test.true
    c.if-trail-from-eq-SKIPPED.true

pub loop-a-preserved : goal.loop-a-preserved
loop-a-preserved c =
    listed_more c.loop-a.invariant c.loop-a-test.true c.if-trail-from-eq-SKIPPED.false c.write_label-label.auto.buffer
    (rw c.key_at.ensures at c.write_label-label.ensures)
