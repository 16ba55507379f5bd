use Prim.Native.Nat.{◌<◌}
use native.Mathlib.Omega.{arith}
use lib.ListN.{length-take}
use Rattle.std.proofs.lemmas.List.{get_or-take}
use Rattle.adding.proofs.Raising.{raising_none, raising_known, raising_new}
use Rattle.adding.proofs.scratch.Noted.raise_known.Goals as goal
use Rattle.adding.proofs.scratch.Noted.raise_known.Goals.{then-note-lt64, else-note-lt64}

pub loop-o-init : goal.loop-o-init
loop-o-init g c = raising_none

pub loop-o-preserved : goal.loop-o-preserved
loop-o-preserved g c =
    let m = c.args.m in
    let notes = c.args.self.now.notes in
    let o = c.loop-o.o in
    let h : o < m = omega (arith, length-take m notes, c.loop-o-test.true) in
    let e = get_or-take m notes o 0 h in
    let y = c.requires.known in
    elim c.if-note-lt64.branch [
      | then-note-lt64 w ↦ rw w.counts-is
          (raising_known y c.loop-o.auto.counts c.loop-o.invariant h (rw e at w.if-note-lt64.true)
          (rw e at w.counted.ensures))
      | else-note-lt64 w ↦ rw w.counts-is
          (raising_new y c.loop-o.auto.counts c.loop-o.invariant h (rw e at w.if-note-lt64.false))
    ]
