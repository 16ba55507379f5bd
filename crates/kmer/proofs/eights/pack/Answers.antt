use Prim.Native.Nat.{◌+◌, ◌-◌, ◌%◌}
use native.Mathlib.Omega.{arith}
use Rattle.kmer.proofs.Groups.{held_first, held_next, held_all}
use Rattle.kmer.proofs.eights.pack.Goals as goal

pub loop-i-init : goal.loop-i-init
loop-i-init c =
    let read = c.eight-x.ensures in (
      omega arith,
      omega arith,
      held_first c.args.seq.now ((c.args.k.bases - 1) % 8 + 1)
          (record { bytes = read; packed = c.codes.ensures; clean = c.strange-found.ensures })
          (omega arith) (omega arith),
    )

pub loop-i-preserved : goal.loop-i-preserved
loop-i-preserved c =
    let l = c.loop-i in
    let read = c.eight-y.ensures in (
      omega arith,
      omega arith,
      held_next c.args.seq.now l.i l.low l.high l.found l.invariant.2
          (record { bytes = read; packed = c.codes-in-loop-i.ensures; clean = c.strange-found-in-loop-i.ensures })
          (omega arith) (omega arith),
    )

pub returns : goal.returns
returns c =
    let l = c.loop-i in
    held_all c.args.seq.now l.i l.low l.high l.found l.invariant.2 c.args.k.bases (omega arith)
