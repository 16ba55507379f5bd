-- The header, the label behind it and the last newline are one text. Assumes nothing.
use Rattle.std.proofs.Common.{refl}
use Rattle.fasta.proofs.OneRecord.{lettered, framed}
use Rattle.fasta.proofs.write_record.Goals as goal

pub loop-i-init : goal.loop-i-init
loop-i-init c = λ slice room e. e

pub loop-i-preserved : goal.loop-i-preserved
loop-i-preserved c = λ slice room e.
    lettered c.args.label.now slice room c.loop-i.i (c.loop-i.invariant slice room e) c.loop-i-test.true

pub returns : goal.returns
returns c =
    let a = c.args in
    let l = c.loop-i in (
      refl,
      framed a.label.now a.out.now c.requires l.i
          (l.invariant a.out.now c.requires (rw c.copy_from_slice.ensures.after refl)) c.loop-i-test.false,
    )
