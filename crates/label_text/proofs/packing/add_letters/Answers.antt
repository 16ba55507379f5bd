-- The letters of the line are put behind those of the label. Assumes nothing.
use Prim.Native.Nat.{◌+◌, ◌-◌}
use native.Mathlib.Omega.{arith}
use mathlib.Core.Path.{◌≡◌}
use lib.ListN.{length}
use Rattle.label_text.proofs.Growing.{grows_more}
use Rattle.label_text.proofs.packing.add_letters.Goals as goal

pub returns : goal.returns
returns c =
    let a = c.args in
    let lent : a.open.at + 4 + a.open.size + length a.line.now - (a.open.at + 4 + a.open.size)
    ≡ length a.line.now = omega arith in
    rw (c.copy_from_slice.ensures.after, lent) (grows_more c.requires a.line.now _ (omega arith) (omega arith))
