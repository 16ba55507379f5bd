-- The four bases stand at their place in the word that is compared. Assumes nothing.
use Rattle.std.proofs.Common.{arith}
use Rattle.kmer.proofs.Bounds.{ok_bounds}
use Rattle.table.proofs.Compared.{unit_low, unit_middle, unit_high, bound_at}
use Rattle.table.proofs.fitting.bound.Goals as goal

pub returns-in-5-to-32 : goal.returns-in-5-to-32
returns-in-5-to-32 c =
    let a = c.args in
    bound_at a.k a.byte _ _ 0 c.turned-first.ensures (omega arith) (omega arith) (omega arith)
    (unit_low a.k (omega arith))

pub returns-in-33-to-35 : goal.returns-in-33-to-35
returns-in-33-to-35 c =
    let a = c.args in
    bound_at a.k a.byte _ _ 6 c.turned-first.ensures (omega arith) (omega arith) (omega arith)
    (unit_middle a.k (omega arith) (omega arith))

pub returns-in_default : goal.returns-in_default
returns-in_default c =
    let a = c.args in
    let l = ok_bounds a.k c.requires in
    bound_at a.k a.byte _ _ 64 c.turned-first.ensures (omega arith) (omega arith) (omega arith)
    (unit_high a.k (omega arith))
