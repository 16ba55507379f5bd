-- The two rolls. Assumes nothing.
use Rattle.contraction.proofs.Rolling.{backward_ok, both_rolled}
use Rattle.contraction.proofs.Strands.rolled.Goals as goal

pub unwrap-requires-2 : goal.unwrap-requires-2
unwrap-requires-2 c =
    let p = c.requires in
    let e = backward_ok p.0 p.1 p.2 c.complement.ensures c.roll_backward.ensures in rw e

pub returns : goal.returns
returns c =
    let p = c.requires in
    both_rolled p.0 p.1 p.2 c.complement.ensures c.roll_forward.ensures c.roll_backward.ensures c.unwrap.ensures
    c.unwrap-2.ensures
