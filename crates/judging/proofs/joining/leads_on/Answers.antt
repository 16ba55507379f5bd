-- Behind the last window there is no letter. Assumes nothing.
use mathlib.Core.Path.{refl}
use Rattle.judging.proofs.Edges.{followed_on}
use Rattle.judging.proofs.joining.leads_on.Goals as goal

pub returns-else-label-o : goal.returns-else-label-o
returns-else-label-o c =
    let a = c.args in
    followed_on a.label.now c.requires.0 a.o a.base a.k c.if-label-o.false
    c.valid_ascii_base_bits.ensures refl
