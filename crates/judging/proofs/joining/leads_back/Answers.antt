-- Before the first window there is no letter. Assumes nothing.
use mathlib.Core.Path.{refl}
use Prim.Native.Nat.{◌<◌}
use native.Mathlib.Omega.{arith}
use Rattle.dna.proofs.Letters.{valid_small}
use Rattle.judging.proofs.Edges.{preceded_on}
use Rattle.judging.proofs.joining.leads_back.Goals as goal

pub overflow_sub-result : goal.overflow_sub-result
overflow_sub-result c =
    let small : c.valid_ascii_base_bits.result < 4 = rw c.valid_ascii_base_bits.ensures (valid_small _) in
    omega (arith, small)

pub returns-else-o-eq0 : goal.returns-else-o-eq0
returns-else-o-eq0 c =
    let a = c.args in
    preceded_on a.label.now c.requires.0 a.o a.base c.if-o-eq0.false c.requires.1
    c.valid_ascii_base_bits.ensures refl
