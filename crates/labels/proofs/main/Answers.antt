-- K is at most 255. Assumes nothing.
use native.Mathlib.Omega.{arith}
use Rattle.labels.proofs.Spelling.{spelled_most}
use Rattle.labels.proofs.main.Goals as goal

pub overflow_cast-k : goal.overflow_cast-k
overflow_cast-k c =
    let a = c.in-Some.ensures in
    omega (arith, spelled_most 255 a.digits _ a.says)
