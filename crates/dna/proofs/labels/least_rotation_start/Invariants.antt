-- The invariant is `Chase`: the least start is behind neither of the two starts unless it is the other. Assumes
-- nothing.
use mathlib.Core.Path.{◌≡◌}
use Prim.Native.Nat.{◌+◌, ◌-◌, ◌*◌, ◌<◌}
use lib.ListN.{length}
use Rattle.dna.proofs.Chase.{Chase}
use Rattle.dna.proofs.labels.least_rotation_start.Given as goal

abbrev pub invariant-loop-i : goal.invariant-loop-i
invariant-loop-i l = (1 < l.n) × (l.n ≡ length l.s) × Chase l.s l.i l.j l.k

abbrev pub decreases-loop-i : goal.decreases-loop-i
decreases-loop-i l = 3 * l.n - (l.i + l.j + l.k)
