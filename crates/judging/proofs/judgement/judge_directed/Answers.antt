-- The k-mers are looked up by a directory; what it says does not matter. Assumes nothing.
use Prim.Native.Nat.{ℕ, ◌≤◌}
use native.Mathlib.Omega.{arith}
use lib.ListN.{length-take, length-replicate}
use Rattle.directory.proofs.Cells.{cells_most}
use Rattle.judging.proofs.judgement.judge_directed.Goals as goal

pub slice_bounds-cells-end : goal.slice_bounds-cells-end
slice_bounds-cells-end c = rw c.cells_for.ensures (cells_most _)

pub slice_bounds-directory-end : goal.slice_bounds-directory-end
slice_bounds-directory-end c =
    let few : c.cells_for.result ≤ 16385 = rw c.cells_for.ensures (cells_most _) in
    simp length-take (omega (arith, few, length-replicate {A = ℕ} 16385 0))
