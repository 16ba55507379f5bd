-- The larger start moves, and where the comparison ends the smaller one is the answer. Assumes nothing.
use mathlib.Core.Logic.{◌⊎◌, inl, inr}
use Prim.Native.Nat.{◌≤◌, max}
use native.Mathlib.Omega.{arith}
use borrow.Author.Rules.{rules}
use borrow.Author.Tests.{ltb-true}
use lib.ListN.{length}
use Rattle.dna.proofs.Rotations.{short}
use Rattle.dna.proofs.Chase.{chase_turn, chase_skip, chase_min}
use Rattle.dna.proofs.labels.least_rotation_start.Goals as goal
use Rattle.dna.proofs.labels.least_rotation_start.Goals.{then-loop-i-test+then-j-n+else-k-n, then-loop-i-test+else-j-n, else-loop-i-test}

pub returns-then-n-le1 : goal.returns-then-n-le1
returns-then-n-le1 c = short c.args.s.now (search rules)

pub loop-i-preserved-then-a-b-2 : goal.loop-i-preserved-then-a-b-2
loop-i-preserved-then-a-b-2 c =
    let h = c.loop-i in (
      search rules,
      search rules,
      rw c.max-i.ensures
          (chase_skip _ h.i h.j h.k h.invariant.2 (omega arith) (omega (arith, ltb-true)) c.if-a-b-2.true),
    )

pub loop-i-preserved : goal.loop-i-preserved
loop-i-preserved c =
    let h = c.loop-i in (
      search rules,
      search rules,
      rw c.max-j.ensures
          (chase_turn (chase_skip _ h.j h.i h.k (chase_turn h.invariant.2) (omega arith) (omega (arith, ltb-true))
          (omega arith))),
    )

pub returns : goal.returns
returns c =
    let h = c.loop-i in
    let s = c.args.s.now in
    let u : (length s ≤ max h.i h.j) ⊎ (length s ≤ h.k) =
    elim c.loop-i-test.branch [
      | then-loop-i-test+then-j-n+else-k-n w ↦ inr (omega (arith, w.if-k-n.false))
      | then-loop-i-test+else-j-n w ↦ inl (omega (arith, w.if-j-n.false))
      | else-loop-i-test w ↦ inl (omega (arith, w.loop-i-test.false))
    ] in
    rw c.min.ensures (chase_min s h.i h.j h.k h.invariant.2 (omega arith) u)
