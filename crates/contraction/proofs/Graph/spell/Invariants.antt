-- Each step takes one base of the walk, whose letter is written behind those before it, and the last leaves none.
-- Assumes nothing.
use Prim.Native.Nat.{◌-◌}
use lib.ListN.{length}
use Rattle.graph.specs.Walks.{seen}
use Rattle.contraction.specs.Over.{walk_in}
use Rattle.contraction.specs.Says.{Both}
use Rattle.marks.specs.Ready.{keys_for}
use Rattle.contraction.proofs.Walking.{Walking}
use Rattle.contraction.proofs.Spelling.{Spelling}
use Rattle.contraction.proofs.Graph.spell.Given as goal

abbrev pub invariant-loop-vertex : goal.invariant-loop-vertex
invariant-loop-vertex l =
    Walking l.self.k l.self.keys.now l.initial.marks l.start.anchor l.start.side l.bases l.stand.vertex l.stand.side
    l.marks
    × Spelling (walk_in l.self.k l.self.keys.now l.initial.marks l.start.anchor l.start.side).bases
    l.initial.buffer l.at l.bases l.buffer
    × Both l.self.k (seen l.self.k (keys_for l.initial.marks l.self.keys.now) l.stand.vertex l.stand.side)
    l.stand.strands

abbrev pub decreases-loop-vertex : goal.decreases-loop-vertex
decreases-loop-vertex l = length (walk_in l.self.k l.self.keys.now l.initial.marks l.start.anchor l.start.side).bases -
    l.bases
