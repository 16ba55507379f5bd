-- What is left between the two places is all that is left of the search. Assumes nothing.
use Prim.Native.Nat.{ℕ, ◌-◌, ◌≤◌}
use lib.ListN.{length}
use Rattle.kmer.specs.Says.{value_of}
use Rattle.graph.specs.Table.{keys_of}
use Rattle.table.proofs.Searching.{Leaves}
use Rattle.table.proofs.search.place_of.Given as goal

abbrev pub invariant-loop-first : goal.invariant-loop-first
invariant-loop-first l =
    (l.end ≤ l.hi) × ((n : ℕ) → l.hi ≤ length (keys_of n l.keys)
    → Leaves n l.keys (value_of l.x) l.lo l.hi l.first l.end)

abbrev pub decreases-loop-first : goal.decreases-loop-first
decreases-loop-first l = l.end - l.first
