-- The invariant: the vertices of the rows so far; the offsets are as they were, and so are the k-mers from there on.
-- Assumes nothing.
use mathlib.Core.Path.{◌≡◌}
use Rattle.adding.proofs.Grouping.{Grouping}
use Rattle.state.specs.Says.{kind_of}
use Rattle.adding.proofs.scratch.Fresh.group.Given as goal

abbrev pub invariant-loop-t : goal.invariant-loop-t
invariant-loop-t g l =
    (l.self.offsets ≡ l.initial.self.offsets)
    × Grouping (kind_of l.kind) l.q l.noted.notes l.noted.places l.self.offsets l.initial.self.keys l.t l.u
    l.self.keys l.self.places l.self.counts
