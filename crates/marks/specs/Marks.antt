-- What a mark holds while a contraction runs: a vertex's two ends, and whether it is visited. Assumes nothing.
use Rattle.std.specs.Prelude.{ℕ, ◌+◌, ◌*◌, ◌/◌, ◌%◌, List, map}
use Rattle.state.specs.declared.Side.{Side}
use Rattle.state.specs.declared.Side.TheVariants.{Front, Back}
use Rattle.state.specs.Counted.{Kind, edge_at}
use Rattle.graph.specs.Walks.{Ends}

-- E, a base or N on a side: three bits for Front and three for Back; the bit above them says that the vertex is
-- visited.
abbrev pub end_in : ℕ → Side → ℕ
end_in m Front = m % 8
end_in m Back = m / 8 % 8

-- A vertex's mark before any walk.
abbrev pub mark_of : Kind → ℕ → ℕ → ℕ
mark_of κ cutoff w = edge_at κ cutoff w Front + 8 * edge_at κ cutoff w Back

abbrev pub ends_marked : ℕ → Ends
ends_marked m = record { front = end_in m Front; back = end_in m Back }

-- The ends of the vertices.
unfoldable pub ends : List ℕ → List Ends
ends ms = map ends_marked ms

-- What marks hold above the ends: 1 for a visited vertex and 0 for the rest, where marks are below 128, as contraction
-- makes them.
unfoldable pub visits : List ℕ → List ℕ
visits ms = map (λ m. m / 64) ms

-- A vertex's mark once it is visited.
abbrev pub marked : ℕ → ℕ
marked m = m % 64 + 64
