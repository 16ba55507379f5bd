-- A vertex that is no anchor, as its mark says. Assumes nothing.
use mathlib.Core.Path.{◌≡◌}
use mathlib.Core.Bool.{true, ◌||◌, ◌&&◌}
use mathlib.Core.List.{List}
use Prim.Native.Nat.{ℕ, ◌/◌, ◌≤◌, ◌<◌}
use lib.Dec.{eqb}
use lib.ListN.{length, get_or}
use Rattle.state.specs.declared.Side.TheVariants.{Front, Back}
use Rattle.graph.specs.Walks.{visited, isolated}
use Rattle.marks.specs.Marks.{end_in, ends, visits}
use Rattle.marks.proofs.Marking.{edge_is, visited_is, edge_past, visited_past}

module _ (ms : List ℕ) (a : ℕ) where
  pub skipped_past : length ms ≤ a → (visited (visits ms) a || isolated (ends ms) a) ≡ true
  skipped_past h = rw (visited_past ms a h, edge_past ms a h Front, edge_past ms a h Back)

  -- Its mark is m.
  pub skipped_at : (m : ℕ) → a < length ms → m ≡ get_or ms a 0
      → (visited (visits ms) a || isolated (ends ms) a)
      ≡ (eqb (m / 64) 1 || (eqb (end_in m Front) 5 && eqb (end_in m Back) 5))
  skipped_at m h e = rw (visited_is ms a h, edge_is ms a h Front, edge_is ms a h Back, e)
