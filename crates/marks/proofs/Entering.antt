-- Whether a walk enters a vertex, as its mark says. Assumes nothing.
use mathlib.Core.Path.{◌≡◌}
use mathlib.Core.Bool.{not, ◌&&◌, cond}
use mathlib.Core.List.{List}
use Prim.Native.Nat.{ℕ, ◌/◌, ◌≤◌, ◌<◌}
use lib.Dec.{eqb}
use lib.ListN.{length, get_or}
use Rattle.state.specs.declared.Side.{Side}
use Rattle.state.specs.Counted.{opposite, same_side}
use Rattle.graph.specs.declared.Step.TheVariants.{Next, Stop}
use Rattle.graph.specs.declared.StopReason.TheVariants.{BranchingAhead, VisitedAhead}
use Rattle.graph.specs.Walks.{enter}
use Rattle.marks.specs.Marks.{end_in, ends, visits}
use Rattle.marks.proofs.Marking.{edge_is, visited_is, edge_past, visited_past}

-- Vertex w, come to by base b, would be entered by side t: what the walk then does, whatever K and the keys.
module _ (K : ℕ) (ks ms : List ℕ) (a : ℕ) (start : Side) (w : ℕ) (t : Side) (b : ℕ) where
  pub enter_past : length ms ≤ w → enter K ks (ends ms) a start (visits ms) w t b ≡ Next w (opposite t) b
  unfolding enter
  enter_past h = rw (edge_past ms w h t, visited_past ms w h)

  -- Its mark is m.
  pub enter_at : (m : ℕ) → w < length ms → m ≡ get_or ms w 0
      → enter K ks (ends ms) a start (visits ms) w t b
      ≡ cond (eqb (end_in m t) 4) (Stop BranchingAhead)
      (cond (eqb (m / 64) 1) (Stop (VisitedAhead (eqb w a && not (same_side t start)))) (Next w (opposite t) b))
  unfolding enter
  enter_at m h e = rw (edge_is ms w h t, visited_is ms w h, e)
