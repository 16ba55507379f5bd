-- The run over the marks that a table's words of counters give. Assumes nothing.
use mathlib.Core.Path.{◌≡◌}
use mathlib.Core.List.{List, map}
use Prim.Native.Nat.{ℕ}
use lib.ListN.{length, take}
use Rattle.dna.specs.Text.{over}
use Rattle.state.specs.Counted.{Kind}
use Rattle.graph.specs.Table.{keys_of, table_of}
use Rattle.graph.specs.Labels.{run}
use Rattle.graph.specs.Contraction.{ends_in}
use Rattle.marks.specs.Marks.{mark_of}
use Rattle.marks.specs.Ready.{FitTable}
use Rattle.marks.proofs.Made.{long, ends_are}
use Rattle.contraction.specs.Over.{run_in}

pub run_is : (κ : Kind) (K cutoff : ℕ) (keys counts ms₀ : List ℕ) (t : FitTable K keys counts ms₀) {ms : List ℕ}
    (digested : ms ≡ over (map (mark_of κ cutoff) (take (length ms₀) counts)) ms₀)
    → run_in K keys ms (length ms)
    ≡ run K (keys_of (length ms₀) keys) (ends_in κ cutoff (table_of (length ms₀) keys counts)) (length ms₀)
unfolding ends_in
run_is κ K cutoff keys counts ms₀ t digested = rw (
  long κ K cutoff keys counts ms₀ t digested,
  ends_are κ K cutoff keys counts ms₀ t digested,
)
