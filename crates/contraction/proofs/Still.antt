-- Marks with the same ends are walked alike. Assumes nothing.
use mathlib.Core.Path.{◌≡◌}
use mathlib.Core.List.{List}
use Prim.Native.Nat.{ℕ}
use Rattle.state.specs.declared.Side.{Side}
use Rattle.graph.specs.Walks.{walk}
use Rattle.marks.specs.Marks.{ends, visits}
use Rattle.marks.specs.Ready.{keys_for}
use Rattle.marks.proofs.Marking.{ends_length}
use Rattle.contraction.specs.Over.{walk_in}

pub walk_still : (ms after : List ℕ) → ends after ≡ ends ms → (K : ℕ) (keys : List ℕ) (a : ℕ) (start : Side)
    → walk_in K keys after a start ≡ walk K (keys_for ms keys) (ends ms) a start (visits after)
walk_still ms after e K keys a start = rw (ends_length ms after e, e)
