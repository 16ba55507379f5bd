-- What is left of the list says what the whole list says. Assumes nothing.
use Prim.Native.Nat.{◌+◌}
use mathlib.Core.Path.{◌≡◌}
use lib.ListN.{drop}
use Rattle.colours.specs.Runs.{rises_from, sound_runs}
use Rattle.colours.proofs.list.are_sound.Given as goal

abbrev pub invariant-loop-run : goal.invariant-loop-run
invariant-loop-run l = sound_runs l.kmers l.runs ≡ rises_from l.last l.kmers (drop (l.run-index + 1) l.runs)
