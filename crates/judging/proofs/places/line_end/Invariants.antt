-- Byte by byte. Assumes nothing.
use mathlib.Core.Path.{◌≡◌}
use mathlib.Core.Bool.{false}
use Prim.Native.Nat.{◌-◌}
use Rattle.dna.specs.Text.{among, part}
use Rattle.judging.proofs.places.line_end.Given as goal

abbrev pub invariant-loop-i : goal.invariant-loop-i
invariant-loop-i l = among 10 (part l.text l.at (l.i - l.at)) ≡ false
