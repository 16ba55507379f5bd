-- The loop's invariant: what is left is a multiple of eight letters, and those before are held. Assumes nothing.
use mathlib.Core.Path.{◌≡◌}
use Prim.Native.Nat.{◌-◌, ◌%◌, ◌≤◌}
use Rattle.kmer.proofs.Groups.{Held}
use Rattle.kmer.proofs.eights.pack.Given as goal

abbrev pub invariant-loop-i : goal.invariant-loop-i
invariant-loop-i l = (l.i ≤ l.k.bases) × (l.i % 8 ≡ l.k.bases % 8) × Held l.seq l.i l.low l.high l.found

abbrev pub decreases-loop-i : goal.decreases-loop-i
decreases-loop-i l = l.k.bases - l.i
