-- The header and the letters before i stand in the first cells. Assumes nothing.
use Rattle.std.proofs.Common.{◌≡◌, ◌+◌, ◌≤◌, List, ℕ, [], ◌∷◌, length}
use Rattle.dna.specs.Text.{over}
use Rattle.fasta.proofs.OneRecord.{begun}
use Rattle.fasta.proofs.write_record.Given as goal

abbrev pub invariant-loop-i : goal.invariant-loop-i
invariant-loop-i l =
    (slice : List ℕ) → length l.label + 4 ≤ length slice → l.initial.out ≡ over (62 ∷ 48 ∷ 10 ∷ []) slice
    → l.out ≡ over (begun l.label l.i) slice
