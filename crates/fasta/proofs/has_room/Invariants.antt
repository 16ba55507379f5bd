-- What is left of the room and the records passed are the room. Assumes nothing.
use Rattle.std.proofs.Common.{◌≡◌, ◌+◌}
use Rattle.fasta.specs.Sizes.{size_of}
use Rattle.fasta.proofs.has_room.Given as goal

abbrev pub invariant-loop-length : goal.invariant-loop-length
invariant-loop-length l = l.left + size_of l.length-index l.lengths ≡ l.room
