-- Each turn writes the record of one more entry. Assumes nothing.
use Rattle.std.proofs.Common.{length}
use Rattle.fasta.proofs.Writing.{Listed}
use Rattle.fasta.proofs.write_records.Given as goal

abbrev pub invariant-loop-start : goal.invariant-loop-start
invariant-loop-start l = Listed l.labels l.starts l.lengths l.count l.initial.out l.out l.at (length l.yielded)
