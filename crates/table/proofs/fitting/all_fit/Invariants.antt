-- The keys before i have passed their tests, the last of them is kept, and the whole is as the rest is. Assumes nothing.
use Rattle.std.proofs.Common.{suc}
use Rattle.kmer.specs.Says.{value_of}
use Rattle.table.proofs.Ascending.{Passed}
use Rattle.table.proofs.fitting.all_fit.Given as goal

abbrev pub invariant-loop-i : goal.invariant-loop-i
invariant-loop-i l = Passed l.k l.n l.keys (suc (value_of l.before)) l.i
