-- What is left to tally gives the whole. Assumes nothing.
use Rattle.std.proofs.Common.{◌≡◌, drop}
use Rattle.graph.specs.Table.{keys_of}
use Rattle.directory.specs.Directory.{slot_of, tallied}
use Rattle.directory.proofs.making.tally.Given as goal

abbrev pub invariant-loop-i : goal.invariant-loop-i
invariant-loop-i l =
    tallied (slot_of l.b l.k) 0 (keys_of l.n l.keys) l.initial.directory
    ≡ tallied (slot_of l.b l.k) l.i (drop l.i (keys_of l.n l.keys)) l.directory
