-- Each turn moves the words behind a place up and puts in those of the new key. Assumes nothing.
use Rattle.std.proofs.Common.{◌+◌, ◌*◌, drop}
use Rattle.table.proofs.Opening.{Opened}
use Rattle.table.proofs.Entering.{Upto}
use Rattle.table.proofs.KeysIn.{words_from}
use Rattle.table.proofs.joining.join_keys.Given as goal

abbrev pub invariant-loop-j : goal.invariant-loop-j
invariant-loop-j l =
    Upto l.n l.m l.places l.end l.j
    × Opened (words_from l.n l.m l.places l.new_keys l.initial.keys l.j) (drop (2 * l.n + 2 * l.m) l.initial.keys)
    l.keys (2 * l.end) (2 * l.j)
