-- The places passed have been tested, and the whole is as the rest is. Assumes nothing.
use Rattle.std.proofs.Common.{◌≡◌, take, drop}
use Rattle.table.specs.Join.{rising}
use Rattle.table.proofs.joining.rises.Given as goal

abbrev pub invariant-loop-place : goal.invariant-loop-place
invariant-loop-place l = let ps = take l.m l.places in rising l.n 0 ps ≡ rising l.n l.least (drop l.place-index ps)
