-- The loop has passed bases only. Assumes nothing.
use mathlib.Core.Path.{◌≡◌}
use lib.ListN.{drop}
use Rattle.dna.specs.Letters.{first_bad}
use Rattle.kmer.proofs.pack.bases_verdict.Given as goal

abbrev pub invariant-loop-place : goal.invariant-loop-place
invariant-loop-place l = first_bad 0 l.seq ≡ first_bad l.place (drop l.place l.seq)
