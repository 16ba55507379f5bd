-- The word holds the letters so far. Assumes nothing.
use mathlib.Core.Path.{◌≡◌}
use lib.ListN.{take}
use Rattle.kmer.specs.Packing.{valid_packed}
use Rattle.kmer.proofs.pack.word_of.Given as goal

abbrev pub invariant-loop-byte : goal.invariant-loop-byte
invariant-loop-byte l = l.word ≡ valid_packed (take l.byte-index l.seq)
