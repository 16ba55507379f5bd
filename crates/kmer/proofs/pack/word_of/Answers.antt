-- One letter more in the word. Assumes nothing.
use mathlib.Core.Path.{refl, ◌∙◌}
use native.Mathlib.Omega.{arith}
use Rattle.dna.proofs.Letters.{valid_small}
use Rattle.kmer.specs.Kmer.{onto}
use Rattle.kmer.proofs.Packing.{word_more}
use Rattle.kmer.proofs.pack.word_of.Goals as goal

pub loop-byte-init : goal.loop-byte-init
unfolding onto
loop-byte-init c = refl

pub push_low-word-requires : goal.push_low-word-requires
push_low-word-requires c = rw (c.from.ensures, c.valid_ascii_base_bits.ensures) (valid_small _)

pub loop-byte-preserved : goal.loop-byte-preserved
loop-byte-preserved c =
    let l = c.loop-byte in
    c.push_low-word.ensures
    ∙ rw (c.from.ensures, c.valid_ascii_base_bits.ensures, l.invariant)
    (word_more c.args.seq.now l.byte-index c.requires (omega arith))
