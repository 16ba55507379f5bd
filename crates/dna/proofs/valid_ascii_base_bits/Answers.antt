-- Both sides are the same shifts, and a mask of two bits is the remainder by 4. Assumes nothing.
use Prim.Native.Nat.{◌/◌}
use Rattle.dna.specs.Letters.{valid_bits}
use lib.Bits.{bit_xor, and_mask}
use Rattle.dna.proofs.valid_ascii_base_bits.Goals as goal

pub returns : goal.returns
unfolding valid_bits
returns c = and_mask (bit_xor (c.args.byte / 4) (c.args.byte / 2)) 2
