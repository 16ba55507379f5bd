-- The two bits of a letter are the code of a base. Assumes nothing.
use Rattle.std.proofs.Common.{arith}
use Rattle.dna.proofs.Letters.{valid_small}
use Rattle.adding.proofs.windows.base_of.Goals as goal

pub returns : goal.returns
returns c = let h = valid_small c.args.letter in omega (arith, h, c.from_bits.ensures, c.valid_ascii_base_bits.ensures)
