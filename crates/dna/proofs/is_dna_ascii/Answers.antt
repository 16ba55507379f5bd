-- The test is that of a mask over the letters. Assumes nothing.
use Prim.Native.Nat.{◌/◌}
use borrow.Author.Rules.{rules}
use borrow.Author.Tests.{eq-eqb, ne_eqb}
use Rattle.dna.proofs.Letters.{base_mask}
use Rattle.dna.proofs.is_dna_ascii.Goals as goal

pub returns-then-byte-ne1 : goal.returns-then-byte-ne1
returns-then-byte-ne1 c =
    let b = c.args.byte in rw (base_mask b (search rules), ne_eqb (b / 64) 1 c.if-byte-ne1.true)

pub returns : goal.returns
returns c =
    let b = c.args.byte in rw (base_mask b (search rules), eq-eqb (b / 64) 1 c.if-byte-ne1.false)
