-- The word of eight bytes. Assumes nothing.
use Rattle.kmer.proofs.Bytes.{loaded}
use Rattle.kmer.proofs.eights.eight.Goals as goal

pub returns : goal.returns
returns c = loaded c.args.seq.now c.args.at _ c.requires (λ i. (c.type_inv.seq i).fits) c.from_be_bytes.ensures
