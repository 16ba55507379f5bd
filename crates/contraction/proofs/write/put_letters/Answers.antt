-- The part has as many cells as there are letters, so that all of them are written. Assumes nothing.
use Rattle.kmer.specs.Says.{value_of}
use Rattle.contraction.proofs.Pasting.{put_letters}
use Rattle.contraction.proofs.write.put_letters.Goals as goal

pub returns : goal.returns
returns c =
    let w = c.append_ascii-written in
    put_letters c.args.k (value_of c.args.x) c.requires.0 c.requires.1 c.args.buffer.now c.args.at c.requires.2
    w.result _ w.ensures
