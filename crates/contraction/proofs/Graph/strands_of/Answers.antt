-- The key from its two words, and turned. Assumes nothing.
use Rattle.contraction.proofs.Rolling.{turned_ok, seen_front, seen_back}
use Rattle.contraction.proofs.Graph.strands_of.Goals as goal

pub unwrap-y-requires : goal.unwrap-y-requires
unwrap-y-requires c = let e = turned_ok c.requires.0 c.args.v c.requires.1 c.key_at-x.result c.key_at-x.ensures
    c.reverse_complement.ensures in rw e

pub returns-in-Front : goal.returns-in-Front
returns-in-Front c =
    seen_front c.requires.0 c.args.v c.requires.1 c.key_at-x.result c.key_at-x.ensures c.reverse_complement.ensures
    c.unwrap-y.ensures c.in-Front.is

pub returns-in-Back : goal.returns-in-Back
returns-in-Back c =
    seen_back c.requires.0 c.args.v c.requires.1 c.key_at-x.result c.key_at-x.ensures c.reverse_complement.ensures
    c.unwrap-y.ensures c.in-Back.is
