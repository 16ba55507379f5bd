-- The k-mer rolled by its edge. Assumes nothing.
use mathlib.Core.Path.{ap}
use Rattle.std.proofs.Common.{is_ok}
use Rattle.judging.proofs.Looked.{after_is}
use Rattle.judging.proofs.Seen.after.Goals as goal

pub unwrap-requires : goal.unwrap-requires
unwrap-requires c =
    let a = c.args in
    ap is_ok (after_is a.k a.self a.side c.requires.0 c.edge_in.ensures c.requires.1
    c.leaving_base-base.ensures c.roll_forward.ensures)
