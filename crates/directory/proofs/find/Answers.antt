-- By the directory, and among all where there is none or the keys do not confirm it. Assumes nothing.
use Rattle.std.proofs.Common.{sym, ◌∙◌}
use Rattle.kmer.specs.Says.{value_of}
use Rattle.graph.specs.Table.{keys_of}
use Rattle.directory.proofs.Standing.{gap_most}
use Rattle.directory.proofs.Looking.{look_at}
use Rattle.directory.proofs.find.Goals as goal

pub is_between-requires : goal.is_between-requires
is_between-requires c =
    let a = c.args in
    gap_most (keys_of a.n a.keys.now) _ _ (value_of a.x) _ (sym c.find_between.ensures ∙ c.in-Err.is)

pub returns-in-Ok : goal.returns-in-Ok
returns-in-Ok c =
    let a = c.args in
    look_at a.k (keys_of a.n a.keys.now) a.directory.now (value_of a.x) _ _ c.bases_of-b.ensures c.if-b-eq0.false
    c.slot_of-t.ensures _ c.find_between.ensures _ c.in-Ok.is
