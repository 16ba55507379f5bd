-- Where the smaller strand is stored, its mark. Assumes nothing.
use Rattle.kmer.specs.Says.{value_of}
use Rattle.judging.proofs.Finding.{at_lt}
use Rattle.judging.proofs.Looked.{turned_is, unwrapped, seen_at, seen_gap}
use Rattle.judging.proofs.Graph.see.Goals as goal

pub bounds-marks-v : goal.bounds-marks-v
bounds-marks-v c = at_lt c.requires.0 c.args.self.now.directory.now (value_of c.lesser.result) c.find.ensures c.in-Ok.is

pub returns-in-Ok : goal.returns-in-Ok
returns-in-Ok c =
    let a = c.args in
    let g = a.self.now in
    let e = turned_is g.k c.requires.0.ok a.x c.requires.1 c.reverse_complement.ensures in
    seen_at c.requires.0 a.x c.requires.1 _ (unwrapped e c.unwrap-y.ensures) c.lesser.result c.lesser.ensures
    g.directory.now c.find.ensures c.in-Ok.is

pub returns-in-Err : goal.returns-in-Err
returns-in-Err c =
    let a = c.args in
    let g = a.self.now in
    let e = turned_is g.k c.requires.0.ok a.x c.requires.1 c.reverse_complement.ensures in
    seen_gap c.requires.0 a.x c.requires.1 _ (unwrapped e c.unwrap-y.ensures) c.lesser.result c.lesser.ensures
    g.directory.now c.find.ensures c.in-Err.is
