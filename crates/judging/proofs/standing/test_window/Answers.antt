-- The smaller strand is looked up. Assumes nothing.
use mathlib.Core.Path.{ap}
use Rattle.std.proofs.Common.{is_ok}
use Rattle.judging.proofs.Looked.{turned_is, unwrapped, window_read, window_value, window_small}
use Rattle.judging.proofs.Marking.{turned_tested, here_tested}
use Rattle.judging.proofs.standing.test_window.Goals as goal

pub unwrap-x-requires : goal.unwrap-x-requires
unwrap-x-requires c =
    let a = c.args in
    let g = a.graph.now in
    let r = c.requires in
    ap is_ok (window_read g.k r.0.ok a.label.now r.1 a.o r.2 c.from_ascii.ensures)

pub unwrap-y-requires : goal.unwrap-y-requires
unwrap-y-requires c =
    let a = c.args in
    let g = a.graph.now in
    let r = c.requires in
    let s = window_small g.k r.0.ok a.label.now r.1 a.o r.2 c.from_ascii.ensures c.unwrap-x.ensures in
    ap is_ok (turned_is g.k r.0.ok c.unwrap-x.result s c.reverse_complement.ensures)

pub returns-then-is_less : goal.returns-then-is_less
returns-then-is_less c =
    let a = c.args in
    let g = a.graph.now in
    let r = c.requires in
    let v = window_value g.k r.0.ok a.label.now r.1 a.o r.2 c.from_ascii.ensures c.unwrap-x.ensures in
    let s = window_small g.k r.0.ok a.label.now r.1 a.o r.2 c.from_ascii.ensures c.unwrap-x.ensures in
    let t = turned_is g.k r.0.ok c.unwrap-x.result s c.reverse_complement.ensures in
    turned_tested g.k g.keys.now a.marks.now a.label.now a.o c.unwrap-x.result c.unwrap-y.result v
    (unwrapped t c.unwrap-y.ensures) c.is_less.ensures c.if-is_less.true c.test_kmer.ensures

pub returns-else-is_less : goal.returns-else-is_less
returns-else-is_less c =
    let a = c.args in
    let g = a.graph.now in
    let r = c.requires in
    let v = window_value g.k r.0.ok a.label.now r.1 a.o r.2 c.from_ascii.ensures c.unwrap-x.ensures in
    let s = window_small g.k r.0.ok a.label.now r.1 a.o r.2 c.from_ascii.ensures c.unwrap-x.ensures in
    let t = turned_is g.k r.0.ok c.unwrap-x.result s c.reverse_complement.ensures in
    here_tested g.k g.keys.now a.marks.now a.label.now a.o c.unwrap-x.result c.unwrap-y.result v
    (unwrapped t c.unwrap-y.ensures) c.is_less.ensures c.if-is_less.false c.test_kmer-else-is_less.ensures
