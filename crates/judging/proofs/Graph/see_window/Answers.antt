-- The window is packed from its own part of the label. Assumes nothing.
use mathlib.Core.Path.{ap}
use Rattle.std.proofs.Common.{is_ok}
use Rattle.judging.proofs.Looked.{window_read, window_value, window_small}
use Rattle.judging.proofs.Graph.see_window.Goals as goal

pub unwrap-x-requires : goal.unwrap-x-requires
unwrap-x-requires c =
    let a = c.args in
    let g = a.self.now in
    ap is_ok (window_read g.k c.requires.0.ok a.label.now c.requires.1 a.o c.requires.2 c.from_ascii.ensures)

pub see-requires : goal.see-requires
see-requires c =
    let a = c.args in
    let g = a.self.now in
    let r = c.requires in
    (r.0, window_small g.k r.0.ok a.label.now r.1 a.o r.2 c.from_ascii.ensures c.unwrap-x.ensures)

pub returns : goal.returns
returns c =
    let a = c.args in
    let g = a.self.now in
    let r = c.requires in
    rw (window_value g.k r.0.ok a.label.now r.1 a.o r.2 c.from_ascii.ensures c.unwrap-x.ensures) at c.see.ensures
