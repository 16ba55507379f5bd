-- The Front walk goes on from the marks that the Back walk left, and behind its letters in the trail. Assumes nothing.
use mathlib.Core.Path.{sym, ◌∙◌}
use Rattle.contraction.proofs.Labelling.{extracts_closed, extracts_open, misses_back, misses_front}
use Rattle.contraction.proofs.Tracing.{Asked, end_closed, traced_closed, end_open, traced_open}
use Rattle.contraction.proofs.Graph.extract.Goals as goal

pub returns-then-is_missing : goal.returns-then-is_missing
returns-then-is_missing c =
    misses_back c.requires.0 c.args.a c.spell-back.ensures.walks (sym c.is_missing.ensures ∙ c.if-is_missing.true)

pub returns-then-is_closed : goal.returns-then-is_closed
returns-then-is_closed c =
    let a = c.args in
    let y : Asked a.self.now.k a.self.now.keys.now a.marks.now a.a a.trail.now a.at =
    record { ready = c.requires.0; vertex = c.requires.1; room = c.requires.2 } in
    let e = sym c.is_closed.ensures ∙ c.if-is_closed.true in
    let w = c.spell-back.ensures in
    extracts_closed c.requires.0 a.a w.walks e (end_closed y w e) (traced_closed y w e)

pub returns-then-is_missing-2 : goal.returns-then-is_missing-2
returns-then-is_missing-2 c =
    let o = sym c.is_closed.ensures ∙ c.if-is_closed.false in
    misses_front c.requires.0 c.args.a c.spell-back.ensures.walks c.spell-front.ensures.walks o
    (sym c.is_missing-2.ensures ∙ c.if-is_missing-2.true)

pub returns : goal.returns
returns c =
    let a = c.args in
    let y : Asked a.self.now.k a.self.now.keys.now a.marks.now a.a a.trail.now a.at =
    record { ready = c.requires.0; vertex = c.requires.1; room = c.requires.2 } in
    let o = sym c.is_closed.ensures ∙ c.if-is_closed.false in
    let b = c.spell-back.ensures in
    let f = c.spell-front.ensures in
    extracts_open c.requires.0 a.a b.walks f.walks o (sym c.is_missing.ensures ∙ c.if-is_missing.false)
    (sym c.is_missing-2.ensures ∙ c.if-is_missing-2.false) (end_open y b o f) (traced_open y b o f)
