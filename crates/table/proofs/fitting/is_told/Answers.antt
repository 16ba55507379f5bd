-- From K = 36 on the high words decide, else the k-mers without their last three bases. Assumes nothing.
use Rattle.std.proofs.Common.{get_or, arith, rules, Fits, w64}
use Rattle.table.proofs.Bounded.{told_middle, told_high}
use Rattle.table.proofs.fitting.is_told.Goals as goal

pub returns-then-k-gt35 : goal.returns-then-k-gt35
returns-then-k-gt35 c t =
    let f = c.last_four in
    let a = c.args in
    let w = a.x.words in
    let low : Fits w64 (get_or a.x.words 0 0) = search rules in
    told_high a.k a.bounds.now c.requires.1 (get_or w 0 0) (get_or w 1 0) f.result f.ensures c.if-k-gt35.true low.fits t

pub returns-then-h-lt64 : goal.returns-then-h-lt64
returns-then-h-lt64 c t =
    let f = c.last_four in
    let a = c.args in
    let w = a.x.words in
    told_middle a.k a.bounds.now c.requires.1 (get_or w 0 0) (get_or w 1 0) f.result f.ensures
    c.requires.0 (omega arith) (omega arith) _ c.but_three.ensures t
