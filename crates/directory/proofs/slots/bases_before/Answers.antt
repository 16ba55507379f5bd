-- In the low word, in both, or in the high word. Assumes nothing.
use Rattle.std.proofs.Common.{get_or, ◌∙◌, arith, rules, Fits, w64}
use Rattle.directory.proofs.Leading.{before_none, before_some, before_word}
use Rattle.directory.proofs.slots.bases_before.Goals as goal

pub returns-in-0 : goal.returns-in-0
returns-in-0 c =
    let w = c.args.x.words in
    let f : Fits w64 (get_or c.args.x.words 0 0) = search rules in
    rw c.in-0.is (c.last_bases.ensures ∙ before_none c.args.b (get_or w 0 0) (get_or w 1 0) c.requires.1 f.fits)

pub returns-in-1-to-63 : goal.returns-in-1-to-63
returns-in-1-to-63 c =
    let w = c.args.x.words in
    let f : Fits w64 (get_or c.args.x.words 0 0) = search rules in
    c.last_bases-in-1-to-63.ensures
    ∙ before_some c.args.b (get_or w 0 0) (get_or w 1 0) c.requires.1 f.fits c.args.shift (omega arith)

pub returns-in_default : goal.returns-in_default
returns-in_default c =
    let w = c.args.x.words in
    let f : Fits w64 (get_or c.args.x.words 0 0) = search rules in
    c.last_bases-in_default.ensures
    ∙ before_word c.args.b (get_or w 0 0) (get_or w 1 0) c.requires.1 f.fits c.args.shift (omega arith)
