-- `raised` meets its contract: the masks put one more into the counter, or leave it at its top (`more_laid`,
-- `full_laid`). Assumes nothing.
use Rattle.state.proofs.Laid.{more_laid, full_laid}
use Rattle.state.proofs.Layout.raised.Goals as goal

pub returns-then-cur-self : goal.returns-then-cur-self
returns-then-cur-self c =
    let p = c.place-off in
    more_laid c.args.self c.args.slot c.requires c.args.word c.ranges.word.fits
    p.result p.ensures.0 c.if-cur-self.true

pub returns : goal.returns
returns c =
    let p = c.place-off in
    full_laid c.args.self c.args.slot c.requires c.args.word c.ranges.word.fits
    p.result p.ensures.0 c.if-cur-self.false
