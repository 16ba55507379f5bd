-- A word that uses a bit too many is enough; where the low word does not, the high word decides. Assumes nothing.
use mathlib.Core.Path.{sym, ◌∙◌}
use lib.ListN.{get_or}
use mir.Syntax.{w64}
use mir.Val.{Fits}
use borrow.Author.Tests.{le-ltb, lt-leb}
use Rattle.kmer.proofs.Wide.{above_low, below_high}
use borrow.Author.Rules.{rules}
use Rattle.kmer.proofs.verdict.is_below.Goals as goal

pub returns-then-x-low_mask : goal.returns-then-x-low_mask
returns-then-x-low_mask c =
    let a = c.args in
    let f : Fits w64 (get_or c.args.x.words 0 0) = search rules in
    rw c.high_mask.ensures
    (below_high a.k.bases (get_or a.x.words 0 0) (get_or a.x.words 1 0) f.fits
    (rw c.low_mask.ensures at c.if-x-low_mask.true))

pub returns-else-x-low_mask : goal.returns-else-x-low_mask
returns-else-x-low_mask c =
    let a = c.args in
    let f : Fits w64 (get_or c.args.x.words 0 0) = search rules in
    lt-leb _ _ c.if-x-low_mask.false
    ∙ sym
    (le-ltb _ _
    (above_low a.k.bases (get_or a.x.words 0 0) (get_or a.x.words 1 0) f.fits
    (rw c.low_mask.ensures at c.if-x-low_mask.false)))
