-- `rolled_up`, with the masks and the pushes as the calls say them. Assumes nothing.
use mathlib.Core.Path.{sym}
use native.Mathlib.Omega.{arith}
use lib.ListN.{get_or}
use mir.Syntax.{w64}
use mir.Val.{Fits}
use Rattle.kmer.proofs.Moves.{rolled_up}
use borrow.Author.Rules.{rules}
use Rattle.kmer.proofs.roll.forward.Goals as goal

pub returns : goal.returns
returns c =
    let a = c.args in
    let f : Fits w64 (get_or c.args.x.words 0 0) = search rules in
    rw (c.push_low.ensures, c.low_mask.ensures, c.push_low-2.ensures, c.high_mask.ensures)
    (sym
    (rolled_up a.k.bases (get_or a.x.words 0 0) (get_or a.x.words 1 0) a.bits (omega arith) f.fits (omega arith)))
