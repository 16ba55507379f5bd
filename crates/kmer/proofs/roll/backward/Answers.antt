-- `rolled_down_low` and `rolled_down_high`: the new base enters the low or the high word. Assumes nothing.
use mathlib.Core.Path.{sym}
use native.Mathlib.Omega.{arith}
use lib.ListN.{get_or}
use mir.Syntax.{w64}
use mir.Val.{Fits}
use Rattle.kmer.proofs.Moves.{rolled_down_low, rolled_down_high}
use borrow.Author.Rules.{rules}
use Rattle.kmer.proofs.roll.backward.Goals as goal

pub returns-then-shift-lt64 : goal.returns-then-shift-lt64
returns-then-shift-lt64 c =
    let lo = get_or c.args.x.words 0 0 in
    let hi = get_or c.args.x.words 1 0 in
    let f : Fits w64 (get_or c.args.x.words 0 0) = search rules in
    rw c.push_high-low.ensures
    (sym
    (rolled_down_low c.args.k.bases lo hi c.args.bits f.fits (omega arith) c.if-shift-lt64.true (omega arith) c.requires.1))

pub returns-else-shift-lt64 : goal.returns-else-shift-lt64
returns-else-shift-lt64 c =
    let lo = get_or c.args.x.words 0 0 in
    let hi = get_or c.args.x.words 1 0 in
    let f : Fits w64 (get_or c.args.x.words 0 0) = search rules in
    rw c.push_high-low.ensures
    (sym
    (rolled_down_high c.args.k.bases lo hi c.args.bits f.fits (omega arith) c.if-shift-lt64.false (omega arith) c.requires.1))
