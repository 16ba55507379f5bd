-- A byte never crosses the border of the words. Assumes nothing.
use Prim.Native.Nat.{◌*◌}
use native.Mathlib.Omega.{arith}
use lib.ListN.{get_or}
use mir.Syntax.{w64}
use mir.Val.{Fits}
use Rattle.kmer.proofs.Places.{field_of}
use borrow.Author.Rules.{rules}
use Rattle.kmer.proofs.letters.byte_of.Goals as goal

pub returns : goal.returns
returns c =
    let a = c.args in
    let f : Fits w64 (get_or c.args.x.words 0 0) = search rules in
    rw c.bits_from.ensures
    (field_of 8 (8 * a.j) (get_or a.x.words 0 0) (get_or a.x.words 1 0) f.fits (λ l. omega arith))
