-- `halves_one` and `halves_two`, with each word's complement as `flip` gives it. Assumes nothing.
use mathlib.Core.Path.{◌≡◌, sym}
use Prim.Native.Nat.{ℕ, ◌+◌, ◌-◌, ◌^◌}
use native.Mathlib.Omega.{arith}
use lib.ListN.{get_or}
use mir.Syntax.{w64}
use mir.Val.{Fits}
use Rattle.kmer.proofs.Halves.{halves_one, halves_two}
use borrow.Author.Rules.{rules}
use Rattle.kmer.proofs.reverse.reversed.Goals as goal

not-flip : (r m : ℕ) → r + m + 1 ≡ 2 ^ 64 → 18446744073709551615 - r ≡ m
not-flip r m h = omega arith

pub returns-then-k-le32 : goal.returns-then-k-le32
returns-then-k-le32 c =
    let a = c.args in
    rw (not-flip _ _ c.flip-high.ensures)
    (sym (halves_one a.k.bases (get_or a.x.words 0 0) (get_or a.x.words 1 0) (omega arith)))

pub returns-else-k-le32 : goal.returns-else-k-le32
returns-else-k-le32 c =
    let a = c.args in
    let f : Fits w64 (get_or c.args.x.words 0 0) = search rules in
    rw (not-flip _ _ c.flip-high.ensures, not-flip _ _ c.flip-low.ensures)
    (sym (halves_two a.k.bases (get_or a.x.words 0 0) (get_or a.x.words 1 0) (omega arith) (omega arith) f.fits))
