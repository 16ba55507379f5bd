use Rattle.std.proofs.Common.{◌≡◌, ◌+◌, ◌<◌, sym, arith, le-leb, length-take-le}
use borrow.Author.Tests.{lt-leb}
use Rattle.std.proofs.lemmas.List.{get_or-take}
use Rattle.fasta.specs.Sizes.{size_of}
use Rattle.fasta.proofs.Records.{sizes_next, sizes_le}
use Rattle.fasta.proofs.has_room.Goals as goal
use Rattle.fasta.proofs.has_room.Goals.{After-wide-size}

-- The size of a turn's record is added to those before it.
next : (c : After-wide-size) → (c.loop-length.length-index < c.args.count)
    × (size_of (c.loop-length.length-index + 1) c.args.lengths.now
    ≡ size_of c.loop-length.length-index c.args.lengths.now + (c.wide-size.result + 4))
next c =
    let a = c.args in
    let i = c.loop-length.length-index in
    let h : i < a.count = omega (arith, length-take-le a.count a.lengths.now c.requires) in (
      h,
      omega (
        arith,
        sizes_next i a.lengths.now
            (omega arith),
        get_or-take a.count a.lengths.now i 0 h,
        c.wide-size.ensures.0,
      ),
    )

pub loop-length-init : goal.loop-length-init
unfolding size_of
loop-length-init c = omega arith

pub returns-then-left-size : goal.returns-then-left-size
returns-then-left-size c =
    let a = c.args in
    let i = c.loop-length.length-index in
    let n = next (goal.at.returns-then-left-size c).After-wide-size in
    let h : a.room < size_of a.count a.lengths.now =
    omega (arith, c.loop-length.invariant, n.1, sizes_le (i + 1) a.count a.lengths.now (omega (arith, n.0))) in
    sym (lt-leb _ _ h)

pub loop-length-preserved : goal.loop-length-preserved
loop-length-preserved c =
    let n = next (goal.at.loop-length-preserved c).After-wide-size in
    omega (arith, c.loop-length.invariant, n.1)

pub returns : goal.returns
returns c =
    let a = c.args in
    let e : a.count ≡ c.loop-length.length-index = omega (arith, length-take-le a.count a.lengths.now c.requires) in
    rw e (sym (le-leb _ _ (omega (arith, c.loop-length.invariant))))
