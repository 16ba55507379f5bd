-- The window is packed from its own part of the label, and compared with its canonical form. Assumes nothing.
use mathlib.Core.Path.{◌≡◌}
use Prim.Native.Nat.{◌+◌, ◌-◌}
use native.Mathlib.Omega.{arith}
use Rattle.adding.proofs.Seeing.{packs, turns, window_seen}
use Rattle.adding.proofs.windows.see.Goals as goal

pub unwrap-x-requires : goal.unwrap-x-requires
unwrap-x-requires c =
    let e : c.args.o + c.args.k - c.args.o ≡ c.args.k = omega arith in
    packs c.requires.0 c.args.o c.requires.1 (rw e at c.from_ascii.ensures)

pub unwrap-c-requires : goal.unwrap-c-requires
unwrap-c-requires c =
    let e : c.args.o + c.args.k - c.args.o ≡ c.args.k = omega arith in
    turns c.requires.0 c.args.o c.requires.1 (rw e at c.from_ascii.ensures) c.unwrap-x.ensures c.canonical.ensures

pub returns : goal.returns
returns c =
    let e : c.args.o + c.args.k - c.args.o ≡ c.args.k = omega arith in
    window_seen c.requires.0 c.args.o c.requires.1 (rw e at c.from_ascii.ensures) c.unwrap-x.ensures
    c.canonical.ensures c.unwrap-c.ensures c.is_less.ensures
