-- Inside the label the base behind the window is read. Assumes nothing.
use mathlib.Core.Path.{ap, ◌∙◌}
use Prim.Native.Nat.{◌+◌}
use Rattle.dna.specs.Letters.{valid_bits}
use Rattle.adding.proofs.Neighbours.{next_counts, last_none, bits_code}
use Rattle.adding.proofs.windows.after_of.Goals as goal

pub returns-in-Some : goal.returns-in-Some
returns-in-Some c =
    let e = c.args.o + c.args.k in
    let here = c.in-Some.ensures.lookup.3 in
    c.base_of.ensures
    ∙ ap valid_bits (here.1 0)
    ∙ bits_code c.args.label.now e here.0 c.requires.0.bases
    ∙ next_counts c.args.k c.args.label.now c.args.o here.0

pub returns-in-None : goal.returns-in-None
returns-in-None c = last_none c.args.k c.args.label.now c.args.o c.in-None.ensures.lookup.3
