-- By whether there is a window before, and whether the rule leaves the base before uncounted. Assumes nothing.
use mathlib.Core.Path.{sym, ◌∙◌}
use mathlib.Core.Bool.{true, false}
use Prim.Native.Nat.{◌-◌, ◌<◌}
use native.Mathlib.Omega.{arith}
use lib.ListN.{length}
use Rattle.adding.specs.Says.{rule_of}
use Rattle.adding.proofs.Skipping.{test_is}
use Rattle.adding.proofs.Neighbours.{first_none, predecessor_is, bits_code}
use Rattle.adding.proofs.windows.before_of.Goals as goal

pub returns-in-None : goal.returns-in-None
returns-in-None c =
    first_none (rule_of c.args.mode) c.args.k c.args.label.now (rw c.in-None.is at c.requires.2.previous)

pub returns-in-Some : goal.returns-in-Some
returns-in-Some c =
    let before = rw c.in-Some.is at c.requires.2.previous in
    predecessor_is (rule_of c.args.mode) c.args.k c.args.label.now before.1.0 true
    (test_is c.args.mode c.requires.0 c.requires.1 before.1.0 before.1.1 c.requires.2.here
    (sym c.skips.ensures ∙ c.if-skips.true))

pub returns-in-Some-2 : goal.returns-in-Some-2
returns-in-Some-2 c =
    let label = c.args.label.now in
    let before = rw c.in-Some.is at c.requires.2.previous in
    let i : c.args.o - 1 < length label = omega (arith, c.requires.1, c.requires.0.low) in
    c.base_of.ensures
    ∙ bits_code label (c.args.o - 1) i c.requires.0.bases
    ∙ predecessor_is (rule_of c.args.mode) c.args.k label before.1.0 false
    (test_is c.args.mode c.requires.0 c.requires.1 before.1.0 before.1.1 c.requires.2.here
    (sym c.skips.ensures ∙ c.if-skips.false))
