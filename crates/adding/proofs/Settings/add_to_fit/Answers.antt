-- Each way to end is a case of the definition, in its order. Assumes nothing.
use Rattle.adding.specs.Says.{rule_of}
use Rattle.adding.proofs.Outcomes.{too_long, too_short, no_base, addable, of_bases}
use Rattle.state.specs.Says.{kind_of}
use Rattle.adding.proofs.Settings.add_to_fit.Goals as goal

pub returns-then-label-gt4096 : goal.returns-then-label-gt4096
returns-then-label-gt4096 c =
    let a = c.args in
    too_long (kind_of a.self.kind) (rule_of a.self.mode) a.self.k a.n a.keys.now a.counts.now a.label.now c.requires
    c.if-label-gt4096.true

pub returns-then-label-self : goal.returns-then-label-self
returns-then-label-self c =
    let a = c.args in
    too_short (kind_of a.self.kind) (rule_of a.self.mode) a.self.k a.n a.keys.now a.counts.now a.label.now c.requires
    c.if-label-gt4096.false c.if-label-self.true

pub add_bases-requires : goal.add_bases-requires
add_bases-requires c =
    let a = c.args in
    addable (kind_of a.self.kind) (rule_of a.self.mode) a.self.k a.n a.keys.now a.counts.now a.label.now c.requires
    c.if-label-gt4096.false c.if-label-self.false c.first_bad.ensures c.in_default.is

pub returns-in-Some : goal.returns-in-Some
returns-in-Some c =
    let a = c.args in
    no_base (kind_of a.self.kind) (rule_of a.self.mode) a.self.k a.n a.keys.now a.counts.now a.label.now c.requires
    c.if-label-gt4096.false c.if-label-self.false c.first_bad.ensures c.in-Some.is

pub returns : goal.returns
returns c =
    let a = c.args in
    of_bases (kind_of a.self.kind) (rule_of a.self.mode) a.self.k a.n a.keys.now a.counts.now a.label.now c.requires
    c.if-label-gt4096.false c.if-label-self.false c.first_bad.ensures c.in_default.is c.add_bases.ensures
