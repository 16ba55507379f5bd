-- The invariant: the labels that are left give what all give, and behind the first the table is fit. Assumes nothing.
use Rattle.state.specs.Says.{kind_of}
use Rattle.adding.specs.Says.{rule_of}
use Rattle.adding.proofs.OneByOne.{SomeAdded}
use Rattle.adding.proofs.Settings.add_each.Given as goal

abbrev pub invariant-loop-i : goal.invariant-loop-i
invariant-loop-i l =
    SomeAdded (kind_of l.self.kind) (rule_of l.self.mode) l.self.k l.n l.initial.keys l.initial.counts
    l.text l.starts l.lengths l.count l.i l.last l.keys l.counts
