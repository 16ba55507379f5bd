-- The smaller strand is looked up. Assumes nothing.
use mathlib.Core.Path.{sym, ◌∙◌}
use Rattle.kmer.specs.Says.{value_of}
use Rattle.contraction.proofs.Entering.{arrive_turned, arrive_straight}
use Rattle.contraction.proofs.Graph.arrive.Goals as goal

pub returns-then-is_less : goal.returns-then-is_less
returns-then-is_less c =
    let a = c.args in
    arrive_turned a.self.now.k a.self.now.keys.now a.marks.now a.start.anchor a.start.side
    (value_of a.next.here) a.base c.requires.1.other
    (sym c.is_less.ensures ∙ c.if-is_less.true) c.look.ensures

pub returns-else-is_less : goal.returns-else-is_less
returns-else-is_less c =
    let a = c.args in
    arrive_straight a.self.now.k a.self.now.keys.now a.marks.now a.start.anchor a.start.side
    (value_of a.next.here) a.base c.requires.1.other
    (sym c.is_less.ensures ∙ c.if-is_less.false) c.look-else-is_less.ensures
