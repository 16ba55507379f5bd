use mathlib.Core.Path.{sym, ◌∙◌}
use borrow.Author.Rules.{rules}
use Rattle.kmer.specs.Says.{value_of}
use Rattle.table.proofs.Halving.{middle, left_all, left_above, left_below}
use Rattle.table.proofs.Searching.{smaller_is, place_is}
use Rattle.table.proofs.search.place_of.Goals as goal

pub loop-first-init : goal.loop-first-init
loop-first-init c = (search rules, λ n w. left_all _ _ _ _ w)

pub loop-first-preserved-then-is_less : goal.loop-first-preserved-then-is_less
loop-first-preserved-then-is_less c =
    let l = c.loop-first in
    let a = c.args in
    let y = c.key_at in (
      search rules,
      λ n w. left_above _ (l.invariant.1 n w) (search rules)
          (smaller_is n a.keys.now (value_of a.x) a.lo a.hi w (middle l.first l.end) (value_of y.result) _
          (search rules) y.ensures
          (sym c.if-is_less.true ∙ c.is_less.ensures)),
    )

pub loop-first-preserved : goal.loop-first-preserved
loop-first-preserved c =
    let l = c.loop-first in
    let a = c.args in
    let y = c.key_at in (
      search rules,
      λ n w. left_below _ (l.invariant.1 n w) (search rules)
          (smaller_is n a.keys.now (value_of a.x) a.lo a.hi w (middle l.first l.end) (value_of y.result) _
          (search rules) y.ensures
          (sym c.if-is_less.false ∙ c.is_less.ensures)),
    )

pub returns : goal.returns
returns c =
    let a = c.args in
    λ n w. place_is n a.keys.now (value_of a.x) a.lo a.hi (c.loop-first.invariant.1 n w) (search rules)
