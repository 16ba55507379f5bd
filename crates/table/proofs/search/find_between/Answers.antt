-- The place that is left holds x, or another key, or is the end. Assumes nothing.
use Rattle.std.proofs.Common.{sym, ◌∙◌}
use Rattle.kmer.specs.Says.{value_of}
use Rattle.table.proofs.Searching.{find_at, find_gap, find_end}
use Rattle.table.proofs.search.find_between.Goals as goal
use Rattle.table.proofs.search.find_between.Goals.{else-i-end-via-then-i-end+else-is_same, else-i-end-via-else-i-end}

pub returns-then-is_same : goal.returns-then-is_same
returns-then-is_same c =
    let a = c.args in
    find_at a.n a.keys.now a.lo a.hi (value_of a.x) _ _ _ (cc) c.min-2.ensures (c.place_of-i.ensures a.n)
    c.if-i-end.true (value_of c.key_at.result) c.key_at.ensures (sym c.is_same.ensures ∙ c.if-is_same.true)

pub returns-else-i-end : goal.returns-else-i-end
returns-else-i-end c =
    let a = c.args in
    elim c.else-i-end.branch [
      | else-i-end-via-then-i-end+else-is_same w ↦
          find_gap a.n a.keys.now a.lo a.hi (value_of a.x) _ _ _ (cc) c.min-2.ensures (c.place_of-i.ensures a.n)
          w.if-i-end.true (value_of w.key_at.result) w.key_at.ensures (sym w.is_same.ensures ∙ w.if-is_same.false)
      | else-i-end-via-else-i-end w ↦
          find_end a.n a.keys.now a.lo a.hi (value_of a.x) _ _ _ (cc) c.min-2.ensures (c.place_of-i.ensures a.n)
          w.if-i-end.false
    ]
