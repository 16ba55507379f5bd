-- Each refusal and the end of the two loops is an outcome of putting in. Assumes nothing.
use Rattle.std.proofs.Common.{sym, ◌∙◌, arith}
use Rattle.table.proofs.Joined.{join_few, join_few_places, join_unplaced, join_full, join_all}
use Rattle.table.proofs.joining.join.Goals as goal
use Rattle.table.proofs.joining.join.Goals.{then-capacity-m-via-then-capacity-m, then-capacity-m-via-else-capacity-m+then-places-m, then-capacity-m-via-else-capacity-m+else-places-m+then-not-rises}

pub returns-then-capacity-m : goal.returns-then-capacity-m
returns-then-capacity-m c =
    let a = c.args in
    elim c.then-capacity-m.branch [
      | then-capacity-m-via-then-capacity-m w ↦
          join_few a.n a.keys.now a.counts.now a.m a.places.now a.new_keys.now a.new_counts.now (omega arith)
      | then-capacity-m-via-else-capacity-m+then-places-m w ↦
          join_few_places a.n a.keys.now a.counts.now a.m a.places.now a.new_keys.now a.new_counts.now (omega arith)
          (omega arith)
      | then-capacity-m-via-else-capacity-m+else-places-m+then-not-rises w ↦
          join_unplaced a.n a.keys.now a.counts.now a.m a.places.now a.new_keys.now a.new_counts.now (omega arith)
          (omega arith)
          (sym w.rises.ensures ∙ w.if-not-rises.true)
    ]

pub returns-then-room-m : goal.returns-then-room-m
returns-then-room-m c =
    let a = c.args in
    join_full a.n a.keys.now a.counts.now a.m a.places.now a.new_keys.now a.new_counts.now (omega arith) (omega arith)
    (sym c.rises.ensures ∙ c.if-not-rises.false) (omega arith)

pub join_keys-requires : goal.join_keys-requires
join_keys-requires c = (omega arith, omega arith, omega arith, sym c.rises.ensures ∙ c.if-not-rises.false)

pub join_counts-requires : goal.join_counts-requires
join_counts-requires c = (omega arith, omega arith, omega arith, sym c.rises.ensures ∙ c.if-not-rises.false)

pub returns : goal.returns
returns c =
    let a = c.args in
    join_all a.n a.keys.now a.counts.now a.m a.places.now a.new_keys.now a.new_counts.now (omega arith) (omega arith)
    (sym c.rises.ensures ∙ c.if-not-rises.false) (omega arith) c.join_keys.ensures c.join_counts.ensures
