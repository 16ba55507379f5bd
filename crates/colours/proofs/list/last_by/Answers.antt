-- `partition_point` finds the place behind the last run at or before the vertex. Assumes nothing.
use mathlib.Core.Path.{sym, ◌∙◌}
use borrow.Author.Rules.{rules}
use Rattle.colours.proofs.Listing.{last_found}
use Rattle.colours.proofs.Searching.{last_before}
use Rattle.colours.proofs.list.last_by.Goals as goal

pub overflow_sub-behind : goal.overflow_sub-behind
overflow_sub-behind c =
    let point = c.partition_point-behind.ensures in
    (last_before c.args.vertex _ _ c.requires point.bound point.partitioned (λ a t f' k. search rules)).0

pub bounds-runs-behind : goal.bounds-runs-behind
bounds-runs-behind c =
    let point = c.partition_point-behind.ensures in
    (last_before c.args.vertex _ _ c.requires point.bound point.partitioned (λ a t f' k. search rules)).1.within

pub returns : goal.returns
returns c =
    let point = c.partition_point-behind.ensures in
    let last = last_before c.args.vertex _ _ c.requires point.bound point.partitioned (λ a t f' k. search rules) in
    c.coordinate.ensures ∙ sym (last_found _ _ 0 _ last.1)
