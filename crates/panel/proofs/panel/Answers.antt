-- The tests choose the answer, in the order of the refusals. Assumes nothing.
use Rattle.std.proofs.Common.{◌≡◌, ◌∙◌, sym}
use Rattle.panel.specs.Probes.{between}
use Rattle.panel.proofs.Bounds.{contained}
use Rattle.panel.proofs.Says.{profile_some, bounds_order}
use Rattle.panel.proofs.Says.{panels_profile, panels_bounds, panels_outside, panels_full, panels_all}
use Rattle.panel.proofs.panel.Goals as goal
use Rattle.panel.proofs.panel.Goals.{After-contains}

-- The test of the bounds is that of the definition.
bounds : (c : After-contains) → between c.args.least c.args.most c.args.probe ≡ c.contains.result
bounds c = let e = c.new.ensures in sym (contained _ e.start e.end e.exhausted c.contains.ensures.value)

pub returns-then-not-in_profile : goal.returns-then-not-in_profile
returns-then-not-in_profile c = panels_profile _ _ _ _ _ _ _ _ _ _ (sym c.if-not-in_profile.ensures)

pub returns-then-not-contains : goal.returns-then-not-contains
returns-then-not-contains c =
    let at = goal.at.returns-then-not-contains c in
    panels_bounds _ _ _ _ _ _ _ _ _ _ (sym c.if-not-in_profile.ensures)
    (bounds at.After-contains ∙ c.if-not-contains.true)

pub returns-then-not-lie_within : goal.returns-then-not-lie_within
returns-then-not-lie_within c =
    let at = goal.at.returns-then-not-lie_within c in
    panels_outside _ _ _ _ _ _ _ _ _ _ (sym c.if-not-in_profile.ensures)
    (bounds at.After-contains ∙ c.if-not-contains.false) (sym c.if-not-lie_within.ensures)

pub returns-then-out-count : goal.returns-then-out-count
returns-then-out-count c =
    let at = goal.at.returns-then-out-count c in
    panels_full _ _ _ _ _ _ _ _ _ _ (sym c.if-not-in_profile.ensures)
    (bounds at.After-contains ∙ c.if-not-contains.false) (sym c.if-not-lie_within.ensures) c.if-out-count.true

pub answer_each-requires : goal.answer_each-requires
answer_each-requires c =
    let at = goal.at.answer_each-requires c in (
      profile_some _ _ _ (sym c.if-not-in_profile.ensures),
      bounds_order _ _ _ (bounds at.After-contains ∙ c.if-not-contains.false),
      sym c.if-not-lie_within.ensures,
      c.if-out-count.false,
    )

pub returns : goal.returns
returns c =
    let at = goal.at.returns c in
    panels_all _ _ _ _ _ _ _ _ _ _ (sym c.if-not-in_profile.ensures)
    (bounds at.After-contains ∙ c.if-not-contains.false) (sym c.if-not-lie_within.ensures) c.if-out-count.false _
    c.answer_each.ensures
