-- The index is tested whole, before any label is tried. Assumes nothing.
use mathlib.Core.Path.{refl, sym, ◌∙◌}
use Rattle.graph.specs.Several.{add_labels}
use Rattle.adding.proofs.several.add_labels.Goals as goal

pub returns-then-not-lie_within : goal.returns-then-not-lie_within
unfolding add_labels
returns-then-not-lie_within c =
    rw (sym c.lie_within.ensures ∙ c.if-not-lie_within.true)
    (record { says = (refl, refl, refl); keys_after = refl; counts_after = refl })

pub returns : goal.returns
unfolding add_labels
returns c = rw (sym c.lie_within.ensures ∙ c.if-not-lie_within.false) c.add_each.ensures
