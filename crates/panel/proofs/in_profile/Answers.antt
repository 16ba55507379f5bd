-- Each test of the profile, after those before it. Assumes nothing.
use Rattle.std.proofs.Common.{◌≡◌, ◌%◌, ◌==◌, ◌&&◌, ◌∙◌, eq-eqb, ne_eqb}
use Rattle.panel.specs.Probes.{between}
use Rattle.panel.specs.Panel.{in_profile}
use Rattle.panel.proofs.Bounds.{contained}
use Rattle.panel.proofs.in_profile.Goals as goal
use Rattle.panel.proofs.in_profile.Goals.{Joined-k-eq1, Joined-contains, then-k-eq1, else-k-eq1, then-contains, else-contains}

k_fits : (c : Joined-k-eq1) → c.if-k-eq1.value ≡ (c.args.k % 2 == 1 && between 15 c.args.k 31)
k_fits c =
    elim c.if-k-eq1.branch [
      | then-k-eq1 w ↦
          let e = w.new.ensures in
          w.value-is ∙ rw (eq-eqb _ _ w.if-k-eq1.true) (contained _ e.start e.end e.exhausted w.contains.ensures.value)
      | else-k-eq1 w ↦ w.value-is ∙ rw (ne_eqb _ _ w.if-k-eq1.false)
    ]

cutoff_fits : (c : Joined-contains) → c.if-contains.value ≡ (c.if-k-eq1.value && between 2 c.args.cutoff 15)
cutoff_fits c =
    elim c.if-contains.branch [
      | then-contains w ↦
          let e = w.new-then-contains.ensures in
          w.value-is
          ∙ rw w.if-contains.true (contained _ e.start e.end e.exhausted w.contains-then-contains.ensures.value)
      | else-contains w ↦ w.value-is ∙ rw w.if-contains.false
    ]

pub returns-then-contains-2 : goal.returns-then-contains-2
unfolding in_profile
returns-then-contains-2 c =
    let at = goal.at.returns-then-contains-2 c in
    let e = c.new-then-contains-2.ensures in
    rw (← k_fits at.Joined-k-eq1, ← cutoff_fits at.Joined-contains, c.if-contains-2.true)
    (contained _ e.start e.end e.exhausted c.contains-then-contains-2.ensures.value)

pub returns-else-contains-2 : goal.returns-else-contains-2
unfolding in_profile
returns-else-contains-2 c =
    let at = goal.at.returns-else-contains-2 c in
    rw (← k_fits at.Joined-k-eq1, ← cutoff_fits at.Joined-contains, c.if-contains-2.false)
