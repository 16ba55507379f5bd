-- The marks are digested and all walks followed; from the trail that they leave the list is written. Each answer is the
-- definition's. Assumes nothing.
use mathlib.Core.Path.{◌∙◌}
use Prim.Native.Nat.{ℕ}
use native.Mathlib.Omega.{arith}
use lib.ListN.{length-replicate}
use Rattle.marks.proofs.Made.{ready, clean}
use Rattle.contraction.proofs.Finishing.{missing_vertex, no_room, writable, contracted}
use Rattle.state.specs.Says.{kind_of}
use Rattle.contraction.proofs.whole.contract_fit.Goals as goal

pub survey-requires : goal.survey-requires
survey-requires c =
    let a = c.args in
    let r = ready (kind_of a.kind) a.k a.cutoff a.keys.now a.counts.now a.marks.now c.requires c.digest.ensures in (
      r,
      clean (kind_of a.kind) a.k a.cutoff a.keys.now a.counts.now a.marks.now c.requires c.digest.ensures,
      omega (arith, r.few),
    )

pub returns-in-Err : goal.returns-in-Err
returns-in-Err c =
    let a = c.args in
    rw c.in-Err.ensures.0
    (missing_vertex (kind_of a.kind) a.k a.cutoff a.keys.now a.counts.now a.labels.now a.starts.now a.lengths.now
    a.marks.now
    c.requires c.digest.ensures c.in-Err.ensures.1 c.survey.new.marks c.clear-in-Err.ensures
    (c.survey.auto.marks ∙ c.digest.auto.marks))

pub returns-in-Ok : goal.returns-in-Ok
returns-in-Ok c =
    let a = c.args in
    no_room (kind_of a.kind) a.k a.cutoff a.keys.now a.counts.now a.labels.now a.starts.now a.lengths.now a.marks.now
    c.requires c.digest.ensures c.in-Ok.ensures.0 c.lacks_room.ensures c.if-lacks_room.true c.clear.ensures
    (c.survey.auto.marks ∙ c.digest.auto.marks)

pub write_list-requires : goal.write_list-requires
write_list-requires c =
    let a = c.args in
    writable (kind_of a.kind) a.k a.cutoff a.keys.now a.counts.now a.labels.now a.starts.now a.lengths.now a.marks.now
    c.requires c.digest.ensures c.in-Ok.ensures.0 c.lacks_room.ensures c.if-lacks_room.false
    _ (omega (arith, length-replicate {A = ℕ} 131072 0)) c.in-Ok.ensures.1

pub returns-in-Ok-2 : goal.returns-in-Ok-2
returns-in-Ok-2 c =
    let a = c.args in
    contracted (kind_of a.kind) a.k a.cutoff a.keys.now a.counts.now a.labels.now a.starts.now a.lengths.now a.marks.now
    c.requires c.digest.ensures c.in-Ok.ensures.0 c.lacks_room.ensures c.if-lacks_room.false c.write_list.ensures
    (c.write_list.auto.marks ∙ c.survey.auto.marks ∙ c.digest.auto.marks)
