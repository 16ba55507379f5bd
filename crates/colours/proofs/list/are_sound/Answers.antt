use Prim.Native.Nat.{◌+◌, ◌≤◌, ◌<◌}
use mathlib.Core.Path.{sym, ap, ◌∙◌}
use mathlib.Core.Logic.{⊎_elim}
use native.Mathlib.Omega.{arith}
use borrow.Author.Tests.{lt-ltb, le-ltb, eq-eqb, ne_eqb}
use lib.ListN.{length}
use Rattle.colours.specs.Packed.{offset_in}
use Rattle.colours.proofs.Listing.{rest_length, rest_at, sound_none, sound_first}
use Rattle.colours.proofs.Listing.{rises_not, rises_past, rises_on, rises_end}
use Rattle.colours.proofs.list.are_sound.Goals as goal

pub returns-in_default : goal.returns-in_default
returns-in_default c = sym (sound_none _ _ (omega arith))

pub returns-then-start_of-ne0 : goal.returns-then-start_of-ne0
returns-then-start_of-ne0 c =
    let first = sound_first c.args.kmers c.args.runs.now (omega arith) in
    ⊎_elim (λ h. sym (first ∙ rw (ne_eqb _ _ (rw c.start_of.ensures at h))))
    (λ h. let e = eq-eqb _ _ (rw c.start_of.ensures at h.0) in
    sym (first ∙ rw (e, le-ltb 0 c.args.kmers (omega arith)))) c.then-start_of-ne0.either

pub loop-run-init : goal.loop-run-init
loop-run-init c =
    let e = eq-eqb _ _ (rw c.start_of.ensures at c.if-start_of-ne0.false) in
    sound_first c.args.kmers c.args.runs.now (omega arith) ∙ rw (e, lt-ltb 0 c.args.kmers (omega arith))

pub returns-then-start-last : goal.returns-then-start-last
returns-then-start-last c =
    let runs = c.args.runs.now in
    let i = c.loop-run.run-index in
    let here : i + 1 < length runs = omega (arith, rest_length runs) in
    let start = c.start_of-start.ensures ∙ ap offset_in (rest_at runs i) in
    ⊎_elim (λ h. sym (c.loop-run.invariant ∙ rises_not _ _ _ _ _ here start h))
    (λ h. sym (c.loop-run.invariant ∙ rises_past _ _ _ _ _ here start h.1)) c.then-start-last.either

pub loop-run-preserved : goal.loop-run-preserved
loop-run-preserved c =
    let runs = c.args.runs.now in
    let i = c.loop-run.run-index in
    let here : i + 1 < length runs = omega (arith, rest_length runs) in
    let start = c.start_of-start.ensures ∙ ap offset_in (rest_at runs i) in
    c.loop-run.invariant ∙ rises_on _ _ _ _ _ here start c.if-start-last.false c.if-kmers-start.false

pub returns : goal.returns
returns c =
    let runs = c.args.runs.now in
    let end : length runs ≤ c.loop-run.run-index + 1 = omega (arith, rest_length runs) in
    sym (c.loop-run.invariant ∙ rises_end _ _ _ _ end)
