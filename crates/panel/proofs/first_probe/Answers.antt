use Rattle.std.proofs.Common.{◌≡◌, ◌-◌, length, sym, ◌∙◌, arith, length-take-le}
use Rattle.panel.proofs.Starts.{short_none}
use Rattle.panel.proofs.Looking.{looking_starts, looking_finds, looking_ends}
use Rattle.panel.proofs.Looking.{looking_keeps, looking_moves}
use Rattle.panel.proofs.first_probe.Goals as goal

pub returns-then-label-probe : goal.returns-then-label-probe
returns-then-label-probe c = sym (short_none _ _ _ 0 _ c.if-label-probe.true)

pub slice_bounds-gc_in-end : goal.slice_bounds-gc_in-end
slice_bounds-gc_in-end c =
    let a = c.args in
    sym (length-take-le a.probe a.label.now c.if-label-probe.false)

pub loop-at-init : goal.loop-at-init
loop-at-init c = (
  looking_starts _ _ _ _ c.requires.0 c.if-label-probe.false _ c.gc_in-held.ensures,
  c.requires.1,
  c.requires.2,
)

pub returns-then-in_bounds : goal.returns-then-in_bounds
returns-then-in_bounds c = looking_finds c.loop-at.invariant.0 (sym c.in_bounds.ensures ∙ c.if-in_bounds.true)

pub overflow_sub-held : goal.overflow_sub-held
overflow_sub-held c =
    looking_keeps c.loop-at.invariant.0 c.loop-at-test.true _ _ c.gc.ensures.0
    c.gc-in-loop-at.ensures.0

pub loop-at-preserved : goal.loop-at-preserved
loop-at-preserved c =
    let l = c.loop-at in
    let missed = sym c.in_bounds.ensures ∙ c.if-in_bounds.false in
    let moved =
    looking_moves l.invariant.0 c.loop-at-test.true _ _ c.gc.ensures.0 c.gc-in-loop-at.ensures.0 missed in
    (moved, l.invariant.1, l.invariant.2)

pub returns-then-in_bounds-2 : goal.returns-then-in_bounds-2
returns-then-in_bounds-2 c =
    let a = c.args in
    let l = c.loop-at in
    let e : length a.label.now - a.probe ≡ l.at = omega (arith, l.invariant.0.places.0) in
    e ∙ looking_finds l.invariant.0 (sym c.in_bounds-2.ensures ∙ c.if-in_bounds-2.true)

pub returns : goal.returns
returns c =
    let l = c.loop-at in
    looking_ends l.invariant.0 (omega arith) (sym c.in_bounds-2.ensures ∙ c.if-in_bounds-2.false)
