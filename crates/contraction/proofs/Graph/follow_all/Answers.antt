use mathlib.Core.Path.{sym, ◌∙◌}
use native.Mathlib.Omega.{arith}
use borrow.Author.Rules.{rules}
use Rattle.std.proofs.lemmas.Result.{err_from_is_err_and}
use Rattle.marks.proofs.Still.{ready_still}
use Rattle.contraction.proofs.Paving.{paving_start, paving_length, skip_fits, paving_skip, piece_fits, paving_take}
use Rattle.contraction.proofs.Surveying.{surveying_start, surveying_skip, surveying_take, surveying_misses}
use Rattle.contraction.proofs.Graph.follow_all.Goals as goal

pub loop-a-init : goal.loop-a-init
loop-a-init c = (
  surveying_start c.requires.0 c.requires.1,
  paving_start c.args.self.now.k c.args.self.now.keys.now c.args.marks.now c.args.trail.now c.requires.2,
)

pub bounds-trail-at : goal.bounds-trail-at
bounds-trail-at c =
    let g = c.loop-a.invariant in
    let fits = skip_fits g.0 g.1 (omega arith) (sym c.if-is_skipped.true ∙ c.is_skipped.ensures) in
    omega (arith, fits, paving_length g.0 g.1)

pub loop-a-preserved-then-is_skipped : goal.loop-a-preserved-then-is_skipped
loop-a-preserved-then-is_skipped c =
    let g = c.loop-a.invariant in
    let e = sym c.if-is_skipped.true ∙ c.is_skipped.ensures in
    (surveying_skip g.0 (omega arith) e, paving_skip g.0 g.1 (omega arith) e)

pub extract-requires : goal.extract-requires
extract-requires c =
    let g = c.loop-a.invariant in (
      ready_still g.0.ready g.0.surveys.ends_kept,
      search rules,
      piece_fits g.0 g.1 (omega arith) (sym c.if-is_skipped.false ∙ c.is_skipped.ensures),
    )

pub returns-in_err-label : goal.returns-in_err-label
returns-in_err-label c =
    let g = c.loop-a.invariant in
    let x = c.in_err-label.ensures in
    let m = surveying_misses g.0 (omega arith) (sym c.if-is_skipped.false ∙ c.is_skipped.ensures) x in
    let p = err_from_is_err_and c.from_residual.result c.from_residual.ensures.1 in
    rw (p.1, p.2) (x.error, m)

pub loop-a-preserved : goal.loop-a-preserved
loop-a-preserved c =
    let g = c.loop-a.invariant in
    let e = sym c.if-is_skipped.false ∙ c.is_skipped.ensures in
    let x = c.in_ok-label.ensures in
    (surveying_take g.0 (omega arith) e x, paving_take g.0 g.1 (omega arith) e x)
