use Prim.Native.Nat.{◌+◌, ◌<◌, ◌≤◌}
use mathlib.Core.Path.{ap, ◌∙◌}
use native.Mathlib.Omega.{arith}
use lib.ListN.{length}
use Rattle.colours.specs.Packed.{offset_in, coordinate_in}
use Rattle.colours.proofs.Listing.{rest_length, rest_at, sound_says}
use Rattle.colours.proofs.Painting.{painting_first, painting_more, painting_all}
use Rattle.colours.proofs.list.paint_runs.Goals as goal

pub bounds-runs-0 : goal.bounds-runs-0
bounds-runs-0 c = (sound_says _ _ c.requires.0).some

pub slice_bounds-run-items-count : goal.slice_bounds-run-items-count
slice_bounds-run-items-count c = (sound_says _ _ c.requires.0).some

pub slice_bounds-run-items-start : goal.slice_bounds-run-items-start
slice_bounds-run-items-start c = (sound_says _ _ c.requires.0).some

pub loop-run-init : goal.loop-run-init
loop-run-init c = painting_first (sound_says _ _ c.requires.0) c.requires.1 _ c.color_of-color.ensures

pub loop-run-preserved : goal.loop-run-preserved
loop-run-preserved c =
    let runs = c.args.runs.now in
    let i = c.loop-run.run-index in
    let here : i + 1 < length runs = omega (arith, rest_length runs) in
    painting_more c.loop-run.invariant here _ (c.start_of-to.ensures ∙ ap offset_in (rest_at runs i))
    _ c.paint.ensures _ (c.color_of-color-in-loop-run.ensures ∙ ap coordinate_in (rest_at runs i))

pub returns : goal.returns
returns c =
    let runs = c.args.runs.now in
    let end : length runs ≤ c.loop-run.run-index + 1 = omega (arith, rest_length runs) in
    painting_all c.loop-run.invariant end _ c.paint-2.ensures
