-- A file's size lies within its slice. Assumes nothing.
use native.Mathlib.Omega.{arith}
use lib.ListN.{length-take}
use Rattle.label_text.proofs.Says.{packs_within}
use Rattle.labels.proofs.pack.Goals as goal

pub slice_bounds-file-end : goal.slice_bounds-file-end
slice_bounds-file-end g c = packs_within _ _ _ _ c.in-Ok.ensures

pub slice_bounds-write_all-end : goal.slice_bounds-write_all-end
slice_bounds-write_all-end g c = simp length-take (omega (arith, packs_within _ _ _ _ c.in-Ok.ensures))
