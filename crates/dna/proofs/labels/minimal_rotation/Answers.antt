-- The least start lies within the label. Assumes nothing.
use native.Mathlib.Omega.{arith}
use Rattle.dna.proofs.Rotations.{least_within}
use Rattle.dna.proofs.labels.minimal_rotation.Goals as goal

pub split_at-requires : goal.split_at-requires
split_at-requires c = omega (arith, least_within c.args.label.now)
