use mathlib.Core.Path.{refl, ap, ◌∙◌}
use native.Mathlib.Omega.{arith}
use Rattle.dna.specs.Letters.{letter_of}
use Rattle.kmer.specs.Kmer.{forward}
use Rattle.contraction.proofs.Rolling.{both_on}
use Rattle.contraction.proofs.Stepping.{code_small}
use Rattle.contraction.proofs.Walking.{walking_start, walking_less, walking_next, walking_base, walking_seen}
use Rattle.contraction.proofs.Walking.{walking_ends, not_next}
use Rattle.contraction.proofs.Spelling.{spelling_start, spelling_length, spelling_next, spelling_ends}
use Rattle.contraction.proofs.Graph.spell.Goals as goal

pub loop-vertex-init : goal.loop-vertex-init
loop-vertex-init c = (
  walking_start c.requires.0 c.args.start.anchor c.args.start.side c.requires.1,
  spelling_start _ _ c.args.at c.requires.2,
  c.strands_of.ensures,
)

pub bounds-buffer-at : goal.bounds-buffer-at
bounds-buffer-at c =
    let g = c.loop-vertex.invariant in
    let less = walking_less g.0 c.advance-last.ensures c.in-Next.is in
    omega (arith, less, g.1.room, spelling_length g.1 g.0.within)

pub loop-vertex-smaller : goal.loop-vertex-smaller
loop-vertex-smaller c = omega (arith, walking_less c.loop-vertex.invariant.0 c.advance-last.ensures c.in-Next.is)

pub loop-vertex-preserved : goal.loop-vertex-preserved
loop-vertex-preserved c =
    let g = c.loop-vertex.invariant in
    let next = c.in-Next.is in
    let less = walking_less g.0 c.advance-last.ensures next in
    let base = walking_base g.0 c.advance-last.ensures next in
    let code = code_small c.base_of-letter.ensures base.1 in
    let letter = c.to_ascii.ensures ∙ ap letter_of code in
    let ahead = ap (forward _ _) code ∙ walking_seen g.0 c.advance-last.ensures next in (
      walking_next g.0 c.advance-last.ensures next,
      spelling_next g.1 less base.0 letter,
      both_on g.2 _ ahead c.rolled-strands.ensures,
    )

pub returns-in_default : goal.returns-in_default
returns-in_default c =
    let g = c.loop-vertex.invariant in
    spelling_ends (walking_ends g.0 c.advance-last.ensures refl (not_next c.advance-last.result c.in_default.not-Next))
    g.1
