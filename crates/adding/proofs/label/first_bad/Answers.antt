use mathlib.Core.Path.{sym, ◌∙◌}
use Rattle.kmer.proofs.Testing.{bad_behind, bad_here, bad_nowhere}
use Rattle.adding.proofs.label.first_bad.Goals as goal

pub returns-then-not-is_dna_ascii : goal.returns-then-not-is_dna_ascii
returns-then-not-is_dna_ascii c =
    let l = c.loop-place in
    bad_here c.args.s.now l.place l.invariant c.loop-place-test.true
    (sym c.is_dna_ascii.ensures ∙ c.if-not-is_dna_ascii.true)

pub loop-place-preserved : goal.loop-place-preserved
loop-place-preserved c =
    let l = c.loop-place in
    bad_behind c.args.s.now l.place l.invariant c.loop-place-test.true
    (sym c.is_dna_ascii.ensures ∙ c.if-not-is_dna_ascii.false)

pub returns : goal.returns
returns c = bad_nowhere c.args.s.now c.loop-place.place c.loop-place.invariant c.loop-place-test.false
