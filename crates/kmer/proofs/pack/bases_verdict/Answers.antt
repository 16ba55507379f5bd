-- The first letter that is no base is the first bad one. Assumes nothing.
use mathlib.Core.Path.{sym, ap, ◌∙◌}
use native.Mathlib.Omega.{arith}
use Rattle.kmer.specs.Calls.{pack_bases}
use Rattle.kmer.proofs.Testing.{bad_behind, bad_here, bad_nowhere}
use Rattle.kmer.proofs.pack.bases_verdict.Goals as goal

pub returns-then-not-is_dna_ascii : goal.returns-then-not-is_dna_ascii
unfolding pack_bases
returns-then-not-is_dna_ascii c =
    let s = c.args.seq.now in
    let l = c.loop-place in
    ap (pack_bases s)
    (bad_here s l.place l.invariant (omega arith) (sym c.is_dna_ascii.ensures ∙ c.if-not-is_dna_ascii.true))

pub loop-place-preserved : goal.loop-place-preserved
loop-place-preserved c =
    let l = c.loop-place in
    bad_behind c.args.seq.now l.place l.invariant (omega arith)
    (sym c.is_dna_ascii.ensures ∙ c.if-not-is_dna_ascii.false)

pub returns : goal.returns
unfolding pack_bases
returns c =
    let s = c.args.seq.now in
    ap (pack_bases s) (bad_nowhere s c.loop-place.place c.loop-place.invariant (omega arith))
