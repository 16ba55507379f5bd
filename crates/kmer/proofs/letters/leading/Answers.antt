-- Each letter is that of its digit. Assumes nothing.
use mathlib.Core.Path.{sym, ap, ◌∙◌}
use Prim.Native.Nat.{◌<◌}
use native.Mathlib.Omega.{arith}
use lib.ListN.{length-take}
use Rattle.lemmas.proofs.Building.{built_more}
use Rattle.dna.specs.Letters.{letter_of}
use Rattle.kmer.specs.Kmer.{letters}
use Rattle.kmer.specs.Says.{value_of}
use Rattle.kmer.proofs.Spelling.{length_letters, letter_at}
use Rattle.kmer.proofs.letters.leading.Goals as goal

pub loop-i-preserved : goal.loop-i-preserved
loop-i-preserved c =
    let a = c.args in
    let l = c.loop-i in
    let v = value_of a.x in
    let h : l.i < a.k.bases = omega (arith, length-take a.n a.out.now) in
    built_more (letters a.k.bases v) _ l.cell-items l.i l.invariant c.to_ascii.result (simp length_letters h) (omega arith)
    (c.to_ascii.ensures ∙ ap letter_of (c.from_bits.ensures ∙ omega (arith, c.digit.ensures)) ∙ sym (letter_at a.k.bases v l.i h))
