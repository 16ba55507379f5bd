-- The test of the two strands picks the smaller. Assumes nothing.
use mathlib.Core.Path.{◌≡◌, sym, ap, ◌∙◌}
use Prim.Native.Nat.{ℕ}
use native.Mathlib.Omega.{arith}
use lib.Dec.{ltb}
use lib.ListN.{length, get_or}
use mir.Syntax.{w64}
use mir.Val.{Fits}
use Rattle.kmer.specs.Kmer.{rc}
use Rattle.kmer.specs.Says.{value_of, kmer_of}
use Rattle.kmer.proofs.Wide.{value_back, kmer_back}
use Rattle.kmer.proofs.Orders.{canon_turned, canon_same}
use borrow.Author.Rules.{rules}
use Rattle.kmer.proofs.Kmer.canonical.Goals as goal

pub returns-then-is_less : goal.returns-then-is_less
returns-then-is_less c =
    let k = c.in_ok-k.k.bases in
    let x = value_of c.args.self in
    let turned = c.reversed-turned.ensures in
    let t = sym (ap (λ (n : ℕ). ltb n x) (value_back (rc k x) turned)) ∙ sym c.is_less.ensures ∙ c.if-is_less.true in
    rw (turned ∙ ap kmer_of (canon_turned k x t)) (grind arith)

pub returns-else-is_less : goal.returns-else-is_less
returns-else-is_less c =
    let k = c.in_ok-k.k.bases in
    let x = value_of c.args.self in
    let turned = c.reversed-turned.ensures in
    let t = sym (ap (λ (n : ℕ). ltb n x) (value_back (rc k x) turned)) ∙ sym c.is_less.ensures ∙ c.if-is_less.false in
    let f : Fits w64 (get_or c.args.self.words 0 0) = search rules in
    let two : length c.args.self.words ≡ 2 = search rules in
    let h = canon_same k x t in
    let e = sym (kmer_back c.args.self two f.fits) ∙ ap kmer_of h in
    grind arith
