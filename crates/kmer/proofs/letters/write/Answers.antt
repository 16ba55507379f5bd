-- Each quad is that of its byte. Assumes nothing.
use mathlib.Core.Path.{◌≡◌, ap, ◌∙◌}
use mathlib.Core.List.{List}
use Prim.Native.Nat.{ℕ, ◌+◌, ◌-◌, ◌*◌, ◌/◌, ◌%◌}
use native.Mathlib.Omega.{arith}
use lib.ListN.{get_or}
use Rattle.lemmas.proofs.Building.{Built, built_all}
use Rattle.lemmas.proofs.Tables.{made_at}
use Rattle.kmer.specs.Kmer.{letters, quad_of}
use Rattle.kmer.specs.Says.{value_of}
use Rattle.kmer.proofs.Spelling.{length_letters, built_quad}
use borrow.Author.Rules.{rules}
use Rattle.kmer.proofs.letters.write.Goals as goal

-- The count of cells, written otherwise.
recount : (text s out : List ℕ) {i j : ℕ} → i ≡ j → Built text s out i → Built text s out j
recount text s out e b = rw e at b

pub loop-i-preserved : goal.loop-i-preserved
loop-i-preserved c =
    let byte = c.byte_of-byte in
    let l = c.loop-i in
    let a = c.args in
    let k = a.k.bases in
    let j = k / 4 - 1 - l.i in
    let at = k % 4 + 4 * l.i in
    let quad =
    ap (λ (q : List ℕ). get_or q byte.result 0) c.table-quads.ensures ∙ made_at quad_of 256 byte.result (search rules) in
    λ s h b.
    rw (c.put_quad.ensures, c.from.ensures)
    (recount _ s _ {i = at + 4} (omega arith)
    (built_quad k (value_of a.x) j at (omega arith) s l.out _ (quad ∙ ap quad_of byte.ensures) h (l.invariant s h b)))

pub returns : goal.returns
returns c =
    let l = c.loop-i in
    let a = c.args in
    let b = l.invariant a.out.now (search rules) c.leading.ensures in
    let n = length_letters a.k.bases (value_of a.x) in
    built_all (letters a.k.bases (value_of a.x)) a.out.now l.out _ b (omega arith)
