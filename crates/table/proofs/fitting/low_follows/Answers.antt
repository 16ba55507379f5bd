-- A high word makes a k-mer too large; without one the low words decide. Assumes nothing.
use Rattle.std.proofs.Common.{◌≡◌, inl, inr, false, ◌^◌, ltb, ◌&&◌, get_or, sym, arith, rules, lt-ltb}
use Rattle.kmer.specs.Kmer.{is_canon}
use Rattle.kmer.specs.Says.{value_of}
use Rattle.table.proofs.Ascending.{too_low, not_low}
use Rattle.table.proofs.Bounded.{told_low}
use Rattle.table.proofs.Short.{no_high, too_high}
use Rattle.table.proofs.fitting.low_follows.Goals as goal

pub returns-then-l-bounds : goal.returns-then-l-bounds
returns-then-l-bounds c =
    let f = c.last_four in
    let a = c.args in
    let w = a.x.words in
    let z : get_or a.x.words 1 0 ≡ 0 = omega arith in
    rw (lt-ltb _ _ c.if-l-bounds.true)
    (not_low a.k _ (value_of a.x) (rw (no_high (get_or w 0 0) (get_or w 1 0) z) (omega arith))
    (sym (told_low a.k a.bounds.now c.requires.2 (get_or w 0 0) (get_or w 1 0) f.result f.ensures c.requires.1 z
    c.if-l-bounds.true)))

pub returns-else-low-l : goal.returns-else-low-l
returns-else-low-l c =
    let a = c.args in
    let w = a.x.words in
    let none : (ltb a.low (value_of a.x) && ltb (value_of a.x) (4 ^ a.k) && is_canon a.k (value_of a.x)) ≡ false =
    elim c.if-low-l.either [
      | inl p ↦ sym (too_low a.k _ (value_of a.x) (rw (no_high (get_or w 0 0) (get_or w 1 0) p.0) (omega arith)))
      | inr p ↦
          sym (not_low a.k _ (value_of a.x) (omega arith)
          (too_high a.k c.requires.1 (get_or w 0 0) (get_or w 1 0) (omega arith)))
    ] in
    rw none (search rules)
