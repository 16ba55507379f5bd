-- Each turn writes one more letter of the other strand. Assumes nothing.
use mathlib.Core.Path.{◌≡◌, sym, ap, ◌∙◌}
use mathlib.Core.List.{List, reverse}
use Prim.Native.Nat.{ℕ, ◌+◌, ◌-◌, ◌<◌}
use native.Mathlib.Nat.{zero-add}
use native.Mathlib.Omega.{arith}
use lib.ListN.{length, get_or, set, length-reverse}
use Rattle.std.specs.List.{enumerate_from}
use Rattle.std.proofs.lemmas.List.{get_or-reverse, length_push}
use Rattle.std.proofs.lemmas.List.FromFn.{get_or-enumerate_from, length-enumerate_from}
use Rattle.std.proofs.lemmas.Grind.{get_or_default_zero}
use Rattle.std.proofs.lemmas.Iterator.Consumers.{YieldsList-from_enumerate, YieldsList-turn, YieldsList-end}
use Rattle.std.proofs.lemmas.Iterator.Adapters.{YieldsList-from_rev_slice}
use Rattle.lemmas.proofs.Building.{Built, built_more}
use Rattle.dna.specs.Letters.{complement_letter, reverse_complement}
use Rattle.dna.proofs.Calls.{writes_none, writes_all}
use Rattle.dna.proofs.Reversal.{length_reverse_complement, reverse_complement_at}
use Rattle.dna.proofs.labels.reverse_complement_label.Goals as goal

-- The n-th item of the label's bytes counted from its end.
item : (s : List ℕ) (n i b : ℕ) → (n < length (enumerate_from 0 (reverse s)))
    × (◌≡◌ {A = ℕ × ℕ} (i, b) (get_or (enumerate_from 0 (reverse s)) n (i, b)))
    → (n < length s) × (i ≡ n) × (b ≡ get_or s (length s - 1 - n) 0)
item s n i b t =
    let h : n < length s = omega (arith, length-enumerate_from 0 (reverse s), length-reverse s) in
    let r : n < length (reverse s) = omega (arith, length-reverse s) in
    let e : ◌≡◌ {A = ℕ × ℕ} (i, b) (n, get_or s (length s - 1 - n) b) =
    t.1 ∙ get_or-enumerate_from 0 (reverse s) n (i, b) r ∙ rw (get_or-reverse s n b h, zero-add n) in
    (h, ap (λ p. p.0) e, ap (λ p. p.1) e ∙ get_or_default_zero s (length s - 1 - n) b (omega arith))

-- One turn more, of an item that the label has.
more : (s slice₀ slice : List ℕ) (n i b v : ℕ) → (n < length s) × (i ≡ n) × (b ≡ get_or s (length s - 1 - n) 0)
    → n < length slice₀ → v ≡ complement_letter b → Built (reverse_complement s) slice₀ slice n
    → Built (reverse_complement s) slice₀ (set slice i v) (n + 1)
more s slice₀ slice n i b v t h e w =
    rw t.1
    (built_more (reverse_complement s) slice₀ slice n w v (rw length_reverse_complement t.0) h
    (e ∙ ap complement_letter t.2 ∙ sym (reverse_complement_at s n t.0)))

pub returns-then-out-n : goal.returns-then-out-n
returns-then-out-n c =
    let a = c.args in
    writes_none (reverse_complement a.label.now) a.out.now (rw length_reverse_complement c.if-out-n.true)

pub bounds-out-i : goal.bounds-out-i
bounds-out-i c =
    let s = c.args.label.now in
    let l = c.loop-i in
    let t =
    YieldsList-turn (YieldsList-from_enumerate (YieldsList-from_rev_slice s cc) cc) l.yielded _ l.yielded_by _ _ _ c.in-Some.is c.next.ensures.steps in
    omega (arith, item s _ _ _ t)

pub loop-i-preserved : goal.loop-i-preserved
loop-i-preserved c =
    let s = c.args.label.now in
    let l = c.loop-i in
    let t =
    YieldsList-turn (YieldsList-from_enumerate (YieldsList-from_rev_slice s cc) cc) l.yielded _ l.yielded_by _ _ _ c.in-Some.is c.next.ensures.steps in
    let u = item s _ _ _ t in
    rw length_push (more s c.args.out.now l.out _ _ _ _ u (omega arith) c.complement_ascii.ensures l.invariant)

pub returns : goal.returns
returns c =
    let s = c.args.label.now in
    let l = c.loop-i in
    let t =
    YieldsList-end (YieldsList-from_enumerate (YieldsList-from_rev_slice s cc) cc) l.yielded _ l.yielded_by _ _ c.in-None.is c.next.ensures.steps in
    let n = length_reverse_complement s in
    let all : length l.yielded ≡ length s = omega (arith, t.1, length-enumerate_from 0 (reverse s), length-reverse s) in
    writes_all (reverse_complement s) c.args.out.now l.out (length s) (sym n) (omega arith) (rw all at l.invariant)
