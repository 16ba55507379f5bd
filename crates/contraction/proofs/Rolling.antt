-- Both strands of a k-mer: of a vertex as a walk sees it, and with a base appended. Assumes nothing.
use mathlib.Core.Path.{◌≡◌, sym, ap, ◌∙◌}
use mathlib.Core.Bool.{true}
use mathlib.Core.List.{List}
use Prim.Native.Nat.{ℕ, ◌-◌, ◌^◌, ◌<◌}
use native.Mathlib.Omega.{arith}
use lib.ListN.{length, get_or}
use Rattle.std.specs.Prelude.{Result, Ok}
use borrow.Author.Tests.{ltb-true}
use Rattle.dna.specs.Letters.{complement}
use Rattle.kmer.specs.Kmer.{ok_k, rc, forward, backward}
use Rattle.kmer.specs.Calls.{reverse_call, forward_call, backward_call}
use Rattle.kmer.specs.Says.{value_of, kmer_of, Answers}
use Rattle.kmer.specs.declared.Kmer.{Kmer}
use Rattle.kmer.specs.declared.KmerError.{KmerError}
use Rattle.kmer.proofs.Bounds.{ok_bounds}
use Rattle.kmer.proofs.Wide.{value_back}
use Rattle.kmer.proofs.Given.{kmer_given, roll_given}
use Rattle.kmer.proofs.Turned.{rc_lt}
use Rattle.kmer.proofs.Strands.{rc_rc, rc_forward, forward_lt}
use Rattle.state.specs.declared.Side.{Side}
use Rattle.state.specs.declared.Side.TheVariants.{Front, Back}
use Rattle.graph.specs.Walks.{seen}
use Rattle.graph.proofs.Fit.{fit_each}
use Rattle.table.specs.Search.{key}
use Rattle.table.proofs.Keys.{key_is}
use Rattle.laws.proofs.Sides.{complement_is}
use Rattle.marks.specs.Marks.{ends}
use Rattle.contraction.specs.Says.{Both, Stands}
use Rattle.contraction.specs.declared.Strands.{Strands}
use Rattle.contraction.specs.declared.Stand.{Stand}
use Rattle.marks.proofs.Marking.{ends_length}
use Rattle.marks.specs.Ready.{keys_for, Ready}
use Rattle.marks.proofs.Still.{keys_marks}

-- The k-mer that a Result holds, where it is known which.
held : (n : ℕ) {r : Result Kmer KmerError} {y : Kmer} → r ≡ Ok (kmer_of n) → r ≡ Ok y → y ≡ kmer_of n
held n e f = let g : ◌≡◌ {A = Result Kmer KmerError} (Ok _) (Ok _) = sym f ∙ e in cc

-- Vertex v as it is stored, and turned.
module _ {K : ℕ} {keys ms : List ℕ} (r : Ready K keys ms) (v : ℕ) (h : v < length ms)
    (x : Kmer) (read : value_of x ≡ key keys v) {t : Result Kmer KmerError}
    (turned : Answers t (reverse_call K (value_of x))) where
  abbrev stored : ℕ
  stored = get_or (keys_for ms keys) v 0

  value : value_of x ≡ stored
  value = read ∙ sym (key_is (length ms) keys v h (omega (arith, r.room)))

  below : stored < 4 ^ K
  below = ltb-true _ _ (fit_each K 0 (keys_for ms keys) r.fits v (omega (arith, keys_marks r))).0

  pub turned_ok : t ≡ Ok (kmer_of (rc K (value_of x)))
  turned_ok = kmer_given K (value_of x) r.ok (rw value below) (rc K (value_of x)) turned

  module _ {y : Kmer} (is : t ≡ Ok y) where
    other : value_of y ≡ rc K stored
    other = value_back (rc K (value_of x)) (held (rc K (value_of x)) turned_ok is) ∙ ap (rc K) value

    pub seen_front : {s : Side} → s ≡ Front → Both K (seen K (keys_for ms keys) v s) (record { here = y; other = x })
    seen_front e = rw e (record { below = rc_lt K stored; here = other; other = value ∙ sym (rc_rc K stored below) })

    pub seen_back : {s : Side} → s ≡ Back → Both K (seen K (keys_for ms keys) v s) (record { here = x; other = y })
    seen_back e = rw e (record { below = below; here = value; other = other })

-- Base b appended to one, and its complement put in front of the other.
module _ {K : ℕ} (ok : ok_k K ≡ true) {b : ℕ} (base : b < 4) {s : Strands} (strands : Both K (value_of s.here) s) where
  abbrev x : ℕ
  x = value_of s.here

  abbrev o : ℕ
  o = value_of s.other

  pub forward_ok : {t : Result Kmer KmerError} → Answers t (forward_call K x b) → t ≡ Ok (kmer_of (forward K x b))
  forward_ok next = roll_given K x ok strands.below b (forward K x b) base next

  module _ {d : ℕ} (comp : d ≡ complement b) where
    rest : d ≡ 3 - b
    rest = comp ∙ complement_is b base

    pub backward_ok : {t : Result Kmer KmerError} → Answers t (backward_call K o d) → t ≡ Ok (kmer_of (backward K o d))
    backward_ok turned = roll_given K o ok (rw strands.other (rc_lt K x)) d (backward K o d)
        (omega (arith, rest)) turned

    pub both_rolled : {t u : Result Kmer KmerError} → Answers t (forward_call K x b) → Answers u (backward_call K o d)
        → {y z : Kmer} → t ≡ Ok y → u ≡ Ok z → Both K (forward K x b) (record { here = y; other = z })
    both_rolled next turned ey ez =
        let one = (ok_bounds K ok).0 in
        record {
          below = forward_lt K x b;
          here = value_back (forward K x b) (held (forward K x b) (forward_ok next) ey);
          other =
              value_back (backward K o d) (held (backward K o d) (backward_ok turned) ez)
              ∙ rw (strands.other, rest) (sym (rc_forward K x b one base));
        }

-- Strands of one k-mer are strands of the same k-mer by another name.
module _ {K x : ℕ} {s : Strands} (strands : Both K x s) where
  pub both_here : Both K (value_of s.here) s
  both_here = rw strands.here strands

  pub both_on : (b : ℕ) {y : ℕ} → forward K x b ≡ y → {t : Strands} → Both K (forward K (value_of s.here) b) t
      → Both K y t
  both_on b e next = rw (strands.here, e) at next

-- A walk stands as well over marks with the same ends.
pub stands_still : {K : ℕ} {keys ms : List ℕ} (after : List ℕ) {s : Stand} → ends after ≡ ends ms → Stands K keys ms s
    → Stands K keys after s
stands_still {ms = ms} after e s =
    let l = ends_length ms after e in
    record { inside = rw l s.inside; both = rw l s.both }
