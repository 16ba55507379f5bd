-- The bases before and after a window, as they are read from its label. Assumes nothing.
use mathlib.Core.Path.{◌≡◌, sym, ◌∙◌}
use mathlib.Core.Bool.{Bool, true, false, cond}
use mathlib.Core.List.{List}
use Prim.Native.Nat.{ℕ, suc, ◌+◌, ◌-◌, ◌*◌, ◌<◌, ◌≤◌}
use native.Mathlib.Omega.{arith}
use lib.ListN.{length, get_or}
use borrow.Author.Tests.{lt-ltb, le-ltb}
use Rattle.dna.specs.Letters.{code_of, complement, valid_bits}
use Rattle.dna.proofs.Letters.{valid_code}
use Rattle.kmer.specs.Kmer.{is_canon}
use Rattle.kmer.proofs.Windows.{Bases, bases_at}
use Rattle.graph.specs.Sightings.{Rule, window, predecessor, successor}
use Rattle.adding.specs.Batch.{code_at}

module _ (rule : Rule) (K : ℕ) (label : List ℕ) where
  pub first_none : {o : ℕ} → o ≡ 0 → 5 ≡ predecessor rule K label o
  unfolding predecessor
  first_none e = rw e

  -- By whether the rule leaves it uncounted.
  pub predecessor_is : {o j : ℕ} → o ≡ suc j → (t : Bool) → rule K (window K label j) (window K label o) ≡ t
      → cond t 5 (code_of (get_or label (o - 1) 0)) ≡ predecessor rule K label o
  unfolding predecessor
  predecessor_is {o} {j} q t e =
      let d : suc j - 1 ≡ j = omega arith in
      let f = rw q at e in
      rw (q, d, f)

module _ (K : ℕ) (label : List ℕ) where
  pub next_counts : (o : ℕ) → o + K < length label → code_of (get_or label (o + K) 0) ≡ successor K label o
  unfolding successor
  next_counts o h = rw (lt-ltb (o + K) (length label) h)

  pub last_none : (o : ℕ) → length label ≤ o + K → 5 ≡ successor K label o
  unfolding successor
  last_none o h = rw (le-ltb (o + K) (length label) h)

-- A byte of a label of bases has its code in two of its bits.
pub bits_code : (label : List ℕ) (i : ℕ) → i < length label → Bases label
    → valid_bits (get_or label i 0) ≡ code_of (get_or label i 0)
bits_code label i h b = valid_code (get_or label i 0) (lt-ltb (code_of (get_or label i 0)) 4 (bases_at label i h b))

-- As the window is seen.
module _ (rule : Rule) (K : ℕ) (label : List ℕ) (i : ℕ) {p q : ℕ} (ep : p ≡ predecessor rule K label i)
    (eq : q ≡ successor K label i)
    {s : Bool} (es : s ≡ is_canon K (window K label i)) where
  pub straight_code : s ≡ true → p + 8 * q ≡ code_at rule K label i
  unfolding code_at
  straight_code e = let t : is_canon K (window K label i) ≡ true = sym es ∙ e in rw (ep, eq, t)

  pub turned_code : s ≡ false → {p' q' : ℕ} → p' ≡ complement p → q' ≡ complement q
      → q' + 8 * p' ≡ code_at rule K label i
  unfolding code_at
  turned_code e fp fq = let t : is_canon K (window K label i) ≡ false = sym es ∙ e in rw (fp, fq, ep, eq, t)
