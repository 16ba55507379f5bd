-- The counters of stored k-mers, raised window by window. Assumes nothing.
use mathlib.Core.Path.{◌≡◌, refl, sym, ◌∙◌}
use mathlib.Core.Bool.{true, false}
use mathlib.Core.Logic.{⊎_elim}
use mathlib.Core.List.{List}
use Prim.Native.Nat.{ℕ, suc, ◌+◌, ◌≤◌, ◌<◌}
use native.Mathlib.Numerals.{add-one}
use native.Mathlib.Omega.{arith}
use lib.Dec.{eqb}
use lib.ListN.{length, get_or, set, length-set}
use lib.Seq.{get_or-set_same, get_or-set_other, drop-set-lt}
use borrow.Author.Tests.{eqb-true, eqb-false, eq-eqb, ne_eqb}
use Rattle.state.specs.Counted.{Kind}
use Rattle.lemmas.proofs.Numbers.{true_or_false}
use Rattle.lemmas.proofs.Tests.{never}
use Rattle.graph.specs.Sightings.{Rule}
use Rattle.graph.specs.Table.{fit_from, rank, stored}
use Rattle.graph.proofs.Rank.{stored_lt, stored_at}
use Rattle.graph.proofs.Lookup.{at_stored, key_inj}
use Rattle.adding.specs.Batch.{counted_by, kmer_at, code_at, tally, note_at, Looked, Raised}
use Rattle.adding.specs.Says.{Known}
use Rattle.adding.proofs.Coding.{code_small}

module _ (rule : Rule) (K : ℕ) (label : List ℕ) where
  -- A note tells whether its k-mer is stored.
  module _ (ks : List ℕ) (i : ℕ) {note : ℕ} (e : note ≡ note_at rule K label ks i) where
    pub known_note : note < 64 → (stored ks (kmer_at K label i) ≡ true) × (note ≡ code_at rule K label i)
    known_note h =
        ⊎_elim
        (λ s.
        let n : note ≡ code_at rule K label i + 0 = e ∙ rw s in
        (s, omega arith))
        (λ s.
        let n : note ≡ code_at rule K label i + 64 = e ∙ rw s in
        absurd (omega arith))
        (true_or_false (stored ks (kmer_at K label i)))

    new_note : 64 ≤ note → stored ks (kmer_at K label i) ≡ false
    new_note h =
        ⊎_elim
        (λ s.
        let n : note ≡ code_at rule K label i + 0 = e ∙ rw s in
        absurd (omega (arith, code_small K label i rule)))
        (λ s. s)
        (true_or_false (stored ks (kmer_at K label i)))

module _ (κ : Kind) (rule : Rule) (K : ℕ) (label : List ℕ) where
  tally_here : (y m w : ℕ) → kmer_at K label m ≡ y
      → tally κ rule K label y (suc m) w ≡ counted_by κ (code_at rule K label m) (tally κ rule K label y m w)
  unfolding tally
  tally_here y m w e = rw (eq-eqb (kmer_at K label m) y e)

  tally_other : (y m w : ℕ) → (kmer_at K label m ≡ y → ⊥)
      → tally κ rule K label y (suc m) w ≡ tally κ rule K label y m w
  unfolding tally
  tally_other y m w n = rw (ne_eqb (kmer_at K label m) y n)

  module _ (ks : List ℕ) (fits : fit_from K 0 ks ≡ true) (m : ℕ) (notes places : List ℕ)
      (looked : Looked rule K label ks m notes places)
      (o : ℕ) (h : o < m) {counts₀ counts : List ℕ} (v : Raised κ rule K label ks o counts₀ counts) where
    raised_known : get_or notes o 0 < 64 → get_or places o 0 < length counts
        → Raised κ rule K label ks (suc o) counts₀
        (set counts (get_or places o 0) (counted_by κ (get_or notes o 0) (get_or counts (get_or places o 0) 0)))
    raised_known s l =
        let n = known_note rule K label ks o (looked.noted o h) s in
        let x : ℕ = kmer_at K label o in
        let i : ℕ = get_or places o 0 in
        let p : i ≡ rank ks x = looked.placed o h in
        let lt : i < length ks = omega (arith, stored_lt ks x n.0) in
        let at : get_or ks i 0 ≡ x = rw p (stored_at ks x n.0) in
        let w : ℕ = counted_by κ (get_or notes o 0) (get_or counts i 0) in
        record {
          long = length-set counts i w ∙ v.long;
          tallied = λ g b.
              ⊎_elim
              (λ t.
              let z : g ≡ i = eqb-true g i t in
              rw z
              (get_or-set_same counts i w 0 l
              ∙ rw (n.1, v.tallied i lt) (sym (tally_here (get_or ks i 0) o (get_or counts₀ i 0) (sym at)))))
              (λ t.
              let z : g ≡ i → ⊥ = eqb-false g i t in
              get_or-set_other counts i g w 0 z ∙ v.tallied g b
              ∙ sym (tally_other (get_or ks g 0) o (get_or counts₀ g 0) (λ q. z (key_inj K ks fits g i b lt (sym q ∙ sym at)))))
              (true_or_false (eqb g i));
          rest = drop-set-lt (length ks) counts i w lt ∙ v.rest;
        }

    raised_new : 64 ≤ get_or notes o 0 → Raised κ rule K label ks (suc o) counts₀ counts
    raised_new s =
        let n = new_note rule K label ks o (looked.noted o h) s in
        record {
          long = v.long;
          tallied = λ g b.
              v.tallied g b
              ∙ sym (tally_other (get_or ks g 0) o (get_or counts₀ g 0)
              (λ q. never (stored ks (get_or ks g 0)) (at_stored K ks fits g b) (rw q at n)));
          rest = v.rest;
        }

-- After o windows.
pub record Raising (κ : Kind) (m : ℕ) (notes places counts₀ : List ℕ) (o : ℕ) (counts : List ℕ) : Type 0 where
  pub raised : (rule : Rule) (K : ℕ) (label ks : List ℕ) → fit_from K 0 ks ≡ true
      → Looked rule K label ks m notes places → Raised κ rule K label ks o counts₀ counts

module _ {κ : Kind} {m : ℕ} {notes places counts₀ : List ℕ} where
  pub raising_none : Raising κ m notes places counts₀ 0 counts₀
  unfolding tally
  raising_none = record {
    raised = λ rule K label ks f l. record { long = refl; tallied = λ g b. refl; rest = refl };
  }

  module _ (y : Known m notes places counts₀) {o : ℕ} {counts : List ℕ} (long : length counts ≡ length counts₀)
      (v : Raising κ m notes places counts₀ o counts) (h : o < m) where
    pub raising_known : get_or notes o 0 < 64 → {w : ℕ}
        → w ≡ counted_by κ (get_or notes o 0) (get_or counts (get_or places o 0) 0)
        → Raising κ m notes places counts₀ (o + 1) (set counts (get_or places o 0) w)
    raising_known s {w} e = record {
      raised = λ rule K label ks f l.
          rw (add-one o, e)
          (raised_known κ rule K label ks f m notes places l o h (v.raised rule K label ks f l) s
          (rw long (y.counter_there o h s)));
    }

    pub raising_new : 64 ≤ get_or notes o 0 → Raising κ m notes places counts₀ (o + 1) counts
    raising_new s = record {
      raised = λ rule K label ks f l.
          rw (add-one o) (raised_new κ rule K label ks f m notes places l o h (v.raised rule K label ks f l) s);
    }
