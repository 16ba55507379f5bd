-- What an answer says of a label, a probe starts there and at no place before, or none starts anywhere: the computed
-- answer says so, and no other does. Assumes nothing.
use Rattle.std.proofs.Common.{◌≡◌, ℕ, zero, suc, ◌+◌, ◌^◌, ◌<◌, ◌≤◌, true, false, leb, List, [], ◌∷◌, length, take, drop, refl, ⊎_elim, le_of_suc-le-suc, not-suc-le-zero, arith, length-drop, leb-true}
use lib.Seq.{drop-nil}
use Rattle.lemmas.proofs.Numbers.{lt_or_ge}
use Rattle.lemmas.proofs.Tests.{both, never, choose}
use Rattle.panel.specs.Probes.{gc_in, between, none, begins, first_from, first_probe}
use Rattle.panel.specs.Probes.{First, First.found, First.nowhere}
use Rattle.panel.proofs.Starts.{short_not}

module _ (L least most : ℕ) where
  -- Where a probe starts there are L bases.
  begins_long : (s : List ℕ) → begins L least most s ≡ true → L ≤ length s
  unfolding begins
  begins_long s b = leb-true L (length s) (both (leb L (length s)) (between least (gc_in (take L s)) most) b).0

  -- An answer r for a text whose first base has number i.
  data From (s : List ℕ) (i r : ℕ) : Type 0 where
    at : (a : ℕ) → r ≡ i + a → begins L least most (drop a s) ≡ true
        → ((j : ℕ) → j < a → begins L least most (drop j s) ≡ false) → From s i r
    absent : r ≡ none → ((j : ℕ) → begins L least most (drop j s) ≡ false) → From s i r

  -- One label says one answer.
  pub first_one : (label : List ℕ) {r s : ℕ} → First L least most label r → First L least most label s → r ≡ s
  first_one label (found {i} t n) (found {i = j} u m) =
      ⊎_elim (λ h. never (begins L least most (drop i label)) t (m i h))
      (λ h. ⊎_elim (λ l. never (begins L least most (drop j label)) u (n j l)) (λ l. omega arith) (lt_or_ge j i))
      (lt_or_ge i j)
  first_one label (found {i} t n) (nowhere m) = never (begins L least most (drop i label)) t (m i)
  first_one label (nowhere n) (found {i = j} u m) = never (begins L least most (drop j label)) u (n j)
  first_one label (nowhere n) (nowhere m) = refl

  module _ (some : 0 < L) where
    empty : (j : ℕ) → begins L least most (drop j []) ≡ false
    empty j = rw (drop-nil {A = ℕ} j) (short_not L least most [] some)

    -- What holds of the rest, and of the first place, holds of all.
    behind : (b : ℕ) (s : List ℕ) (i : ℕ) {r : ℕ} → begins L least most (b ∷ s) ≡ false → From s (suc i) r
        → From (b ∷ s) i r
    behind b s i {r} f (at a e t n) = at (suc a) (omega (arith, e)) t earlier
      where
        earlier : (j : ℕ) → j < suc a → begins L least most (drop j (b ∷ s)) ≡ false
        earlier zero h = f
        earlier (suc j) h = n j (le_of_suc-le-suc h)
    behind b s i f (absent e n) = absent e later
      where
        later : (j : ℕ) → begins L least most (drop j (b ∷ s)) ≡ false
        later zero = f
        later (suc j) = n j

    from : (i : ℕ) (s : List ℕ) → From s i (first_from L least most i s)
    unfolding first_from
    from i [] = absent refl empty
    from i (b ∷ s) =
        choose (From (b ∷ s) i) (begins L least most (b ∷ s))
        (λ t. at 0 (omega arith) t (λ j h. absurd (not-suc-le-zero h))) (λ f. behind b s i f (from (suc i) s))

    module _ (label : List ℕ) where
      -- The answer for a label says what it should.
      pub first_says : First L least most label (first_probe L least most label)
      first_says = go (from 0 label)
        where
          go : {r : ℕ} → From label 0 r → First L least most label r
          go {r} (at a e t n) = let f : r ≡ a = omega (arith, e) in rw f (found t n)
          go (absent e n) = rw e (nowhere n)

      -- A probe lies within its label.
      inside : (i : ℕ) → begins L least most (drop i label) ≡ true → i + L ≤ length label
      inside i t = omega (arith, begins_long (drop i label) t, length-drop i label, some)

      -- An answer that is not none is the start of a probe;
      pub some_says : {r : ℕ} → First L least most label r → (r ≡ none → ⊥)
          → (begins L least most (drop r label) ≡ true) × (r + L ≤ length label)
      some_says (found {i} t n) x = (t, inside i t)
      some_says (nowhere n) x = absurd (x refl)

      -- none is the answer exactly where no probe starts, since a start is smaller.
      pub none_says : length label < 2 ^ 32 → {r : ℕ} → First L least most label r → r ≡ none
          → (j : ℕ) → begins L least most (drop j label) ≡ false
      none_says h (found {i} t n) e = absurd (omega (arith, e, inside i t, some))
      none_says h (nowhere n) e = n

      pub says_none : {r : ℕ} → First L least most label r → ((j : ℕ) → begins L least most (drop j label) ≡ false)
          → r ≡ none
      says_none f n = first_one label f (nowhere n)
