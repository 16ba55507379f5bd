-- A part of a label has no k-mer more often than the label, and two labels of a list not more often than the list.
-- Assumes nothing.
use mathlib.Core.Path.{◌≡◌, ap}
use mathlib.Core.Logic.{⊎_elim}
use mathlib.Core.Bool.{cond}
use mathlib.Core.List.{List, [], ◌∷◌, ◌++◌}
use Prim.Native.Nat.{ℕ, zero, suc, ◌+◌, ◌≤◌, ◌<◌}
use native.Mathlib.Nat.{le_of_suc-le-suc, not-suc-le-zero}
use native.Mathlib.Omega.{arith}
use lib.Dec.{eqb}
use lib.ListN.{length, get_or, take, drop, take-append-drop, length-append}
use lib.Seq.{take-append-le}
use Rattle.lemmas.proofs.Numbers.{lt_or_ge}
use Rattle.dna.specs.Text.{part}
use Rattle.kmer.specs.Kmer.{packed, canon}
use Rattle.graph.specs.Sightings.{windows}
use Rattle.laws.specs.Windows.{windows_from, tally, occurs, occurrences}

module _ (K x : ℕ) where
  -- Whether the first window of a text is the k-mer, on either strand.
  abbrev first : List ℕ → ℕ
  first s = cond (eqb (canon K (packed (take K s))) x) 1 0

  occurs_short : (s : List ℕ) → length s < K → occurs K x s ≡ 0
  unfolding windows_from tally
  occurs_short s h = let e : windows K s ≡ 0 = omega arith in rw e

  occurs_cons : (b : ℕ) (s : List ℕ) → K ≤ suc (length s) → occurs K x (b ∷ s) ≡ first (b ∷ s) + occurs K x s
  unfolding windows_from tally
  occurs_cons b s h = let e : windows K (b ∷ s) ≡ suc (windows K s) = omega arith in rw e

  module _ (one : 1 ≤ K) where
    -- Without its first base,
    occurs_rest : (b : ℕ) (s : List ℕ) → occurs K x s ≤ occurs K x (b ∷ s)
    occurs_rest b s =
        ⊎_elim (λ l. omega (arith, occurs_short s (omega arith))) (λ l. omega (arith, occurs_cons b s (omega arith)))
        (lt_or_ge (suc (length s)) K)

    occurs_drop : (a : ℕ) (s : List ℕ) → occurs K x (drop a s) ≤ occurs K x s
    occurs_drop zero s = omega arith
    occurs_drop (suc a) [] = omega arith
    occurs_drop (suc a) (b ∷ s) = omega (arith, occurs_drop a s, occurs_rest b s)

    -- with more behind it,
    occurs_more : (s t : List ℕ) → occurs K x s ≤ occurs K x (s ++ t)
    occurs_more [] t = omega (arith, occurs_short [] one)
    occurs_more (b ∷ s) t =
        ⊎_elim (λ l. omega (arith, occurs_short (b ∷ s) l)) (longer (occurs_more s t)) (lt_or_ge (length (b ∷ s)) K)
      where
        longer : occurs K x s ≤ occurs K x (s ++ t) → K ≤ length (b ∷ s)
            → occurs K x (b ∷ s) ≤ occurs K x (b ∷ (s ++ t))
        longer h l =
            let same : first (b ∷ (s ++ t)) ≡ first (b ∷ s) =
            ap (λ (w : List ℕ). cond (eqb (canon K (packed w)) x) 1 0) (take-append-le K (b ∷ s) t l) in
            let m : K ≤ suc (length (s ++ t)) = rw (length-append s t) (omega arith) in
            omega (arith, occurs_cons b s l, occurs_cons b (s ++ t) m, same, h)

    -- and any part of a text.
    pub occurs_part : (s : List ℕ) (a L : ℕ) → occurs K x (part s a L) ≤ occurs K x s
    occurs_part s a L =
        let t : occurs K x (take L (drop a s)) ≤ occurs K x (drop a s) =
        rw (take-append-drop L (drop a s)) at (occurs_more (take L (drop a s)) (drop L (drop a s))) in
        omega (arith, t, occurs_drop a s)

  -- One label of a list, and two.
  pub one_of : (ls : List (List ℕ)) (i : ℕ) → i < length ls → occurs K x (get_or ls i []) ≤ occurrences K x ls
  unfolding occurrences
  one_of [] i h = absurd (not-suc-le-zero h)
  one_of (l ∷ ls) zero h = omega arith
  one_of (l ∷ ls) (suc i) h = omega (arith, one_of ls i (le_of_suc-le-suc h))

  pub two_of : (ls : List (List ℕ)) (i j : ℕ) → i < j → j < length ls
      → occurs K x (get_or ls i []) + occurs K x (get_or ls j []) ≤ occurrences K x ls
  unfolding occurrences
  two_of [] i j k h = absurd (not-suc-le-zero h)
  two_of (l ∷ ls) i zero k h = absurd (not-suc-le-zero k)
  two_of (l ∷ ls) zero (suc j) k h = omega (arith, one_of ls j (le_of_suc-le-suc h))
  two_of (l ∷ ls) (suc i) (suc j) k h = omega (arith, two_of ls i j (le_of_suc-le-suc k) (le_of_suc-le-suc h))
