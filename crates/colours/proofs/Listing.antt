-- A run list, run by run: what it is to keep the rules, and the last run at or before a vertex. Assumes nothing.
use mathlib.Core.Path.{◌≡◌, refl, ap, ◌∙◌}
use mathlib.Core.Bool.{Bool, true, false, false≢true, ◌&&◌}
use mathlib.Core.List.{List, [], ◌∷◌}
use mathlib.Core.Logic.{⊎_elim}
use Prim.Native.Nat.{ℕ, zero, suc, ◌+◌, ◌-◌, ◌≤◌, ◌<◌}
use native.Mathlib.Nat.{le_of_suc-le-suc, not-suc-le-zero}
use native.Mathlib.Numerals.{add-one}
use native.Mathlib.Omega.{arith}
use borrow.Author.Tests.{ltb-true, eqb-true, lt-ltb, le-ltb, le-leb, lt-leb, eq-eqb}
use lib.Dec.{ltb, eqb}
use lib.ListN.{length, get_or, take, drop, length-drop}
use lib.Seq.{drop-cons, get_or-drop}
use Rattle.std.proofs.lemmas.List.{take_rest}
use Rattle.lemmas.proofs.Numbers.{lt_or_ge}
use Rattle.lemmas.proofs.Tests.{both}
use Rattle.colours.specs.Packed.{offset_in, coordinate_in}
use Rattle.colours.specs.Runs.{offset_at, rises_from, sound_runs, Sound, Last, last_by}

no : (a b : Bool) → a && false && b ≡ false
no true b = refl
no false b = refl

-- The runs after the first, as a loop over them has them.
module _ (runs : List ℕ) where
  abbrev pub rest : List ℕ
  rest = take (length runs - 1) (drop 1 runs)

  pub rest_length : length rest ≡ length runs - 1
  rest_length = ap length (take_rest runs 1) ∙ length-drop 1 runs

  pub rest_at : (i : ℕ) → get_or rest i 0 ≡ get_or runs (i + 1) 0
  rest_at i =
      let e : 1 + i ≡ i + 1 = omega arith in
      ap (λ l. get_or l i 0) (take_rest runs 1) ∙ get_or-drop 1 runs i 0 ∙ rw e

module _ (kmers : ℕ) where
  -- No run, the first run, and one run more.
  pub sound_none : (runs : List ℕ) → length runs ≡ 0 → sound_runs kmers runs ≡ false
  unfolding sound_runs
  sound_none [] h = refl
  sound_none (r ∷ runs) h = absurd (omega arith)

  pub sound_first : (runs : List ℕ) → 0 < length runs
      → sound_runs kmers runs ≡ eqb (offset_at runs 0) 0 && ltb 0 kmers && rises_from 0 kmers (drop 1 runs)
  unfolding sound_runs
  sound_first [] h = absurd (not-suc-le-zero h)
  sound_first (r ∷ runs) h = refl

  module _ (runs : List ℕ) (offset i start : ℕ) (here : i < length runs) (e : start ≡ offset_at runs i) where
    abbrev behind : Bool
    behind = rises_from start kmers (drop (i + 1) runs)

    rises_next : rises_from offset kmers (drop i runs) ≡ ltb offset start && ltb start kmers && behind
    unfolding rises_from
    rises_next = rw (drop-cons runs i 0 here, add-one i, e)

    pub rises_not : start ≤ offset → rises_from offset kmers (drop i runs) ≡ false
    rises_not h = rises_next ∙ rw (le-ltb offset start h)

    pub rises_past : kmers ≤ start → rises_from offset kmers (drop i runs) ≡ false
    rises_past h = rises_next ∙ rw (le-ltb start kmers h) (no (ltb offset start) behind)

    pub rises_on : offset < start → start < kmers → rises_from offset kmers (drop i runs) ≡ behind
    rises_on h k = rises_next ∙ rw (lt-ltb offset start h, lt-ltb start kmers k)

  pub rises_end : (runs : List ℕ) (offset i : ℕ) → length runs ≤ i → rises_from offset kmers (drop i runs) ≡ true
  unfolding rises_from
  rises_end [] offset zero h = refl
  rises_end [] offset (suc i) h = refl
  rises_end (r ∷ runs) offset zero h = absurd (not-suc-le-zero h)
  rises_end (r ∷ runs) offset (suc i) h = rises_end runs offset i (le_of_suc-le-suc h)

  -- Offsets that rise from one are above it and below the number of k-mers, and each is above the one before.
  rises_here : (r : ℕ) (runs : List ℕ) (offset : ℕ) → rises_from offset kmers (r ∷ runs) ≡ true
      → (offset < offset_in r) × (offset_in r < kmers) × (rises_from (offset_in r) kmers runs ≡ true)
  unfolding rises_from
  rises_here r runs offset h =
      let b = both (ltb offset (offset_in r) && ltb (offset_in r) kmers) (rises_from (offset_in r) kmers runs) h in
      let a = both (ltb offset (offset_in r)) (ltb (offset_in r) kmers) b.0 in
      (ltb-true offset (offset_in r) a.0, ltb-true (offset_in r) kmers a.1, b.1)

  rises_at : (runs : List ℕ) (offset : ℕ) → rises_from offset kmers runs ≡ true
      → (i : ℕ) → i < length runs → (offset < offset_at runs i) × (offset_at runs i < kmers)
  rises_at [] offset h i l = absurd (not-suc-le-zero l)
  rises_at (r ∷ runs) offset h zero l = let t = rises_here r runs offset h in (t.0, t.1)
  rises_at (r ∷ runs) offset h (suc i) l =
      let t = rises_here r runs offset h in
      let s = rises_at runs (offset_in r) t.2 i (le_of_suc-le-suc l) in
      (omega (arith, t.0, s.0), s.1)

  rises_pair : (runs : List ℕ) (offset : ℕ) → rises_from offset kmers runs ≡ true
      → (i j : ℕ) → i < j → j < length runs → offset_at runs i < offset_at runs j
  rises_pair [] offset h i j k l = absurd (not-suc-le-zero l)
  rises_pair (r ∷ runs) offset h i zero k l = absurd (not-suc-le-zero k)
  rises_pair (r ∷ runs) offset h zero (suc j) k l =
      (rises_at runs (offset_in r) (rises_here r runs offset h).2 j (le_of_suc-le-suc l)).0
  rises_pair (r ∷ runs) offset h (suc i) (suc j) k l =
      rises_pair runs (offset_in r) (rises_here r runs offset h).2 i j (le_of_suc-le-suc k) (le_of_suc-le-suc l)

  rises : (runs : List ℕ) (offset : ℕ)
      → ((i : ℕ) → i < length runs → (offset < offset_at runs i) × (offset_at runs i < kmers))
      → ((i j : ℕ) → i < j → j < length runs → offset_at runs i < offset_at runs j)
      → rises_from offset kmers runs ≡ true
  unfolding rises_from
  rises [] offset a p = refl
  rises (r ∷ runs) offset a p =
      let f = a 0 (omega arith) in
      rw (lt-ltb offset (offset_in r) f.0, lt-ltb (offset_in r) kmers f.1)
      (rises runs (offset_in r) (λ i l. (p 0 (suc i) (omega arith) (omega arith), (a (suc i) (omega arith)).1))
      (λ i j k l. p (suc i) (suc j) (omega arith) (omega arith)))

  -- The test holds where the four rules hold, and nowhere else.
  pub sound_says : (runs : List ℕ) → sound_runs kmers runs ≡ true → Sound kmers runs
  unfolding sound_runs
  sound_says [] h = absurd (false≢true h)
  sound_says (r ∷ runs) h =
      let b = both (eqb (offset_in r) 0 && ltb 0 kmers) (rises_from 0 kmers runs) h in
      let a = both (eqb (offset_in r) 0) (ltb 0 kmers) b.0 in
      let z : offset_in r ≡ 0 = eqb-true (offset_in r) 0 a.0 in
      record {
        some = omega arith;
        first = z;
        ascend = pair z b.1;
        below = low z (ltb-true 0 kmers a.1) b.1;
      }
    where
      pair : offset_in r ≡ 0 → rises_from 0 kmers runs ≡ true
          → (i j : ℕ) → i < j → j < length (r ∷ runs) → offset_at (r ∷ runs) i < offset_at (r ∷ runs) j
      pair z s i zero k l = absurd (not-suc-le-zero k)
      pair z s zero (suc j) k l = omega (arith, z, (rises_at runs 0 s j (le_of_suc-le-suc l)).0)
      pair z s (suc i) (suc j) k l = rises_pair runs 0 s i j (le_of_suc-le-suc k) (le_of_suc-le-suc l)

      low : offset_in r ≡ 0 → 0 < kmers → rises_from 0 kmers runs ≡ true
          → (i : ℕ) → i < length (r ∷ runs) → offset_at (r ∷ runs) i < kmers
      low z n s zero l = omega (arith, z)
      low z n s (suc i) l = (rises_at runs 0 s i (le_of_suc-le-suc l)).1

  pub says_sound : (runs : List ℕ) → Sound kmers runs → sound_runs kmers runs ≡ true
  unfolding sound_runs
  says_sound [] s = absurd (not-suc-le-zero s.some)
  says_sound (r ∷ runs) s =
      let n : 0 < kmers = omega (arith, s.below 0 (omega arith)) in
      rw (eq-eqb (offset_in r) 0 s.first, lt-ltb 0 kmers n)
      (rises runs 0
      (λ i l. (
        omega (arith, s.first, s.ascend 0 (suc i) (omega arith) (omega arith)),
        s.below (suc i) (omega arith),
      ))
      (λ i j k l. s.ascend (suc i) (suc j) (omega arith) (omega arith)))

-- A run does not begin before the ones before it.
pub ascend_on : {kmers : ℕ} {runs : List ℕ} → Sound kmers runs → (i j : ℕ) → i ≤ j → j < length runs
    → offset_at runs i ≤ offset_at runs j
ascend_on s i j h l =
    ⊎_elim (λ (k : i < j). omega (arith, s.ascend i j k l))
    (λ (k : j ≤ i). let e : i ≡ j = omega arith in rw e (omega arith)) (lt_or_ge i j)

module _ (vertex : ℕ) where
  -- Runs behind a vertex change nothing.
  none_reach : (runs : List ℕ) (c : ℕ) → ((j : ℕ) → j < length runs → vertex < offset_at runs j)
      → last_by vertex c runs ≡ c
  unfolding last_by
  none_reach [] c h = refl
  none_reach (r ∷ runs) c h =
      rw (lt-leb (offset_in r) vertex (h 0 (omega arith))) (none_reach runs c (λ j l. h (suc j) (omega arith)))

  -- The colour found is that of the last run at or before the vertex.
  pub last_found : (runs : List ℕ) (c i : ℕ) → Last vertex runs i
      → last_by vertex c runs ≡ coordinate_in (get_or runs i 0)
  unfolding last_by
  last_found [] c i l = absurd (not-suc-le-zero l.within)
  last_found (r ∷ runs) c zero l =
      rw (le-leb (offset_in r) vertex l.reached)
      (none_reach runs (coordinate_in r) (λ j k. l.later (suc j) (omega arith) (omega arith)))
  last_found (r ∷ runs) c (suc i) l =
      last_found runs _ i
      (record {
        within = le_of_suc-le-suc l.within;
        reached = l.reached;
        later = λ j k m. l.later (suc j) (omega arith) (omega arith);
      })
