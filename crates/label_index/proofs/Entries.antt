-- An index entry by entry: one entry more lists one label more; which entries lie within the text. Assumes nothing.
use mathlib.Core.Path.{◌≡◌, refl, ap}
use mathlib.Core.Bool.{true, false≢true}
use mathlib.Core.List.{List, [], ◌∷◌, ◌++◌}
use Prim.Native.Nat.{ℕ, zero, suc, ◌+◌, ◌≤◌, ◌<◌}
use native.Mathlib.Nat.{le_of_suc-le-suc, not-suc-le-zero}
use native.Mathlib.Numerals.{add-one}
use native.Mathlib.Omega.{arith}
use borrow.Author.Tests.{leb-true, le-leb}
use lib.Dec.{leb}
use lib.ListN.{length, get_or, take, drop, set}
use Rattle.lemmas.proofs.Tests.{both}
use Rattle.label_index.specs.Entries.{label_at, listed, within}

-- No more labels are listed than entries are asked for.
pub listed_few : (count : ℕ) (text starts lengths : List ℕ) → length (listed count text starts lengths) ≤ count
unfolding listed
listed_few zero text starts lengths = omega arith
listed_few (suc count) text [] lengths = omega arith
listed_few (suc count) text (s ∷ starts) [] = omega arith
listed_few (suc count) text (s ∷ starts) (n ∷ lengths) = omega (arith, listed_few count text starts lengths)

module _ (text : List ℕ) where
  listed_one : (i : ℕ) (starts lengths : List ℕ) → i < length starts → i < length lengths
      → listed (suc i) text starts lengths ≡ listed i text starts lengths ++ (label_at text starts lengths i ∷ [])
  unfolding listed
  listed_one i [] lengths a b = absurd (not-suc-le-zero a)
  listed_one i (s ∷ starts) [] a b = absurd (not-suc-le-zero b)
  listed_one zero (s ∷ starts) (n ∷ lengths) a b = refl
  listed_one (suc i) (s ∷ starts) (n ∷ lengths) a b =
      ap (λ (ls : List (List ℕ)). take n (drop s text) ∷ ls)
      (listed_one i starts lengths (le_of_suc-le-suc a) (le_of_suc-le-suc b))

  -- One entry more lists one label more.
  pub listed_next : (i : ℕ) (starts lengths : List ℕ) → i < length starts → i < length lengths
      → listed (i + 1) text starts lengths ≡ listed i text starts lengths ++ (label_at text starts lengths i ∷ [])
  listed_next i starts lengths a b = rw (add-one i) (listed_one i starts lengths a b)

  -- As many labels as entries are asked for,
  pub length_listed : (count : ℕ) (starts lengths : List ℕ) → count ≤ length starts → count ≤ length lengths
      → length (listed count text starts lengths) ≡ count
  unfolding listed
  length_listed zero starts lengths a b = refl
  length_listed (suc count) [] lengths a b = absurd (not-suc-le-zero a)
  length_listed (suc count) (s ∷ starts) [] a b = absurd (not-suc-le-zero b)
  length_listed (suc count) (s ∷ starts) (n ∷ lengths) a b =
      ap suc (length_listed count starts lengths (le_of_suc-le-suc a) (le_of_suc-le-suc b))

  -- and in each place that of its entry.
  pub listed_at : (count : ℕ) (starts lengths : List ℕ) → count ≤ length starts → count ≤ length lengths
      → (i : ℕ) → i < count → get_or (listed count text starts lengths) i [] ≡ label_at text starts lengths i
  unfolding listed
  listed_at zero starts lengths a b i l = absurd (not-suc-le-zero l)
  listed_at (suc count) [] lengths a b i l = absurd (not-suc-le-zero a)
  listed_at (suc count) (s ∷ starts) [] a b i l = absurd (not-suc-le-zero b)
  listed_at (suc count) (s ∷ starts) (n ∷ lengths) a b zero l = refl
  listed_at (suc count) (s ∷ starts) (n ∷ lengths) a b (suc i) l =
      listed_at count starts lengths (le_of_suc-le-suc a) (le_of_suc-le-suc b) i (le_of_suc-le-suc l)

  -- The entries are there.
  pub within_long : (count : ℕ) (starts lengths : List ℕ) → within text count starts lengths ≡ true
      → (count ≤ length starts) × (count ≤ length lengths)
  unfolding within
  within_long zero starts lengths h = (omega arith, omega arith)
  within_long (suc count) [] lengths h = absurd (false≢true h)
  within_long (suc count) (s ∷ starts) [] h = absurd (false≢true h)
  within_long (suc count) (s ∷ starts) (n ∷ lengths) h =
      let r = within_long count starts lengths
      (both (leb (s + n) (length text)) (within text count starts lengths) h).1 in
      (omega (arith, r.0), omega (arith, r.1))

  -- Each lies within the text.
  pub within_at : (count : ℕ) (starts lengths : List ℕ) → within text count starts lengths ≡ true
      → (i : ℕ) → i < count → get_or starts i 0 + get_or lengths i 0 ≤ length text
  unfolding within
  within_at zero starts lengths h i l = absurd (not-suc-le-zero l)
  within_at (suc count) [] lengths h i l = absurd (false≢true h)
  within_at (suc count) (s ∷ starts) [] h i l = absurd (false≢true h)
  within_at (suc count) (s ∷ starts) (n ∷ lengths) h zero l =
      leb-true (s + n) (length text) (both (leb (s + n) (length text)) (within text count starts lengths) h).0
  within_at (suc count) (s ∷ starts) (n ∷ lengths) h (suc i) l =
      within_at count starts lengths (both (leb (s + n) (length text)) (within text count starts lengths) h).1 i
      (le_of_suc-le-suc l)

  -- That is all that is asked.
  pub within_all : (count : ℕ) (starts lengths : List ℕ) → count ≤ length starts → count ≤ length lengths
      → ((i : ℕ) → i < count → get_or starts i 0 + get_or lengths i 0 ≤ length text)
      → within text count starts lengths ≡ true
  unfolding within
  within_all zero starts lengths a b h = refl
  within_all (suc count) [] lengths a b h = absurd (not-suc-le-zero a)
  within_all (suc count) (s ∷ starts) [] a b h = absurd (not-suc-le-zero b)
  within_all (suc count) (s ∷ starts) (n ∷ lengths) a b h =
      rw (le-leb (s + n) (length text) (h 0 (omega arith)))
      (within_all count starts lengths (le_of_suc-le-suc a) (le_of_suc-le-suc b) (λ i l. h (suc i) (omega arith)))

-- An entry that is stored behind the first i.
module _ (text : List ℕ) (s n : ℕ) where
  listed_suc : (i : ℕ) (starts lengths : List ℕ) → i < length starts → i < length lengths
      → listed (suc i) text (set starts i s) (set lengths i n)
      ≡ listed i text starts lengths ++ (take n (drop s text) ∷ [])
  unfolding listed
  listed_suc i [] lengths a b = absurd (not-suc-le-zero a)
  listed_suc i (t ∷ starts) [] a b = absurd (not-suc-le-zero b)
  listed_suc zero (t ∷ starts) (m ∷ lengths) a b = refl
  listed_suc (suc i) (t ∷ starts) (m ∷ lengths) a b =
      ap (λ (ls : List (List ℕ)). take m (drop t text) ∷ ls)
      (listed_suc i starts lengths (le_of_suc-le-suc a) (le_of_suc-le-suc b))

  pub listed_more : (i : ℕ) (starts lengths : List ℕ) → i < length starts → i < length lengths
      → listed (i + 1) text (set starts i s) (set lengths i n)
      ≡ listed i text starts lengths ++ (take n (drop s text) ∷ [])
  listed_more i starts lengths a b = rw (add-one i) (listed_suc i starts lengths a b)

  within_suc : s + n ≤ length text → (i : ℕ) (starts lengths : List ℕ) → i < length starts → i < length lengths
      → within text i starts lengths ≡ true → within text (suc i) (set starts i s) (set lengths i n) ≡ true
  unfolding within
  within_suc r i [] lengths a b w = absurd (not-suc-le-zero a)
  within_suc r i (t ∷ starts) [] a b w = absurd (not-suc-le-zero b)
  within_suc r zero (t ∷ starts) (m ∷ lengths) a b w = rw (le-leb (s + n) (length text) r)
  within_suc r (suc i) (t ∷ starts) (m ∷ lengths) a b w =
      let p = both (leb (t + m) (length text)) (within text i starts lengths) w in
      rw p.0 (within_suc r i starts lengths (le_of_suc-le-suc a) (le_of_suc-le-suc b) p.1)

  pub within_more : s + n ≤ length text → (i : ℕ) (starts lengths : List ℕ) → i < length starts → i < length lengths
      → within text i starts lengths ≡ true → within text (i + 1) (set starts i s) (set lengths i n) ≡ true
  within_more r i starts lengths a b w = rw (add-one i) (within_suc r i starts lengths a b w)
