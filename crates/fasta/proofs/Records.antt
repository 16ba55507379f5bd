-- The records one behind the other, and their sizes. Assumes nothing.
use mathlib.Core.Path.{◌≡◌, refl, sym, ap, ◌∙◌}
use mathlib.Core.Bool.{true, false≢true}
use mathlib.Core.List.{List, [], ◌∷◌, ◌++◌, append_assoc, append-nil}
use Prim.Native.Nat.{ℕ, zero, suc, ◌+◌, ◌≤◌, ◌<◌}
use native.Mathlib.Nat.{le_of_suc-le-suc, not-suc-le-zero}
use native.Mathlib.Numerals.{add-one}
use native.Mathlib.Omega.{arith}
use borrow.Author.Tests.{leb-true}
use lib.Dec.{leb}
use lib.ListN.{length, get_or, take, drop, length-append, length-take, length-drop}
use Rattle.lemmas.proofs.Tests.{both}
use Rattle.label_index.specs.Entries.{label_at, listed, within}
use Rattle.label_index.proofs.Entries.{listed_next}
use Rattle.graph.specs.Fasta.{record_of, records_of}
use Rattle.fasta.specs.Sizes.{size_of}

-- The record of one label.
pub length_record : (label : List ℕ) → length (record_of label) ≡ length label + 4
length_record label = simp length-append (omega arith)

-- The size of one record more.
pub sizes_next : (i : ℕ) (lengths : List ℕ) → i < length lengths
    → size_of (i + 1) lengths ≡ size_of i lengths + (get_or lengths i 0 + 4)
unfolding size_of
sizes_next i lengths h = ap (λ (k : ℕ). size_of k lengths) (add-one i) ∙ go i lengths h
  where
    go : (i : ℕ) (lengths : List ℕ) → i < length lengths
        → size_of (suc i) lengths ≡ size_of i lengths + (get_or lengths i 0 + 4)
    go i [] h = absurd (not-suc-le-zero h)
    go zero (n ∷ lengths) h = omega arith
    go (suc i) (n ∷ lengths) h = omega (arith, go i lengths (le_of_suc-le-suc h))

-- More records are no smaller.
pub sizes_le : (i count : ℕ) (lengths : List ℕ) → i ≤ count → size_of i lengths ≤ size_of count lengths
unfolding size_of
sizes_le zero count lengths h = omega arith
sizes_le (suc i) zero lengths h = absurd (not-suc-le-zero h)
sizes_le (suc i) (suc count) [] h = omega arith
sizes_le (suc i) (suc count) (n ∷ lengths) h = omega (arith, sizes_le i count lengths (le_of_suc-le-suc h))

-- One label more is one record more.
records_last : (ls : List (List ℕ)) (l : List ℕ) → records_of (ls ++ (l ∷ [])) ≡ records_of ls ++ record_of l
unfolding records_of
records_last [] l = append-nil (record_of l)
records_last (m ∷ ls) l = ap (λ (text : List ℕ). record_of m ++ text) (records_last ls l)
    ∙ sym (append_assoc (record_of m) (records_of ls) (record_of l))

module _ (labels : List ℕ) where
  -- One entry more is one record more.
  pub records_next : (i : ℕ) (starts lengths : List ℕ) → i < length starts → i < length lengths
      → records_of (listed (i + 1) labels starts lengths)
      ≡ records_of (listed i labels starts lengths) ++ record_of (label_at labels starts lengths i)
  records_next i starts lengths hs hl =
      ap records_of (listed_next labels i starts lengths hs hl)
      ∙ records_last (listed i labels starts lengths) (label_at labels starts lengths i)

  -- The label of an entry that lies within the labels.
  pub length_label : (s n : ℕ) → s + n ≤ length labels → length (take n (drop s labels)) ≡ n
  length_label s n h = simp (length-take, length-drop) (omega arith)

  -- Where the entries lie within the labels, the lengths tell the size.
  pub records_size : (count : ℕ) (starts lengths : List ℕ) → within labels count starts lengths ≡ true
      → length (records_of (listed count labels starts lengths)) ≡ size_of count lengths
  unfolding records_of listed size_of within
  records_size zero starts lengths w = refl
  records_size (suc count) [] lengths w = absurd (false≢true w)
  records_size (suc count) (s ∷ starts) [] w = absurd (false≢true w)
  records_size (suc count) (s ∷ starts) (n ∷ lengths) w =
      let b = both (leb (s + n) (length labels)) (within labels count starts lengths) w in
      let label = take n (drop s labels) in
      omega (
        arith,
        length-append (record_of label) (records_of (listed count labels starts lengths)),
        length_record label,
        length_label s n (leb-true (s + n) (length labels) b.0),
        records_size count starts lengths b.1,
      )
