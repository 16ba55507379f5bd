-- The label file: a `KC` record with K and the cutoff, then `LB` records with a label each. Assumes nothing.
use Rattle.std.specs.Prelude.{ℕ, zero, suc, ◌+◌, ◌*◌, Bool, cond, ◌&&◌, List, [], ◌∷◌, leb, eqb, length, take, drop}
use Rattle.std.specs.Prelude.{get_or}
use Rattle.dna.specs.Text.{bytes}

-- What a file says, K, the cutoff and the labels, or the number of its first bad record, from 0.
pub data LabelFile : Type 0 where
  damaged : ℕ → LabelFile
  holds : ℕ → ℕ → List (List ℕ) → LabelFile

-- A text begins with the two bytes of a mark.
abbrev pub marked : List ℕ → List ℕ → Bool
marked mark s = leb 2 (length s) && eqb (get_or s 0 0) (get_or mark 0 0) && eqb (get_or s 1 0) (get_or mark 1 0)

-- Two bytes from place i on, low byte first.
abbrev pub two : List ℕ → ℕ → ℕ
two s i = get_or s i 0 + 256 * get_or s (i + 1) 0

-- `KC`: K in one byte, the cutoff in four, low byte first.
abbrev pub headed : List ℕ → Bool
headed s = marked (bytes "KC") s && leb 7 (length s)

-- `LB`: the length in two bytes, low first, then the label.
abbrev pub labelled : List ℕ → Bool
labelled s = marked (bytes "LB") s && leb 4 (length s) && leb (4 + two s 2) (length s)

-- A label in front of those of the records behind it, unless one of them is bad.
abbrev pub with : List ℕ → LabelFile → LabelFile
with label (damaged i) = damaged i
with label (holds K cutoff labels) = holds K cutoff (label ∷ labels)

-- What the `LB` records from number i on say, at most so many of them.
unfoldable pub labels_from : ℕ → ℕ → ℕ → ℕ → List ℕ → LabelFile
labels_from K cutoff zero i s = holds K cutoff []
labels_from K cutoff (suc most) i [] = holds K cutoff []
labels_from K cutoff (suc most) i (b ∷ bs) =
    let s = b ∷ bs in
    let rest = with (take (two s 2) (drop 4 s)) (labels_from K cutoff most (suc i) (drop (4 + two s 2) s)) in
    cond (labelled s) rest (damaged i)

-- K and the cutoff, as the first record says.
abbrev pub k_in : List ℕ → ℕ
k_in s = get_or s 2 0

abbrev pub cutoff_in : List ℕ → ℕ
cutoff_in s = two s 3 + 65536 * two s 5

-- A file over 16,384 bytes, an empty one, and one that does not begin with a whole `KC` record, is damaged at record 0.
unfoldable pub file_of : List ℕ → LabelFile
file_of s = cond (leb (length s) 16384 && headed s) (labels_from (k_in s) (cutoff_in s) (length s) 1 (drop 7 s)) (damaged 0)

-- The labels that a file holds; none where it is damaged.
abbrev pub labels_of : LabelFile → List (List ℕ)
labels_of (damaged i) = []
labels_of (holds K cutoff labels) = labels

-- Opens this file's definitions to a proof that computes.
unfoldable pub open_label_file : Unit {0}
unfolding labels_from file_of
open_label_file = tt
