-- What the parts of packing say. Assumes nothing.
use Rattle.std.specs.Prelude.{ℕ, ◌+◌, ◌≤◌, ◌<◌, ◌≡◌, Bool, true, false, List, [], ◌∷◌, ◌++◌, length, take, Result, Ok}
use Rattle.std.specs.Prelude.{Err}
use Rattle.dna.specs.Text.{part}
use Rattle.label_text.specs.Lines.{sequences, filled, labels_in}
use Rattle.label_text.specs.Packing.{label_records, packed}
use Rattle.label_text.specs.declared.TooLarge.{TooLarge}
use Rattle.label_text.specs.declared.packing.Open.{Open}

-- The labels that come of an open label and the lines behind it: in FASTA they are joined to it up to the next header;
-- in a plain text each is a label of its own.
unfoldable pub left : Bool → List ℕ → List (List ℕ) → List (List ℕ)
left true l ls = filled (sequences l ls)
left false l ls = filled (l ∷ ls)

-- The file that is to come of the records closed before a place, the open label four bytes behind it, and the lines
-- left.
abbrev pub whole : Bool → List ℕ → ℕ → ℕ → List (List ℕ) → List ℕ
whole fasta out at size ls = take at out ++ label_records (left fasta (part out (at + 4) size) ls)

-- The records closed and the open label, where it has letters, lie within the file.
pub record Room (out : List ℕ) (at size : ℕ) : Type 0 where
  pub long : length out ≡ 16384
  pub inside : at ≤ 16384
  pub letters : (size ≡ 0 → ⊥) → at + 4 + size ≤ 16384

-- The open label has become a record that ends at r, or was empty.
pub record Closes (out : List ℕ) (at size r : ℕ) (out' : List ℕ) : Type 0 where
  pub room : Room out' r 0
  pub text : take r out' ≡ take at out ++ label_records (filled (part out (at + 4) size ∷ []))

-- The open label has grown to n letters, by a line.
pub record Grows (line out : List ℕ) (at size a n : ℕ) (out' : List ℕ) : Type 0 where
  pub place : a ≡ at
  pub room : Room out' a n
  pub closed : take a out' ≡ take at out
  pub letters : part out' (a + 4) n ≡ part out (at + 4) size ++ line

-- The open label has grown by a line, or the line has letters and reaches past 16,384 bytes.
abbrev pub Joins : List ℕ → List ℕ → ℕ → ℕ → Result Open TooLarge → List ℕ → Type 0
Joins line out at size (Ok o) out' = Grows line out at size o.at o.size out'
Joins line out at size (Err e) out' = (0 < length line) × (16384 < at + 4 + size + length line)

-- A line is taken: the file that is to come stays the same, whatever lines follow.
pub record Goes (fasta : Bool) (line out : List ℕ) (at size a n : ℕ) (out' : List ℕ) : Type 0 where
  pub room : Room out' a n
  pub plain : fasta ≡ false → n ≡ 0
  pub same : (ls : List (List ℕ)) → whole fasta out at size (line ∷ ls) ≡ whole fasta out' a n ls

-- A line is taken, or the file would be larger than 16,384 bytes, whatever lines follow.
abbrev pub Takes : Bool → List ℕ → List ℕ → ℕ → ℕ → Result Open TooLarge → List ℕ → Type 0
Takes fasta line out at size (Ok o) out' = Goes fasta line out at size o.at o.size out'
Takes fasta line out at size (Err e) out' = (ls : List (List ℕ)) → 16384 < length (whole fasta out at size (line ∷ ls))

-- The label file of a text, from the first byte on, or that it is larger than 16,384 bytes.
abbrev pub Measures : ℕ → ℕ → List ℕ → Result ℕ TooLarge → List ℕ → Type 0
Measures K cutoff text (Ok n) out =
    (n ≡ length (packed K cutoff (labels_in text))) × (n ≤ 16384) × (take n out ≡ packed K cutoff (labels_in text))
Measures K cutoff text (Err e) out = 16384 < length (packed K cutoff (labels_in text))
