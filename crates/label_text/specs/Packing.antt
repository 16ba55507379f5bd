-- Labels as a label file. Assumes nothing.
use Rattle.std.specs.Prelude.{ℕ, ◌/◌, ◌%◌, cond, List, [], ◌∷◌, ◌++◌, ltb, length, Result, Ok, Err}
use Rattle.dna.specs.Text.{bytes, over}
use Rattle.label_text.specs.Lines.{is_mixed, labels_in}
use Rattle.label_text.specs.declared.PackError.{PackError}
use Rattle.label_text.specs.declared.PackError.TheVariants as pack

-- The low sixteen bits of a number in two bytes, low byte first.
abbrev pub two_bytes : ℕ → List ℕ
two_bytes n = n % 256 ∷ n / 256 % 256 ∷ []

-- The `KC` record: K in one byte, the cutoff in four, low byte first.
abbrev pub head_record : ℕ → ℕ → List ℕ
head_record K cutoff = bytes "KC" ++ (K ∷ []) ++ two_bytes cutoff ++ two_bytes (cutoff / 65536)

-- The `LB` record of a label: its length in two bytes, low byte first, then the label.
abbrev pub label_record : List ℕ → List ℕ
label_record l = bytes "LB" ++ two_bytes (length l) ++ l

-- The records of labels, one behind the other.
unfoldable pub label_records : List (List ℕ) → List ℕ
label_records [] = []
label_records (l ∷ ls) = label_record l ++ label_records ls

-- The label file that says K, a cutoff and labels.
unfoldable pub packed : ℕ → ℕ → List (List ℕ) → List ℕ
packed K cutoff labels = head_record K cutoff ++ label_records labels

-- What packing answers, and the slice afterwards.
pub record Packing : Type 0 where
  pub answer : Result ℕ PackError
  pub slice : List ℕ

-- A text's label file in a slice; and, where nothing is written, that the text is mixed, that the file exceeds 16,384
-- bytes, or that it exceeds the slice.
unfoldable pub pack_text : ℕ → ℕ → List ℕ → List ℕ → Packing
pack_text K cutoff text slice =
    let file = packed K cutoff (labels_in text) in
    cond (is_mixed text) (record { answer = Err pack.Mixed; slice = slice })
    (cond (ltb 16384 (length file)) (record { answer = Err pack.TooLarge; slice = slice })
    (cond (ltb (length slice) (length file)) (record { answer = Err pack.NoRoom; slice = slice })
    (record { answer = Ok (length file); slice = over file slice })))

-- Opens this file's definitions to a proof that computes.
unfoldable pub open_packing : Unit {0}
unfolding label_records packed pack_text
open_packing = tt
