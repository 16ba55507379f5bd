-- What an open label and the lines behind it make of the file. Assumes nothing.
use mathlib.Core.Path.{◌≡◌, refl, sym, ap}
use mathlib.Core.Bool.{Bool, true, false}
use mathlib.Core.List.{List, [], ◌∷◌, ◌++◌, append-nil}
use Prim.Native.Nat.{ℕ, ◌+◌, ◌≤◌, ◌<◌}
use native.Mathlib.Nat.{not-suc-le-zero}
use native.Mathlib.Omega.{arith}
use lib.ListN.{length, length-append}
use Rattle.lemmas.proofs.Tests.{choose}
use Rattle.label_text.specs.Lines.{is_header, sequences, filled}
use Rattle.label_text.specs.Packing.{label_record, label_records}
use Rattle.label_text.specs.Says.{left}

-- The record of a label alone, where it has letters.
pub one_record : (l : List ℕ) → 0 < length l → label_records (filled (l ∷ [])) ≡ label_record l
unfolding label_records filled
one_record [] h = absurd (not-suc-le-zero h)
one_record (b ∷ l) h = rw append-nil

-- A label in front of others.
first_record : (l : List ℕ) (ls : List (List ℕ))
    → label_records (filled (l ∷ ls)) ≡ label_records (filled (l ∷ [])) ++ label_records (filled ls)
unfolding label_records filled
first_record [] ls = refl
first_record (b ∷ l) ls = ap (λ (r : List ℕ). r ++ label_records (filled ls)) (sym (one_record (b ∷ l) (omega arith)))

module _ (l : List ℕ) where
  -- No line is left.
  pub left_end : (fasta : Bool) → left fasta l [] ≡ filled (l ∷ [])
  unfolding left sequences
  left_end true = refl
  left_end false = refl

  module _ (x : List ℕ) (ls : List (List ℕ)) where
    -- A header ends the label.
    pub left_header : is_header x ≡ true
        → label_records (left true l (x ∷ ls)) ≡ label_records (filled (l ∷ [])) ++ label_records (left true [] ls)
    unfolding left sequences
    left_header h = rw h (first_record l (sequences [] ls))

    -- Another line goes on with it.
    pub left_joined : is_header x ≡ false → left true l (x ∷ ls) ≡ left true (l ++ x) ls
    unfolding left sequences
    left_joined h = rw h

  -- In a plain text the label ends with its line.
  pub left_plain : (ls : List (List ℕ))
      → label_records (left false [] (l ∷ ls)) ≡ label_records (filled (l ∷ [])) ++ label_records (left false [] ls)
  unfolding left filled
  left_plain ls = first_record l ls

-- The records are no shorter than that of the first label, where it has letters.
first_large : (l : List ℕ) (ls : List (List ℕ)) → 0 < length l → 4 + length l ≤ length (label_records (filled (l ∷ ls)))
unfolding label_records filled
first_large [] ls h = absurd (not-suc-le-zero h)
first_large (b ∷ l) ls h = omega (arith, length-append l (label_records (filled ls)))

-- Lines that are joined to it, and records behind it, only add to them.
joined_large : (l : List ℕ) (ls : List (List ℕ)) → 0 < length l
    → 4 + length l ≤ length (label_records (filled (sequences l ls)))
unfolding sequences
joined_large l [] h = first_large l [] h
joined_large l (x ∷ ls) h =
    choose (λ (s : List (List ℕ)). 4 + length l ≤ length (label_records (filled s))) (is_header x)
    (λ _. first_large l (sequences [] ls) h)
    (λ _. omega (arith, length-append l x, joined_large (l ++ x) ls (omega (arith, length-append l x))))

pub left_large : (fasta : Bool) (l : List ℕ) (ls : List (List ℕ)) → 0 < length l
    → 4 + length l ≤ length (label_records (left fasta l ls))
unfolding left
left_large true l ls h = joined_large l ls h
left_large false l ls h = first_large l ls h
