-- The labels of a text that people write: FASTA, or one label a line. Assumes nothing.
use Rattle.std.specs.Prelude.{ℕ, ◌-◌, Bool, false, cond, not, ◌&&◌, ◌||◌, List, [], ◌∷◌, ◌++◌, eqb, length, take}
use Rattle.std.specs.Prelude.{get_or}

-- A line without a carriage return at its end, which some systems put before a newline.
abbrev pub trimmed : List ℕ → List ℕ
trimmed l = cond (eqb (get_or l (length l - 1) 0) 13) (take (length l - 1) l) l

-- The lines of a text, the first of which has begun with l.
unfoldable pub lines_from : List ℕ → List ℕ → List (List ℕ)
lines_from l [] = trimmed l ∷ []
lines_from l (b ∷ s) = cond (eqb b 10) (trimmed l ∷ lines_from [] s) (lines_from (l ++ (b ∷ [])) s)

-- A header of FASTA begins with `>`.
abbrev pub is_header : List ℕ → Bool
is_header l = eqb (get_or l 0 0) 62

-- The sequences of a FASTA text's lines: those between two headers are joined. The first sequence has begun with l.
unfoldable pub sequences : List ℕ → List (List ℕ) → List (List ℕ)
sequences l [] = l ∷ []
sequences l (x ∷ xs) = cond (is_header x) (l ∷ sequences [] xs) (sequences (l ++ x) xs)

-- Labels without the empty ones.
unfoldable pub filled : List (List ℕ) → List (List ℕ)
filled [] = []
filled ([] ∷ ls) = filled ls
filled ((b ∷ l) ∷ ls) = (b ∷ l) ∷ filled ls

-- A header's first byte is among some.
unfoldable pub has_mark : List ℕ → Bool
has_mark [] = false
has_mark (b ∷ s) = eqb b 62 || has_mark s

-- A text that has such a byte and does not begin with it is neither FASTA nor labels, one a line.
abbrev pub is_mixed : List ℕ → Bool
is_mixed text = not (is_header text) && has_mark text

-- A text that begins with `>` is FASTA; in another each line is a label.
unfoldable pub labels_in : List ℕ → List (List ℕ)
labels_in text = let lines = lines_from [] text in filled (cond (is_header text) (sequences [] lines) lines)

-- Opens this file's definitions to a proof that computes.
unfoldable pub open_lines : Unit {0}
unfolding lines_from sequences filled has_mark labels_in
open_lines = tt
