-- Where the lines and the records of a FASTA text stand. Assumes nothing.
use Rattle.std.specs.Prelude.{ℕ, suc, ◌-◌, ◌≤◌, ◌<◌, ◌≡◌, Bool, true, false, List, ◌∷◌, length, get_or, drop}
use Rattle.dna.specs.Text.{among, part}
use Rattle.rules.specs.Listing.{Listing, holds, no_list, Lists}

-- The line that begins at a place ends at r: there is a newline, or the text's end.
pub record LineEnds (text : List ℕ) (at r : ℕ) : Type 0 where
  pub behind : at ≤ r
  pub within : r ≤ length text
  pub line : among 10 (part text at (r - at)) ≡ false
  pub stop : r < length text → get_or text r 0 ≡ 10

-- A text holds a list.
abbrev pub is_held : Listing → Bool
is_held (holds ls) = true
is_held no_list = false

-- From a place on a text holds a list of at least one label.
pub record Recorded (text : List ℕ) (at : ℕ) : Type 0 where
  pub K : ℕ
  pub label : List ℕ
  pub labels : List (List ℕ)
  pub lists : Lists K (drop at text) (label ∷ labels)

-- The first of them stands from start up to end, and the others behind its newline.
pub record Spans (text : List ℕ) (at start end : ℕ) : Type 0 where
  pub ordered : start ≤ end
  pub within : end < length text
  pub on : at < end
  pub first : (K : ℕ) (l : List ℕ) (ls : List (List ℕ)) → Lists K (drop at text) (l ∷ ls)
      → (l ≡ part text start (end - start))
      × Lists K (drop (suc end) text) ls
