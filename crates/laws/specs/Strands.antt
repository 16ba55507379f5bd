-- Labels read on either strand, and what may then differ. Assumes nothing.
use Rattle.std.specs.Prelude.{ℕ, ◌≡◌, List, [], ◌∷◌, map}
use Rattle.dna.specs.Answer.{refuses}
use Rattle.dna.specs.Letters.{code_of, reverse_complement}
use Rattle.graph.specs.Adding.{Added}
use Rattle.graph.specs.Several.{Several}

-- The second label reads as the first or as its reverse complement; in either case, and U as T.
pub data EitherStrand (l m : List ℕ) : Type 0 where
  kept : map code_of m ≡ map code_of l → EitherStrand l m
  turned : map code_of m ≡ map code_of (reverse_complement l) → EitherStrand l m

-- As many labels, each so.
pub data Turned : List (List ℕ) → List (List ℕ) → Type 0 where
  none : Turned [] []
  more : {l m : List ℕ} {ls ms : List (List ℕ)} → EitherStrand l m → Turned ls ms → Turned (l ∷ ls) (m ∷ ms)

-- Of one label: the answer and both slices are the same, but that the place and byte of refusal 3 may differ.
pub data Alike : Added → Added → Type 0 where
  same : {a : Added} → Alike a a
  no_base : {beside beside' keys counts : List ℕ}
      → Alike (record { answer = refuses 3 beside; keys = keys; counts = counts }) (record { answer = refuses 3 beside'; keys = keys; counts = counts })

-- Of many, tried in order: the last answer, how many were added, the number stored and both slices, but for such a place and byte.
pub data AllAlike : Several → Several → Type 0 where
  all_same : {s : Several} → AllAlike s s
  last_no_base : {beside beside' : List ℕ} {labels stored : ℕ} {keys counts : List ℕ}
      → AllAlike
      (record { answer = refuses 3 beside; labels = labels; stored = stored; keys = keys; counts = counts })
      (record { answer = refuses 3 beside'; labels = labels; stored = stored; keys = keys; counts = counts })
