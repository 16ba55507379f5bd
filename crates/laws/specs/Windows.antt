-- The windows of labels, and how often a k-mer occurs in them. Assumes nothing.
use Rattle.std.specs.Prelude.{ℕ, zero, suc, ◌+◌, ◌<◌, ◌≡◌, true, cond, List, [], ◌∷◌, map, eqb, take, drop}
use Rattle.dna.specs.Text.{bytes, among}
use Rattle.kmer.specs.Kmer.{packed, canon, forward}
use Rattle.graph.specs.Sightings.{windows}

-- The first m windows of a text, as numbers.
unfoldable pub windows_from : ℕ → ℕ → List ℕ → List ℕ
windows_from K zero text = []
windows_from K (suc m) text = packed (take K text) ∷ windows_from K m (drop 1 text)

-- All windows of a text.
abbrev pub windows_of : ℕ → List ℕ → List ℕ
windows_of K text = windows_from K (windows K text) text

-- How often a number stands in a list.
unfoldable pub tally : ℕ → List ℕ → ℕ
tally x [] = 0
tally x (y ∷ ys) = cond (eqb y x) 1 0 + tally x ys

-- A k-mer occurs once at each window whose canonical form it is.
abbrev pub occurs : ℕ → ℕ → List ℕ → ℕ
occurs K x label = tally x (map (canon K) (windows_of K label))

unfoldable pub occurrences : ℕ → ℕ → List (List ℕ) → ℕ
occurrences K x [] = 0
occurrences K x (l ∷ ls) = occurs K x l + occurrences K x ls

-- The k-mers that follow k-mer x by some bases, one after the other.
unfoldable pub onward : ℕ → ℕ → List ℕ → List ℕ
onward K x [] = []
onward K x (b ∷ bs) = forward K x b ∷ onward K (forward K x b) bs

-- Every code is a base's.
abbrev pub Codes : List ℕ → Type 0
Codes [] = Unit {0}
Codes (b ∷ bs) = (b < 4) × Codes bs

-- Every letter is A, C, G or T.
abbrev pub Plain : List ℕ → Type 0
Plain [] = Unit {0}
Plain (b ∷ s) = (among b (bytes "ACGT") ≡ true) × Plain s

-- Opens this file's definitions to a proof that computes.
unfoldable pub open_windows : Unit {0}
unfolding windows_from tally occurrences onward
open_windows = tt
