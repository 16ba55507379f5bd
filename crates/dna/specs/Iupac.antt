-- The IUPAC nucleotide code: each letter stands for a set of bases. Assumes nothing.
use Rattle.std.specs.Prelude.{ℕ, ◌-◌, Bool, true, cond, ◌&&◌, List, [], ◌∷◌, ◌++◌, leb}
use Prim.Native.String.{String}
use Rattle.dna.specs.Text.{bytes, among}

-- The sixteen letters, each with its bases in alphabetical order; U, uracil, stands where DNA has T.
abbrev pub code : List (String × String)
code =
    ("A", "A") ∷ ("C", "C") ∷ ("G", "G") ∷ ("T", "T") ∷ ("U", "T") ∷ ("N", "ACGT")
    ∷ ("R", "AG") ∷ ("Y", "CT") ∷ ("S", "CG") ∷ ("W", "AT") ∷ ("K", "GT") ∷ ("M", "AC")
    ∷ ("B", "CGT") ∷ ("D", "AGT") ∷ ("H", "ACT") ∷ ("V", "ACG") ∷ []

-- The base that each base pairs with.
abbrev pub pairs : List (String × String)
pairs = ("A", "T") ∷ ("C", "G") ∷ ("G", "C") ∷ ("T", "A") ∷ []

-- What stands beside a letter in a table; nothing where the letter is not in it.
unfoldable pub beside : ℕ → List (String × String) → List ℕ
beside b [] = []
beside b (row ∷ rows) = let rest = beside b rows in cond (among b (bytes row.0)) (bytes row.1) rest

-- A letter in upper case, any other byte as it is.
abbrev pub upper : ℕ → ℕ
upper b = cond (leb 97 b && leb b 122) (b - 32) b

-- The set of bases that a byte stands for, in either case; the empty set for what is no letter of the code.
unfoldable pub bases_of : ℕ → List ℕ
bases_of b = beside (upper b) code

-- Complement complements each base of a set; the order turns round, so that it is alphabetical again.
unfoldable pub complements : List ℕ → List ℕ
complements [] = []
complements (b ∷ s) = complements s ++ beside b pairs

-- A set holds every base of another.
unfoldable pub contains : List ℕ → List ℕ → Bool
contains s [] = true
contains s (b ∷ t) = among b s && contains s t

-- Opens this file's definitions to a proof that computes.
unfoldable pub open_iupac : Unit {0}
unfolding beside bases_of complements contains
open_iupac = tt
