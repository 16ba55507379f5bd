-- A directory of a table's keys: beside each run of leading bases, the place up to which keys begin with it. It is a
-- hint: what is looked up by it is tested. Assumes nothing.
use Rattle.std.specs.Prelude.{ℕ, suc, ◌-◌, ◌/◌, ◌%◌, ◌^◌, Bool, true, cond, ◌&&◌, ◌||◌, List, [], ◌∷◌, ltb, leb, eqb, length, get_or, set, Result, Ok, Err}
use Rattle.table.specs.Search.{find_between, find_in}

-- How many leading bases a directory of so many cells tells apart: it has a cell for each of their runs, and one more.
-- None where it has too few.
abbrev pub bases_of : ℕ → ℕ
bases_of cells = cond (ltb 16384 cells) 7 (cond (ltb 4096 cells) 6 (cond (ltb 1024 cells) 5 0))

-- How many cells a directory of n keys is worth: more would take longer to make than they save.
unfoldable pub cells_for : ℕ → ℕ
cells_for n = cond (leb n 2048) 1025 (cond (leb n 8192) 4097 16385)

-- The first b bases of a k-mer as a number; of a k-mer with fewer, all.
abbrev pub slot_of : ℕ → ℕ → ℕ → ℕ
slot_of b K x = x / 4 ^ (K - b) % 4 ^ b

-- Beside each slot, one cell further on, the number of keys up to the last that is in it.
unfoldable pub tallied : (ℕ → ℕ) → ℕ → List ℕ → List ℕ → List ℕ
tallied slot i [] cells = cells
tallied slot i (x ∷ ks) cells = tallied slot (suc i) ks (set cells (suc (slot x)) (suc i))

-- Each cell the largest up to it.
unfoldable pub spread : ℕ → List ℕ → List ℕ
spread most [] = []
spread most (c ∷ cells) = cond (ltb c most) (most ∷ spread most cells) (c ∷ spread c cells)

-- The directory of some keys made in cells that are there; nothing where they are too few.
abbrev pub directory_of : ℕ → List ℕ → List ℕ → List ℕ
directory_of K ks cells =
    cond (ltb 1024 (length cells)) (spread 0 (tallied (slot_of (bases_of (length cells)) K) 0 ks cells)) cells

-- x is below the key at a place, if there is one; above the key before it, if there is one.
abbrev pub before : List ℕ → ℕ → ℕ → Bool
before ks x i = leb (length ks) i || ltb x (get_or ks i 0)

abbrev pub behind : List ℕ → ℕ → ℕ → Bool
behind ks x i = eqb i 0 || ltb (get_or ks (i - 1) 0) x

-- The keys beside a place say that x is there, or would be.
unfoldable pub stands : List ℕ → ℕ → Result ℕ ℕ → Bool
stands ks x (Ok i) = true
stands ks x (Err i) = before ks x i && behind ks x i

-- Where x stands between the places that its slot has in a directory.
abbrev pub hinted : ℕ → List ℕ → List ℕ → ℕ → Result ℕ ℕ
hinted K ks cells x =
    find_between ks (get_or cells (slot_of (bases_of (length cells)) K x) 0)
    (get_or cells (suc (slot_of (bases_of (length cells)) K x)) 0) x

-- Where x stands: as its slot says if the keys confirm it, else by a search among all.
abbrev pub find_by : ℕ → List ℕ → List ℕ → ℕ → Result ℕ ℕ
find_by K ks cells x =
    cond (ltb 1024 (length cells) && stands ks x (hinted K ks cells x)) (hinted K ks cells x) (find_in ks x)
