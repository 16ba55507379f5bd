-- The run list of a label, and the colours of its vertices. Assumes nothing.
use Rattle.std.specs.Prelude.{ℕ, zero, suc, ◌≤◌, ◌<◌, ◌≡◌, Bool, true, false, cond, ◌&&◌}
use Rattle.std.specs.Prelude.{List, [], ◌∷◌, ltb, leb, eqb, length, get_or}
use Rattle.dna.specs.Answer.{Answer, gives, refuses, Filled, fill}
use Rattle.colours.specs.Packed.{offset_in, coordinate_in}

-- The offset of run i of a list.
abbrev pub offset_at : List ℕ → ℕ → ℕ
offset_at runs i = offset_in (get_or runs i 0)

-- The offsets strictly ascend, the first of them above a given one, and are all below a label's number of k-mers.
unfoldable pub rises_from : ℕ → ℕ → List ℕ → Bool
rises_from offset kmers [] = true
rises_from offset kmers (r ∷ rs) =
    ltb offset (offset_in r) && ltb (offset_in r) kmers && rises_from (offset_in r) kmers rs

-- A run list of a label with so many k-mers: at least one run, the first at 0.
unfoldable pub sound_runs : ℕ → List ℕ → Bool
sound_runs kmers [] = false
sound_runs kmers (r ∷ rs) = eqb (offset_in r) 0 && ltb 0 kmers && rises_from 0 kmers rs

-- The four rules, a field each: at least one run, the first at 0, offsets that strictly ascend, all below the number
-- of k-mers.
pub record Sound (kmers : ℕ) (runs : List ℕ) : Type 0 where
  pub some : 0 < length runs
  pub first : offset_at runs 0 ≡ 0
  pub ascend : (i j : ℕ) → i < j → j < length runs → offset_at runs i < offset_at runs j
  pub below : (i : ℕ) → i < length runs → offset_at runs i < kmers

-- Run i is the last one at or before a vertex.
pub record Last (vertex : ℕ) (runs : List ℕ) (i : ℕ) : Type 0 where
  pub within : i < length runs
  pub reached : offset_at runs i ≤ vertex
  pub later : (j : ℕ) → i < j → j < length runs → vertex < offset_at runs j

-- The coordinate of the last run at or before a vertex; c where there is none.
unfoldable pub last_by : ℕ → ℕ → List ℕ → ℕ
last_by vertex c [] = c
last_by vertex c (r ∷ rs) = last_by vertex (cond (leb (offset_in r) vertex) (coordinate_in r) c) rs

-- The same for n vertices, the first of them given.
unfoldable pub colors_from : List ℕ → ℕ → ℕ → List ℕ
colors_from runs vertex zero = []
colors_from runs vertex (suc n) = last_by vertex 0 runs ∷ colors_from runs (suc vertex) n

-- The refusal 23 of a run list that breaks the rules.
abbrev pub check_call : ℕ → List ℕ → Answer (Unit {0})
check_call kmers runs = cond (sound_runs kmers runs) (gives tt) (refuses 23 [])

-- The colour at a vertex: the refusals 23 and 24.
abbrev pub color_call : ℕ → List ℕ → ℕ → Answer ℕ
color_call kmers runs vertex =
    cond (sound_runs kmers runs) (cond (ltb vertex kmers) (gives (last_by vertex 0 runs)) (refuses 24 []))
    (refuses 23 [])

-- The colours at all vertices, written into a slice: the refusals 23 and 9.
abbrev pub colors_call : ℕ → List ℕ → List ℕ → Filled
colors_call kmers runs slice =
    cond (sound_runs kmers runs) (fill 9 (colors_from runs 0 kmers) slice)
    (record { answer = refuses 23 []; slice = slice })

-- Opens this file's definitions to a proof that computes.
unfoldable pub open_runs : Unit {0}
unfolding rises_from sound_runs last_by colors_from
open_runs = tt
