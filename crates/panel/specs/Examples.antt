-- A panel of three labels, computed. Assumes nothing.
use Rattle.std.specs.Prelude.{◌≡◌, ℕ, List, [], ◌∷◌, map, refl}
use Rattle.dna.specs.Text.{bytes, open_text}
use Rattle.dna.specs.Answer.{gives, refuses, Filled}
use Rattle.label_index.specs.Entries.{open_entries}
use Rattle.panel.specs.Probes.{none, open_probes}
use Rattle.panel.specs.Panel.{panel, open_panel}

-- Labels of 18, 15 and 14 bases, and an entry that lies past them.
unfoldable pub text : List ℕ
text = bytes "AAAAAAAAAAAAAGCGCCAcgcAAAAAAAAAAAAAAAAAAAAAAAAA"

unfoldable pub asked : ℕ → ℕ → ℕ → ℕ → ℕ → ℕ → List ℕ → Filled
asked K cutoff L least most count slice =
    panel K cutoff L least most text (0 ∷ 18 ∷ 33 ∷ 33 ∷ []) (18 ∷ 15 ∷ 14 ∷ 15 ∷ []) count slice

-- The first 15 bases of the first label have two G or C, those from place 1 on three; small letters are not counted;
-- the last label is too short.
pub found_is : asked 15 2 15 3 4 3 (7 ∷ 7 ∷ 7 ∷ 7 ∷ []) ≡ record { answer = gives 3; slice = 1 ∷ none ∷ none ∷ 7 ∷ [] }
unfolding asked text open_text open_entries open_probes open_panel
found_is = refl

-- The bounds are met by themselves.
pub bounds_are : asked 15 15 15 5 5 1 (7 ∷ []) ≡ record { answer = gives 1; slice = 3 ∷ [] }
unfolding asked text open_text open_entries open_probes open_panel
bounds_are = refl

-- K, cutoff and length outside the profile on either side; least above most, and most above the length; an entry past
-- the labels, and past the index; too few cells. Behind each stand reasons for those after it, and the slice stays as
-- it was.
pub refusals_are : (
    asked 13 2 15 5 4 4 (7 ∷ []) ∷ asked 16 2 16 5 4 4 (7 ∷ []) ∷ asked 33 2 33 5 4 4 (7 ∷ [])
    ∷ asked 15 1 15 5 4 4 (7 ∷ []) ∷ asked 15 16 15 5 4 4 (7 ∷ []) ∷ asked 17 2 15 5 4 4 (7 ∷ [])
    ∷ asked 15 2 64 5 4 4 (7 ∷ []) ∷ asked 15 2 15 5 4 4 (7 ∷ []) ∷ asked 15 2 15 3 16 4 (7 ∷ [])
    ∷ asked 15 2 15 3 4 4 (7 ∷ []) ∷ asked 15 2 15 3 4 5 (7 ∷ []) ∷ asked 15 2 15 3 4 3 (7 ∷ []) ∷ []
    )
    ≡ map (λ (r : ℕ). record { answer = refuses r []; slice = 7 ∷ [] })
    (26 ∷ 26 ∷ 26 ∷ 26 ∷ 26 ∷ 26 ∷ 26 ∷ 27 ∷ 27 ∷ 12 ∷ 12 ∷ 28 ∷ [])
unfolding asked text open_text open_entries open_probes open_panel
refusals_are = refl
