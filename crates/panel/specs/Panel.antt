-- The call that answers a probe for each label of a list. Assumes nothing.
use Rattle.std.specs.Prelude.{ℕ, ◌%◌, Bool, cond, ◌&&◌, List, [], map, ◌==◌}
use Rattle.dna.specs.Answer.{refuses, Filled, fill}
use Rattle.label_index.specs.Entries.{listed, within}
use Rattle.panel.specs.Probes.{between, first_probe}

-- The profile: K is odd and from 15 to 31, the cutoff from 2 to 15, a probe has from K to 63 bases.
unfoldable pub in_profile : ℕ → ℕ → ℕ → Bool
in_profile K cutoff L = K % 2 == 1 && between 15 K 31 && between 2 cutoff 15 && between K L 63

-- The first start of a probe for each of the first labels, in the order of the index.
abbrev pub first_starts : ℕ → ℕ → ℕ → List ℕ → List ℕ → List ℕ → ℕ → List ℕ
first_starts L least most labels starts lengths count =
    map (first_probe L least most) (listed count labels starts lengths)

-- The refusals 26, 27, 12 and 28; the answer is the number of starts written.
unfoldable pub panel : ℕ → ℕ → ℕ → ℕ → ℕ → List ℕ → List ℕ → List ℕ → ℕ → List ℕ → Filled
panel K cutoff L least most labels starts lengths count slice =
    let refused : ℕ → Filled = λ r. record { answer = refuses r []; slice = slice } in
    cond (in_profile K cutoff L)
    (cond (between least most L)
    (cond (within labels count starts lengths)
    (fill 28 (first_starts L least most labels starts lengths count) slice)
    (refused 12))
    (refused 27))
    (refused 26)

-- Opens this file's definitions to a proof that computes.
unfoldable pub open_panel : Unit {0}
unfolding in_profile panel
open_panel = tt
