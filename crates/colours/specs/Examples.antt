-- Colours, computed. Assumes nothing.
use Rattle.std.specs.Prelude.{ℕ, ◌≡◌, refl, List, [], ◌∷◌, map}
use Rattle.dna.specs.Answer.{gives, refuses}
use Rattle.colours.specs.Packed.{discovered_call, u40_call, worker_call, index_call, parts_call}
use Rattle.colours.specs.Packed.{run_of, run_call}
use Rattle.colours.specs.Runs.{check_call, color_call, colors_call, open_runs}

-- Worker 7 and index 3 are the coordinate 775; the largest parts fill 40 bits, and one more of either is refused.
pub coordinates_are : (
    discovered_call 7 3 ∷ worker_call 775 ∷ index_call 775
    ∷ discovered_call 255 4294967295 ∷ worker_call 1099511627775 ∷ index_call 1099511627775
    ∷ discovered_call 256 0 ∷ discovered_call 0 4294967296 ∷ []
    )
    ≡ gives 775 ∷ gives 7 ∷ gives 3
    ∷ gives 1099511627775 ∷ gives 255 ∷ gives 4294967295
    ∷ refuses 22 [] ∷ refuses 22 [] ∷ []
coordinates_are = refl

-- A coordinate with a 41st bit, and one in process, is refused its 40 bits and its parts.
pub long_are : (
    u40_call 1099511627775 ∷ u40_call 1099511627776 ∷ worker_call 1099511627776 ∷ index_call 1099511627776
    ∷ u40_call 9223372036854775808 ∷ worker_call 9223372036854775815 ∷ index_call 9223372036854775815 ∷ []
    )
    ≡ gives 1099511627775 ∷ map (refuses 22) ([] ∷ [] ∷ [] ∷ [] ∷ [] ∷ [] ∷ [])
long_are = refl

pub parts_are : parts_call 775 ∷ parts_call 1099511627776 ∷ [] ≡ gives (7, 3) ∷ refuses 22 [] ∷ []
parts_are = refl

-- A coordinate at an offset; the last offset; an offset that needs a 25th bit; a coordinate that needs a 41st, and one
-- in process.
pub packed_are : (
    run_call 5 775 ∷ run_call 16777215 1099511627775
    ∷ run_call 16777216 0 ∷ run_call 0 1099511627776 ∷ run_call 0 9223372036854775808 ∷ []
    )
    ≡ gives 13002342405 ∷ gives 18446744073709551615 ∷ refuses 22 [] ∷ refuses 22 [] ∷ refuses 22 [] ∷ []
packed_are = refl

-- Three runs of a label with ten k-mers: colour 4 from vertex 0, 9 from vertex 3, 4 again from vertex 7.
unfoldable pub three : List ℕ
three = run_of 0 4 ∷ run_of 3 9 ∷ run_of 7 4 ∷ []

pub colors_are : map (color_call 10 three) (0 ∷ 2 ∷ 3 ∷ 6 ∷ 7 ∷ 9 ∷ 10 ∷ [])
    ≡ gives 4 ∷ gives 4 ∷ gives 9 ∷ gives 9 ∷ gives 4 ∷ gives 4 ∷ refuses 24 [] ∷ []
unfolding three open_runs
colors_are = refl

-- No k-mer; no run; a first run that is not at 0; offsets that stand still, and that fall; one at the number of k-mers;
-- a list that keeps the rules.
pub broken_are : (
    check_call 0 (run_of 0 4 ∷ []) ∷ check_call 3 [] ∷ check_call 3 (run_of 1 4 ∷ [])
    ∷ check_call 3 (run_of 0 4 ∷ run_of 2 9 ∷ run_of 2 4 ∷ [])
    ∷ check_call 3 (run_of 0 4 ∷ run_of 2 9 ∷ run_of 1 4 ∷ [])
    ∷ check_call 3 (run_of 0 4 ∷ run_of 3 9 ∷ []) ∷ check_call 3 (run_of 0 4 ∷ run_of 2 9 ∷ []) ∷ []
    )
    ≡ refuses 23 [] ∷ refuses 23 [] ∷ refuses 23 [] ∷ refuses 23 [] ∷ refuses 23 [] ∷ refuses 23 [] ∷ gives tt ∷ []
unfolding open_runs
broken_are = refl

-- 23 before 24.
pub order_is : color_call 0 three 5 ≡ refuses 23 []
unfolding three open_runs
order_is = refl

-- The colours of a label with eight k-mers, and a cell past them; too few cells; 23 before 9.
pub written_are : (
    colors_call 8 three (5 ∷ 5 ∷ 5 ∷ 5 ∷ 5 ∷ 5 ∷ 5 ∷ 5 ∷ 5 ∷ []) ∷ colors_call 8 three (5 ∷ 5 ∷ [])
    ∷ colors_call 7 three (5 ∷ []) ∷ []
    )
    ≡ record { answer = gives 8; slice = 4 ∷ 4 ∷ 4 ∷ 9 ∷ 9 ∷ 9 ∷ 9 ∷ 4 ∷ 5 ∷ [] }
    ∷ record { answer = refuses 9 []; slice = 5 ∷ 5 ∷ [] } ∷ record { answer = refuses 23 []; slice = 5 ∷ [] } ∷ []
unfolding three open_runs
written_are = refl

-- The README's label of five k-mers: worker 7's index 3 from vertex 0 on, worker 0's index 1 from vertex 2 on.
pub five_packed : discovered_call 7 3 ∷ discovered_call 0 1 ∷ run_call 0 775 ∷ run_call 2 256 ∷ []
    ≡ gives 775 ∷ gives 256 ∷ gives 13002342400 ∷ gives 4294967298 ∷ []
five_packed = refl

pub five_colored : colors_call 5 (13002342400 ∷ 4294967298 ∷ []) (0 ∷ 0 ∷ 0 ∷ 0 ∷ 0 ∷ [])
    ≡ record { answer = gives 5; slice = 775 ∷ 775 ∷ 256 ∷ 256 ∷ 256 ∷ [] }
unfolding open_runs
five_colored = refl
