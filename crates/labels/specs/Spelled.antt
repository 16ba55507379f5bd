-- The number that an argument says. Assumes nothing.
use Rattle.std.specs.Prelude.{ℕ, ◌≤◌, ◌≡◌, cond, ◌&&◌, List, eqb, leb, length, Option, Some, None}
use Rattle.label_file.specs.Spelled.{are_digits, said}

-- The number that x becomes with more bytes behind its own digits, where these are digits and it is not above a limit.
abbrev pub spelled_from : ℕ → List ℕ → ℕ → Option ℕ
spelled_from x ds most = cond (are_digits ds && leb (said x ds) most) (Some (said x ds)) None

-- The number that one digit or more say, where it is not above a limit.
unfoldable pub spelled : List ℕ → ℕ → Option ℕ
spelled ds most = cond (eqb (length ds) 0) None (spelled_from 0 ds most)

-- An argument: no contract can say what was given, but its bytes say the number.
pub record Given (most : ℕ) (r : Option ℕ) : Type 0 where
  pub digits : List ℕ
  pub short : length digits ≤ 64
  pub says : r ≡ spelled digits most
