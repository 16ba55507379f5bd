-- The number that decimal digits say. Assumes nothing.
use Rattle.std.specs.Prelude.{ℕ, ◌+◌, ◌*◌, ◌-◌, ◌<◌, ◌≡◌, Bool, true, ◌&&◌, List, [], ◌∷◌, leb, length, get_or}

-- Every byte is a digit.
unfoldable pub are_digits : List ℕ → Bool
are_digits [] = true
are_digits (d ∷ ds) = leb 48 d && leb d 57 && are_digits ds

-- The number that x becomes with more digits behind its own.
unfoldable pub said : ℕ → List ℕ → ℕ
said x [] = x
said x (d ∷ ds) = said (10 * x + (d - 48)) ds

-- One digit or more that say a number, the first a 0 only where it is the number.
pub record Spells (ds : List ℕ) (x : ℕ) : Type 0 where
  pub some : 0 < length ds
  pub digits : are_digits ds ≡ true
  pub says : said 0 ds ≡ x
  pub first : 0 < x → get_or ds 0 0 ≡ 48 → ⊥
  pub zero_alone : x ≡ 0 → ds ≡ 48 ∷ []
