-- A probe of a label: so many bases of it of which neither too few nor too many are G or C. Assumes nothing.
use Rattle.std.specs.Prelude.{◌≡◌, ℕ, suc, ◌+◌, ◌-◌, ◌^◌, ◌<◌, Bool, true, false, cond, ◌&&◌, List, [], ◌∷◌, length, take, drop, nat_le}
use Rattle.dna.specs.Text.{bytes, among}

-- 1 for the byte G or C, 0 for any other.
abbrev pub gc_of : ℕ → ℕ
gc_of b = cond (among b (bytes "GC")) 1 0

-- How many bytes of a text are G or C.
unfoldable pub gc_in : List ℕ → ℕ
gc_in [] = 0
gc_in (b ∷ s) = gc_of b + gc_in s

-- A number lies between two, or is one of them.
abbrev pub between : ℕ → ℕ → ℕ → Bool
between low x high = nat_le low x && nat_le x high

-- The answer for a label without a probe; no start in a label is so large, since its length is a word of 32 bits.
abbrev pub none : ℕ
none = 2 ^ 32 - 1

-- For probes of L bases of which least to most are G or C.
module _ (L least most : ℕ) where
  -- A text begins with a probe.
  unfoldable pub begins : List ℕ → Bool
  begins text = nat_le L (length text) && between least (gc_in (take L text)) most

  -- The first start of a probe in a text whose first base has number i.
  unfoldable pub first_from : ℕ → List ℕ → ℕ
  first_from i [] = none
  first_from i (b ∷ s) = let rest = first_from (suc i) s in cond (begins (b ∷ s)) i rest

  -- The first start of a probe in a label.
  abbrev pub first_probe : List ℕ → ℕ
  first_probe label = first_from 0 label

  -- What an answer says of a label: a probe starts there and at no place before; or none starts anywhere.
  pub data First (label : List ℕ) : ℕ → Type 0 where
    found : {i : ℕ} → begins (drop i label) ≡ true → ((j : ℕ) → j < i → begins (drop j label) ≡ false) → First label i
    nowhere : ((j : ℕ) → begins (drop j label) ≡ false) → First label none

-- Opens this file's definitions to a proof that computes.
unfoldable pub open_probes : Unit {0}
unfolding gc_in begins first_from
open_probes = tt
