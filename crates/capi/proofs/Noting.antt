-- Figures in the first cells of a slice, one cell more at a time. Assumes nothing.
use mathlib.Core.Path.{◌≡◌, refl, ap}
use mathlib.Core.List.{List, [], ◌∷◌}
use Prim.Native.Nat.{ℕ, zero, suc, ◌≤◌, ◌<◌}
use native.Mathlib.Nat.{le_of_suc-le-suc, not-suc-le-zero}
use lib.ListN.{length, get_or, set, take}
use lib.Seq.{take-nil}
use Rattle.capi.specs.Says.{noted}

-- No figure changes nothing.
pub noted_none : (slice : List ℕ) → slice ≡ noted [] slice
unfolding noted
noted_none [] = refl
noted_none (x ∷ slice) = refl

-- The figure at i stands in its cell, where there is one.
pub noted_set : (values slice : List ℕ) (i : ℕ) → i < length values → i < length slice
    → set (noted (take i values) slice) i (get_or values i 0) ≡ noted (take (suc i) values) slice
unfolding noted
noted_set [] slice i h k = absurd (not-suc-le-zero h)
noted_set (v ∷ values) [] i h k = absurd (not-suc-le-zero k)
noted_set (v ∷ values) (x ∷ slice) zero h k = rw (take-nil {A = ℕ} (length slice))
noted_set (v ∷ values) (x ∷ slice) (suc i) h k =
    ap (λ s. v ∷ s) (noted_set values slice i (le_of_suc-le-suc h) (le_of_suc-le-suc k))

pub noted_past : (values slice : List ℕ) (i : ℕ) → length slice ≤ i
    → noted (take i values) slice ≡ noted (take (suc i) values) slice
unfolding noted
noted_past values [] i k = refl
noted_past [] (x ∷ slice) zero k = refl
noted_past [] (x ∷ slice) (suc i) k = refl
noted_past (v ∷ values) (x ∷ slice) zero k = absurd (not-suc-le-zero k)
noted_past (v ∷ values) (x ∷ slice) (suc i) k = ap (λ s. v ∷ s) (noted_past values slice i (le_of_suc-le-suc k))
