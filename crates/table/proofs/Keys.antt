-- A key of a slice of words, by its place. Assumes nothing.
use mathlib.Core.Path.{◌≡◌, refl, ◌∙◌}
use mathlib.Core.List.{List, [], ◌∷◌}
use Prim.Native.Nat.{ℕ, zero, suc, ◌+◌, ◌*◌, ◌/◌, ◌<◌}
use native.Mathlib.Nat.{not-suc-le-zero}
use native.Mathlib.Omega.{arith}
use lib.ListN.{length, get_or}
use Rattle.graph.specs.Table.{keys_of}
use Rattle.table.specs.Search.{key}

pub key_is : (n : ℕ) (words : List ℕ) (i : ℕ) → i < n → i < length words / 2
    → get_or (keys_of n words) i 0 ≡ key words i
unfolding keys_of
key_is zero words i h l = absurd (not-suc-le-zero h)
key_is (suc n) [] i h l = absurd (omega arith)
key_is (suc n) (x ∷ []) i h l = absurd (omega arith)
key_is (suc n) (x ∷ y ∷ words) zero h l = refl
key_is (suc n) (x ∷ y ∷ words) (suc i) h l =
    let a : 2 * suc i ≡ suc (suc (2 * i)) = omega arith in
    let b : 2 * suc i + 1 ≡ suc (suc (2 * i + 1)) = omega arith in
    key_is n words i (omega arith) (omega arith) ∙ rw (b, a)
