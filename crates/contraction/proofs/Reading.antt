-- A walk's letters read back from a text: how many stand before the byte that ends them. Assumes nothing.
use mathlib.Core.Path.{◌≡◌, refl, sym, ap, ◌∙◌}
use mathlib.Core.List.{List, [], ◌∷◌, ◌++◌, map}
use Prim.Native.Nat.{ℕ, zero, suc, ◌+◌, ◌≤◌, ◌<◌}
use native.Mathlib.Omega.{arith}
use borrow.Author.Tests.{lt-ltb, le-ltb}
use lib.Dec.{ltb}
use lib.ListN.{length, get_or, take, drop, length-map, length-append}
use lib.Seq.{take_at, get_or_at, drop-append-add}
use Rattle.std.specs.List.{prefix_len}
use Rattle.std.proofs.Math.Numerals.{one-add}
use Rattle.dna.specs.Letters.{letter_of}
use Rattle.contraction.specs.Trail.{letter_count, Ended}

-- Every letter is above the bytes that are none.
pub letter_above : (c : ℕ) → 2 < letter_of c
unfolding letter_of
letter_above zero = omega arith
letter_above (suc zero) = omega arith
letter_above (suc (suc zero)) = omega arith
letter_above (suc (suc (suc zero))) = omega arith
letter_above (suc (suc (suc (suc zero)))) = omega arith
letter_above (suc (suc (suc (suc (suc zero))))) = omega arith
letter_above (suc (suc (suc (suc (suc (suc c)))))) = omega arith

-- How many letters a text begins with, in std's word.
pub count_prefix : (s : List ℕ) → prefix_len (ltb 2) s ≡ letter_count s
unfolding letter_count
count_prefix [] = refl
count_prefix (b ∷ s) = rw (count_prefix s, one-add)

-- ---- a text that begins with a walk's letters and a byte that is none

count_letters : (bs r : List ℕ) (x : ℕ) → x ≤ 2 → letter_count (map letter_of bs ++ (x ∷ r)) ≡ length bs
unfolding letter_count
count_letters [] r x h = rw (le-ltb 2 x h)
count_letters (b ∷ bs) r x h = rw (lt-ltb 2 (letter_of b) (letter_above b)) (ap suc (count_letters bs r x h))

module _ {s : List ℕ} (bs r : List ℕ) (x : ℕ) (h : x ≤ 2) (e : s ≡ map letter_of bs ++ (x ∷ r)) where
  pub count_is : letter_count s ≡ length bs
  count_is = ap letter_count e ∙ count_letters bs r x h

  along : length (map letter_of bs) ≡ letter_count s
  along = length-map bs letter_of ∙ sym count_is

  pub count_ended : Ended s
  count_ended = record { within = omega (arith, along, ap length e, length-append (map letter_of bs) (x ∷ r)) }

  pub byte_behind : get_or s (letter_count s) 0 ≡ x
  byte_behind = ap (λ (t : List ℕ). get_or t (letter_count s) 0) e
      ∙ get_or_at (map letter_of bs) x r 0 (letter_count s) along

  pub letters_before : take (letter_count s) s ≡ map letter_of bs
  letters_before = ap (take (letter_count s)) e ∙ take_at (map letter_of bs) (x ∷ r) (letter_count s) along

  pub text_behind : drop (letter_count s + 1) s ≡ r
  text_behind =
      ap (drop (letter_count s + 1)) e ∙ ap (λ (n : ℕ). drop (n + 1) (map letter_of bs ++ (x ∷ r))) (sym along)
      ∙ drop-append-add (map letter_of bs) (x ∷ r) 1
