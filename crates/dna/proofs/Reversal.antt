-- The reverse complement of a text, place by place. Assumes nothing.
use mathlib.Core.Path.{◌≡◌, ap, ◌∙◌}
use mathlib.Core.List.{List, map}
use Prim.Native.Nat.{ℕ, ◌-◌, ◌<◌}
use native.Mathlib.Omega.{arith}
use lib.ListN.{length, get_or, length-reverse, length-map}
use Rattle.std.proofs.lemmas.List.{get_or-map, get_or-reverse}
use Rattle.dna.specs.Letters.{complement_letter, reverse_complement}

module _ (s : List ℕ) where
  pub length_reverse_complement : length (reverse_complement s) ≡ length s
  unfolding reverse_complement
  length_reverse_complement = length-reverse (map complement_letter s) ∙ length-map s complement_letter

  pub reverse_complement_at : (i : ℕ) → i < length s → get_or (reverse_complement s) i 0 ≡ complement_letter (get_or s (length s - 1 - i) 0)
  unfolding reverse_complement
  reverse_complement_at i h =
      let n : length (map complement_letter s) ≡ length s = length-map s complement_letter in
      get_or-reverse (map complement_letter s) i 0 (omega arith)
      ∙ ap (λ (m : ℕ). get_or (map complement_letter s) (m - 1 - i) 0) n
      ∙ get_or-map complement_letter s (length s - 1 - i) 0 0 (omega arith)
