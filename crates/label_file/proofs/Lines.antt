-- A line with two numbers. Assumes nothing.
use mathlib.Core.Path.{◌≡◌, ◌∙◌}
use mathlib.Core.List.{List, [], ◌∷◌}
use Prim.Native.Nat.{ℕ, suc, ◌-◌, ◌≤◌}
use native.Mathlib.Omega.{arith}
use lib.ListN.{length, drop, set, length-set, drop_of_length-le}
use Rattle.label_file.specs.Output.{decimal, numbers}
use Rattle.label_file.specs.Says.{Prefixes}
use Rattle.label_file.proofs.Digits.{drop_set}

-- `second` and `third` are the line with the second number, from place i on, and with the first, from place j on.
module _ (line second third : List ℕ) (x y i j : ℕ) (l : length line ≡ 64)
    (p : Prefixes y (set line 63 10) 63 i second) (kept : length second ≡ length (set line 63 10))
    (q : Prefixes x (set second (i - 1) 32) (i - 1) j third) where
  length_second : length second ≡ 64
  length_second = kept ∙ simp length-set l

  -- No place is left of the line's beginning or right of its end.
  pub places : (22 ≤ j) × (j ≤ i - 1) × (43 ≤ i) × (i ≤ 63)
  places = (omega (arith, p.most, q.most), q.lower, omega (arith, p.most), p.lower)

  pub numbers_made : drop j third ≡ numbers x y
  numbers_made =
      let b = places in
      let l₂ = length_second in
      let ei : suc (i - 1) ≡ i = omega arith in
      let newline : drop 63 (set line 63 10) ≡ 10 ∷ [] =
      drop_set line 63 10 (omega arith) ∙ rw (drop_of_length-le line {i = 64} (omega arith)) in
      let tail : drop i second ≡ decimal 20 y (10 ∷ []) = p.text ∙ rw newline in
      let middle : drop (i - 1) (set second (i - 1) 32) ≡ 32 ∷ decimal 20 y (10 ∷ []) =
      drop_set second (i - 1) 32 (omega arith) ∙ rw (ei, tail) in
      q.text ∙ rw middle
