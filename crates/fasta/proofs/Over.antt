-- Texts written one behind the other make one text. Assumes nothing.
use mathlib.Core.Path.{◌≡◌, ap, ◌∙◌}
use mathlib.Core.List.{List, [], ◌++◌, append_assoc, append-nil}
use Prim.Native.Nat.{ℕ, ◌-◌, ◌≤◌}
use native.Mathlib.Omega.{arith}
use borrow.Author.Rules.{part_to_end}
use borrow.Rule.Slice.PartMut.{mid_of, post_of, put_mid, Post-is}
use lib.ListN.{length, take, drop, length-append}
use lib.Seq.{drop-length, take-append_seam, drop-append_seam, drop-drop}
use Rattle.dna.specs.Text.{over}
use Rattle.dna.proofs.Overwriting.{length_over}

-- A second text behind the first.
over_more : (text more slice : List ℕ)
    → take (length text) (over text slice) ++ over more (drop (length text) (over text slice))
    ≡ over (text ++ more) slice
over_more text more slice =
    simp (
      take-append_seam text (drop (length text) slice),
      drop-append_seam text
          (drop (length text) slice),
      drop-drop,
      append_assoc,
      length-append,
    )

-- The same where the rest of the slice was lent for the second text: `whole` is the slice with the first text, and
-- `part` what the rest came back as.
pub over_rest : (text more slice whole part : List ℕ) (at : ℕ) → at ≡ length text → length text ≤ length slice
    → whole ≡ over text slice
    → part ≡ over more (mid_of at (length whole - at) whole)
    → put_mid at (length whole - at) whole part ≡ over (text ++ more) slice
over_rest text more slice whole part at e h w p =
    let l : at ≤ length whole = omega (arith, ap length w, length_over text slice h) in
    let none : post_of at (length whole - at) whole ≡ [] = Post-is at (length whole) whole l ∙ drop-length whole in
    rw (none, append-nil, p, part_to_end whole at, e, w) (over_more text more slice)
