-- A header's first byte is looked for by a test of each byte. Assumes nothing.
use mathlib.Core.Path.{◌≡◌, refl}
use mathlib.Core.List.{List, [], ◌∷◌}
use Prim.Native.Nat.{ℕ}
use lib.Dec.{eqb}
use Rattle.std.specs.List.{list_any}
use Rattle.label_text.specs.Lines.{has_mark}

pub has_mark_any : (text : List ℕ) → list_any (λ b. eqb b 62) text ≡ has_mark text
unfolding has_mark
has_mark_any [] = refl
has_mark_any (b ∷ text) = rw (has_mark_any text)
