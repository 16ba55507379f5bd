-- Texts: lists of bytes. Assumes nothing.
use Rattle.std.specs.Prelude.{ℕ, Bool, false, ◌||◌, List, [], ◌∷◌, ◌++◌, eqb, length, take, drop}
use Prim.Native.String.{String}
use Prim.Native.Char.{code}

-- The bytes of a text in quotes.
abbrev pub bytes : String → List ℕ
bytes String.[] = []
bytes (String.◌∷◌ c s) = code c ∷ bytes s

-- A byte is one of those of a text.
unfoldable pub among : ℕ → List ℕ → Bool
among b [] = false
among b (x ∷ s) = eqb b x || among b s

-- A text written from a slice's first cell on; nothing past it changes.
abbrev pub over : List ℕ → List ℕ → List ℕ
over text slice = text ++ drop (length text) slice

-- A part of a text: so many bytes from a start on, as far as the text goes.
abbrev pub part : List ℕ → ℕ → ℕ → List ℕ
part text start n = take n (drop start text)

-- Opens this file's definitions to a proof that computes.
unfoldable pub open_text : Unit {0}
unfolding among
open_text = tt
