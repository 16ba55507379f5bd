-- The lines of a text are what it is cut into at its newlines, trimmed. Assumes nothing.
use mathlib.Core.Path.{◌≡◌, refl, ap}
use mathlib.Core.Bool.{Bool, true, false}
use mathlib.Core.List.{List, [], ◌∷◌, ◌++◌, map, append-nil, append_assoc}
use Prim.Native.Nat.{ℕ, ◌+◌, ◌<◌}
use lib.Dec.{eqb}
use lib.ListN.{length, get_or, drop}
use lib.Seq.{drop-length}
use Rattle.std.proofs.lemmas.List.{drop_more}
use Rattle.std.specs.List.{slice_split, onto_first}
use Rattle.lemmas.proofs.Tests.{choose}
use Rattle.label_text.specs.Lines.{trimmed, lines_from}

-- The lines, before they are trimmed.
abbrev pub cut : List ℕ → List (List ℕ)
cut text = slice_split (λ b. eqb b 10) text

-- What has begun, in front of the first of some parts.
onto : List ℕ → List (List ℕ) → List (List ℕ)
onto l [] = l ∷ []
onto l (part ∷ parts) = (l ++ part) ∷ parts

onto_none : (s : List ℕ) → onto [] (cut s) ≡ cut s
unfolding onto
onto_none [] = refl
onto_none (b ∷ s) = choose (λ parts. onto [] parts ≡ parts) (eqb b 10) (λ _. refl) (λ _. first (cut s))
  where
    first : (parts : List (List ℕ)) → onto [] (onto_first b parts) ≡ onto_first b parts
    first [] = refl
    first (part ∷ parts) = refl

onto_more : (l : List ℕ) (b : ℕ) (parts : List (List ℕ)) → onto l (onto_first b parts) ≡ onto (l ++ (b ∷ [])) parts
unfolding onto
onto_more l b [] = refl
onto_more l b (part ∷ parts) = rw append_assoc

lines_onto : (l s : List ℕ) → lines_from l s ≡ map trimmed (onto l (cut s))
unfolding lines_from onto
lines_onto l [] = rw append-nil
lines_onto l (b ∷ s) = at_byte (eqb b 10) refl (lines_onto [] s) (lines_onto (l ++ (b ∷ [])) s)
  where
    At : List ℕ → Type 0
    At l' = lines_from l' s ≡ map trimmed (onto l' (cut s))

    at_byte : (t : Bool) → eqb b 10 ≡ t → At [] → At (l ++ (b ∷ []))
        → lines_from l (b ∷ s) ≡ map trimmed (onto l (cut (b ∷ s)))
    at_byte true e new on = rw (e, append-nil, new, onto_none s)
    at_byte false e new on = rw (e, onto_more l b (cut s)) on

pub lines_cut : (text : List ℕ) → lines_from [] text ≡ map trimmed (cut text)
lines_cut text = rw (lines_onto [] text, onto_none text)

-- The lines that are left behind the first k.
abbrev pub lines_after : List ℕ → ℕ → List (List ℕ)
lines_after text k = map trimmed (drop k (cut text))

pub lines_next : (text : List ℕ) (k : ℕ) (line : List ℕ) → k < length (cut text) → line ≡ get_or (cut text) k line
    → lines_after text k ≡ trimmed line ∷ lines_after text (k + 1)
lines_next text k line h e =
    let more = drop_more (cut text) k line h in
    let parts : drop k (cut text) ≡ line ∷ drop (k + 1) (cut text) = cc in
    ap (map trimmed) parts

pub lines_none : (text : List ℕ) (k : ℕ) → k ≡ length (cut text) → lines_after text k ≡ []
lines_none text k e = rw (e, drop-length (cut text))
