-- A text written over the first cells of a slice. Assumes nothing.
use mathlib.Core.Path.{◌≡◌, sym, ap, ◌∙◌}
use mathlib.Core.List.{List, [], ◌∷◌, ◌++◌, append_assoc, append-nil}
use Prim.Native.Nat.{ℕ, ◌+◌, ◌-◌, ◌≤◌, ◌<◌}
use native.Mathlib.Numerals.{add-one}
use native.Mathlib.Omega.{arith}
use lib.ListN.{length, take, drop, set, take-append-drop, drop_of_length-le, length-append, length-drop}
use lib.Seq.{length-take-le, drop-append-le, drop-append-add, drop-drop, drop-cons, set-append_seam, append_snoc}
use Rattle.dna.specs.Text.{over}

-- The slice keeps its length.
pub length_over : (text slice : List ℕ) → length text ≤ length slice → length (over text slice) ≡ length slice
length_over text slice h = simp (length-append, length-drop) (omega arith)

-- A text as long as the slice.
pub over_all : (text slice : List ℕ) → length text ≡ length slice → over text slice ≡ text
over_all text slice e =
    let n : length slice ≤ length text = omega arith in
    ap (λ (z : List ℕ). text ++ z) (drop_of_length-le slice n) ∙ append-nil text

-- A second text that is no shorter hides the first.
pub over_over : (a b s : List ℕ) → length a ≤ length b → over b (over a s) ≡ over b s
over_over a b s h =
    let e : length b ≡ length a + (length b - length a) = omega arith in
    rw (e, drop-append-add a (drop (length a) s) (length b - length a), drop-drop (length b - length a) (length a) s)

-- What is written into a slice's first n cells alone stands in the slice.
pub over_first : (text slice : List ℕ) (n : ℕ) → length text ≤ n → n ≤ length slice
    → over text (take n slice) ++ drop n slice ≡ over text slice
over_first text slice n h l =
    append_assoc text (drop (length text) (take n slice)) (drop n slice)
    ∙ ap (λ (z : List ℕ). text ++ z)
    (sym (drop-append-le (length text) (take n slice) (drop n slice) (omega (arith, length-take-le n slice l)))
    ∙ ap (drop (length text)) (take-append-drop n slice))

-- One cell behind the text.
pub over_one : (text slice : List ℕ) {slice' next : List ℕ} (n v : ℕ) → slice' ≡ over text slice → n ≡ length text → n < length slice
    → next ≡ text ++ (v ∷ []) → set slice' n v ≡ over next slice
over_one text slice n v e f h q =
    let l : length text < length slice = omega arith in
    rw (e, f, q, drop-cons slice (length text) 0 l, set-append_seam, length-append, add-one, append_snoc)
