-- A text that stands in a buffer, from its first cell or from a place on: lengthened or changed. Assumes nothing.
use mathlib.Core.Path.{◌≡◌, refl, sym, ap, ◌∙◌}
use mathlib.Core.List.{List, [], ◌∷◌, ◌++◌, append_assoc}
use Prim.Native.Nat.{ℕ, ◌+◌, ◌≤◌, ◌<◌}
use native.Mathlib.Numerals.{add-one}
use native.Mathlib.Omega.{arith}
use lib.ListN.{length, take, drop, set, length-append}
use lib.Seq.{paste, length-paste, take-paste, drop-paste, drop-drop, take-length, take_all, take_at, drop_at}
use lib.Seq.{length-take-le, set_split, append_snoc}
use lib.Seq.{take-append_seam, drop-append-add}
use Rattle.dna.specs.Text.{over, part}

-- A second text behind one that stands from the first cell on.
pub over_pasted : (text slice more : List ℕ) → paste (over text slice) (length text) more (length more) ≡ over
    (text ++ more) slice
over_pasted text slice more =
    rw (
      take-append_seam text (drop (length text) slice),
      take-length more,
      drop-append-add text (drop (length text) slice) (length more),
      drop-drop (length more) (length text) slice,
      length-append text more,
    )

-- A second text behind one that stands from a place on.
paste_behind : (buffer : List ℕ) (at : ℕ) (s t : List ℕ) → at + (length s + length t) ≤ length buffer
    → paste (paste buffer at s (length s)) (at + length s) t (length t) ≡ paste buffer at (s ++ t) (length s + length t)
paste_behind d p s t h =
    let n : ℕ = length s in
    let a : take (p + n) (paste d p s n) ≡ take p d ++ take n s = take-paste d p s n (omega arith) (omega arith) in
    let e : p + n + length t ≡ p + (n + length t) = omega arith in
    let b : drop (p + n + length t) (paste d p s n) ≡ drop (p + (n + length t)) d =
    sym (drop-drop (length t) (p + n) (paste d p s n))
    ∙ ap (drop (length t)) (drop-paste d p s n (omega arith) (omega arith))
    ∙ drop-drop (length t) (p + n) d ∙ ap (λ (z : ℕ). drop z d) e in
    rw (a, b, take-length, take-length, ← length-append s t, take-length, append_assoc (take p d) s t)

-- The part that was pasted, read again and changed.
pub paste_again : (f : List ℕ → List ℕ) (buffer : List ℕ) (at : ℕ) (s : List ℕ) (n : ℕ) → length s ≡ n
    → at + n ≤ length buffer
    → (buffer' : List ℕ) → buffer' ≡ paste buffer at s n
    → paste buffer' at (f (part buffer' at n)) n ≡ paste buffer at (f s) n
paste_again f d p s n l h buf e =
    let ts : take n s ≡ s = take_all n s (omega arith) in
    let lp : length (take p d) ≡ p = length-take-le p d (omega arith) in
    let b : buf ≡ take p d ++ (s ++ drop (p + n) d) = e ∙ rw (ts, append_assoc) in
    let c : part buf p n ≡ s = rw (b, drop_at (take p d) (s ++ drop (p + n) d) p lp) (take_at s (drop (p + n) d) n l) in
    let front : take p buf ≡ take p d = rw b (take_at (take p d) (s ++ drop (p + n) d) p lp) in
    let back : drop (p + n) buf ≡ drop (p + n) d = rw e (drop-paste d p s n (omega arith) (omega arith)) in
    rw (c, front, back)

-- One cell alone.
paste_one : (buffer : List ℕ) (at v : ℕ) → at < length buffer → set buffer at v ≡ paste buffer at (v ∷ []) 1
paste_one d p v h = rw (set_split d p v h, add-one, append_snoc)

-- The buffer is as it was but for the text.
pub record Placed (buffer : List ℕ) (at : ℕ) (text buffer' : List ℕ) : Type 0 where
  pub room : at + length text ≤ length buffer
  pub cells : buffer' ≡ paste buffer at text (length text)

pub placed_first : (buffer : List ℕ) (at : ℕ) (text : List ℕ) (n : ℕ) {after : List ℕ} → n ≡ length text
    → at + n ≤ length buffer
    → after ≡ paste buffer at text n → Placed buffer at text after
placed_first buffer at text n e h q = record { room = omega arith; cells = q ∙ ap (paste buffer at text) e }

module _ {buffer text buffer' : List ℕ} {at : ℕ} (p : Placed buffer at text buffer') where
  pub placed_length : length buffer' ≡ length buffer
  placed_length = ap length p.cells ∙ length-paste buffer at text (length text) p.room (omega arith)

  -- With more behind it.
  pub placed_more : (more : List ℕ) (n m : ℕ) {after : List ℕ} → n ≡ length text → m ≡ length more
      → at + (length text + length more) ≤ length buffer → after ≡ paste buffer' (at + n) more m
      → Placed buffer at (text ++ more) after
  placed_more more n m en em h q = record {
    room = omega (arith, length-append text more);
    cells = q ∙ rw (en, em, p.cells, length-append text more) (paste_behind buffer at text more h);
  }

  -- With one cell behind it.
  pub placed_one : (v n : ℕ) {i : ℕ} → n ≡ length text → i ≡ at + n → at + n < length buffer
      → Placed buffer at (text ++ (v ∷ [])) (set buffer' i v)
  placed_one v n en ei h =
      placed_more (v ∷ []) n 1 en refl (omega arith)
      (ap (λ (i : ℕ). set buffer' i v) ei ∙ paste_one buffer' (at + n) v (omega (arith, placed_length)))

  -- Read again and changed by a function that keeps the length.
  pub placed_anew : (f : List ℕ → List ℕ) → ((x : List ℕ) → length (f x) ≡ length x) → (n : ℕ) {after : List ℕ}
      → n ≡ length text
      → after ≡ paste buffer' at (f (part buffer' at n)) n → Placed buffer at (f text) after
  placed_anew f same n en q = record {
    room = omega (arith, p.room, same text);
    cells = q ∙ rw (en, same text) (paste_again f buffer at text (length text) (omega arith) p.room buffer' p.cells);
  }
