-- Cells made the largest so far one after another: those before a place are done. Assumes nothing.
use mathlib.Core.Path.{◌≡◌, sym, ap, ◌∙◌}
use mathlib.Core.List.{List, [], ◌∷◌, ◌++◌, append_assoc, append-nil}
use mathlib.Core.Logic.{⊎_elim}
use Prim.Native.Nat.{ℕ, suc, ◌+◌, ◌≤◌, ◌<◌, max}
use native.Mathlib.Numerals.{add-one}
use native.Mathlib.Omega.{arith}
use borrow.Author.Tests.{lt-ltb, le-ltb}
use lib.ListN.{length, get_or, set, take, drop, length-set, drop_of_length-le}
use lib.Seq.{drop-cons, take-suc, take_all, take-set-le, drop-set-lt, get_or-set_same}
use Rattle.lemmas.proofs.Numbers.{lt_or_ge}
use Rattle.directory.specs.Directory.{spread}

-- All cells as they will be, where those before t are so already and the largest of them is known.
abbrev pub onwards : List ℕ → ℕ → ℕ → List ℕ
onwards cells most t = take t cells ++ spread most (drop t cells)

spread_next : (most c : ℕ) (rest : List ℕ) → spread most (c ∷ rest) ≡ max most c ∷ spread (max most c) rest
unfolding spread
spread_next most c rest =
    ⊎_elim (λ h. let e : max most c ≡ most = omega arith in rw (lt-ltb c most h, e))
    (λ h. let e : max most c ≡ c = omega arith in rw (le-ltb c most h, e)) (lt_or_ge c most)

-- A cell that goes over to those before it.
shift : (l rest : List ℕ) (c : ℕ) → l ++ (c ∷ rest) ≡ (l ++ (c ∷ [])) ++ rest
shift l rest c = sym (append_assoc l (c ∷ []) rest)

-- The cell at t, and the largest up to it.
pub spread_more : (cells : List ℕ) (most t m : ℕ) → t < length cells → m ≡ max most (get_or cells t 0)
    → onwards cells most t ≡ onwards (set cells t m) m (t + 1)
spread_more cells most t m h e =
    let c : ℕ = get_or cells t 0 in
    let s : t < length (set cells t m) = rw (length-set cells t m) h in
    let p : take (suc t) (set cells t m) ≡ take t cells ++ (m ∷ []) =
    take-suc (set cells t m) t 0 s ∙ rw (take-set-le t cells t m (omega arith), get_or-set_same cells t m 0 h) in
    let q : spread most (drop t cells) ≡ m ∷ spread m (drop (suc t) cells) =
    ap (spread most) (drop-cons cells t 0 h) ∙ spread_next most c (drop (suc t) cells) ∙ rw e in
    ap (λ (l : List ℕ). take t cells ++ l) q
    ∙ shift (take t cells) (spread m (drop (suc t) cells)) m
    ∙ rw (add-one t, p, drop-set-lt (suc t) cells t m (omega arith))

pub spread_end : (cells : List ℕ) (most t : ℕ) → length cells ≤ t → onwards cells most t ≡ cells
unfolding spread
spread_end cells most t h = let e : drop t cells
    ≡ [] = drop_of_length-le cells h in rw (e, take_all t cells h) (append-nil cells)
