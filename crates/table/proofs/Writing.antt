-- Cells written into a slice: what stands before them, and from them on. Assumes nothing.
use mathlib.Core.Path.{◌≡◌, sym, ap, ◌∙◌}
use mathlib.Core.List.{List, [], ◌∷◌, ◌++◌, append_assoc}
use Prim.Native.Nat.{ℕ, zero, suc, ◌+◌, ◌≤◌}
use native.Mathlib.Nat.{zero-add, suc-add}
use native.Mathlib.Omega.{arith}
use lib.ListN.{length, take, drop}
use lib.Seq.{paste, sets, sets-eq, length-take-le, take_at, drop_at, take-nil, take-take}

pub record Wrote (s : List ℕ) (at : ℕ) (cells s' : List ℕ) : Type 0 where
  pub front : take at s' ≡ take at s
  pub behind : drop at s' ≡ cells ++ drop (at + length cells) s

module _ (s : List ℕ) (at : ℕ) (cells : List ℕ) where
  wrote_is : {s' : List ℕ} → at ≤ length s → s' ≡ take at s ++ cells ++ drop (at + length cells) s → Wrote s at cells s'
  wrote_is h e =
      let whole = e ∙ append_assoc (take at s) cells (drop (at + length cells) s) in
      let long : length (take at s) ≡ at = length-take-le at s h in
      record {
        front = ap (take at) whole ∙ take_at (take at s) (cells ++ drop (at + length cells) s) at long;
        behind = ap (drop at) whole ∙ drop_at (take at s) (cells ++ drop (at + length cells) s) at long;
      }

  pub wrote_cells : at + length cells ≤ length s → Wrote s at cells (sets s at cells)
  wrote_cells h = wrote_is (omega arith) (sets-eq cells s at h)

pub wrote_part : (s : List ℕ) (at : ℕ) (l : List ℕ) (n : ℕ) {s' : List ℕ} → at ≤ length s → n ≤ length l
    → s' ≡ paste s at l n → Wrote s at (take n l) s'
wrote_part s at l n h k e = let long : length (take n l)
    ≡ n = length-take-le n l k in wrote_is s at (take n l) h (rw long e)

-- A part of a list is one of its front.
pub part_front : (i k : ℕ) (l : List ℕ) → take k (drop i l) ≡ drop i (take (i + k) l)
part_front zero k l = rw (zero-add k)
part_front (suc i) k [] = take-nil k ∙ rw (take-nil (suc i + k))
part_front (suc i) k (x ∷ l) = let e : suc i + k ≡ suc (i + k) = suc-add i k in rw e (part_front i k l)

-- Fronts that agree have the same fronts and the same parts.
module _ (n : ℕ) (a b : List ℕ) (e : take n a ≡ take n b) where
  pub same_front : (i : ℕ) → i ≤ n → take i a ≡ take i b
  same_front i h = sym (take-take i n a h) ∙ ap (take i) e ∙ take-take i n b h

  pub same_part : (i k : ℕ) → i + k ≤ n → take k (drop i a) ≡ take k (drop i b)
  same_part i k h = part_front i k a ∙ ap (drop i) (same_front (i + k) h) ∙ sym (part_front i k b)
