-- A text written into a slice cell by cell or part by part, from the first cell on. Assumes nothing.
use mathlib.Core.Path.{◌≡◌, refl, sym, ap, ◌∙◌}
use mathlib.Core.List.{List, ◌++◌, append_assoc, append-nil}
use Prim.Native.Nat.{ℕ, suc, ◌+◌, ◌-◌, ◌≤◌, ◌<◌}
use native.Mathlib.Numerals.{add-one}
use native.Mathlib.Omega.{arith}
use borrow.Rule.Slice.PartMut.{put_mid, Post-is}
use lib.ListN.{length, get_or, take, drop, set, replicate, drop_of_length-le, length-replicate, get_or-replicate}
use lib.Seq.{length-take-le, take-suc, take-add, take_at, drop_at, drop-cons, append_snoc, set_at, take-length}

-- The slice has the text's first i cells, and is as it was behind them.
pub record Built (text slice₀ slice : List ℕ) (i : ℕ) : Type 0 where
  pub within : i ≤ length text
  pub cells : slice ≡ take i text ++ drop i slice₀

pub built_none : (text slice₀ : List ℕ) → Built text slice₀ slice₀ 0
built_none text slice₀ = record { within = omega arith; cells = refl }

module _ (text slice₀ slice : List ℕ) (i : ℕ) (b : Built text slice₀ slice i) where
  -- One cell more.
  pub built_more : (v : ℕ) → i < length text → i < length slice₀ → v ≡ get_or text i 0 → Built text slice₀ (set slice i v) (i + 1)
  built_more v ht hs e =
      let l : i ≤ length text = omega arith in
      record {
        within = omega arith;
        cells = rw (b.cells, add-one, drop-cons slice₀ i 0 hs, take-suc text i 0 ht, append_snoc, e)
            (set_at (take i text) (get_or slice₀ i 0) (drop (suc i) slice₀) (get_or text i 0) i (length-take-le i text l));
      }

  -- All of it.
  pub built_all : length text ≤ i → slice ≡ text ++ drop (length text) slice₀
  built_all h = let e : i ≡ length text = omega (arith, b.within) in b.cells ∙ rw (e, take-length)

  -- The same of a text as long as the slice.
  pub built_whole : length text ≡ length slice₀ → length slice₀ ≤ i → slice ≡ text
  built_whole e h =
      let l : length slice₀ ≤ length text = omega arith in
      built_all (omega arith) ∙ rw (drop_of_length-le slice₀ l) (append-nil text)

  -- A part, which was lent from cell i up to cell j.
  pub built_part : (j : ℕ) (part : List ℕ) → i ≤ j → j ≤ length text → part ≡ take (j - i) (drop i text)
      → Built text slice₀ (put_mid i (j - i) slice part) j
  built_part j part l t p =
      let n : length (take i text) ≡ i = length-take-le i text b.within in
      let front : take i slice ≡ take i text = ap (take i) b.cells ∙ take_at (take i text) (drop i slice₀) i n in
      let back : drop i slice ≡ drop i slice₀ = ap (drop i) b.cells ∙ drop_at (take i text) (drop i slice₀) i n in
      let e : j ≡ i + (j - i) = omega arith in
      let both : take j text ≡ take i text ++ take (j - i) (drop i text) =
      ap (λ (m : ℕ). take m text) e ∙ take-add i (j - i) text in
      record { within = t; cells = rw (front, back, Post-is i j slice₀ l, p, both, append_assoc) }

-- Each cell set to one value.
module _ (v : ℕ) (slice₀ slice : List ℕ) (i : ℕ) (b : Built (replicate (length slice₀) v) slice₀ slice i) where
  pub alike_more : i < length slice₀ → Built (replicate (length slice₀) v) slice₀ (set slice i v) (i + 1)
  alike_more h =
      built_more (replicate (length slice₀) v) slice₀ slice i b v (omega (arith, length-replicate (length slice₀) v)) h
      (sym (get_or-replicate (length slice₀) i v 0 h))

  pub alike_all : length slice₀ ≤ i → slice ≡ replicate (length slice₀) v
  alike_all h = built_whole (replicate (length slice₀) v) slice₀ slice i b (length-replicate (length slice₀) v) h
