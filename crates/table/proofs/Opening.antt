-- A slice that is opened for cells to put in, the last first: a gap stands before those that are in. Assumes nothing.
use mathlib.Core.Path.{◌≡◌, sym, ap, ◌∙◌}
use mathlib.Core.List.{List, [], ◌++◌, append_assoc}
use Prim.Native.Nat.{ℕ, ◌+◌, ◌-◌, ◌≤◌}
use native.Mathlib.Omega.{arith}
use lib.ListN.{length, take, drop, length-append, length-take, length-drop, take-append-drop, drop_of_length-le}
use lib.Seq.{length-take-le, take_all, take_at, drop_at, drop-drop}
use Rattle.dna.specs.Text.{over}
use Rattle.table.proofs.Writing.{Wrote, same_front, same_part}

-- Cells as they shall be, and the rest behind them: they stand in the slice up to the end, and from there on a gap
-- further up.
pub record Opened (cells rest s : List ℕ) (end gap : ℕ) : Type 0 where
  pub low : take end s ≡ take end cells
  pub high : drop (end + gap) s ≡ drop end cells ++ rest

pub opened_none : (cells tail s : List ℕ) (end gap : ℕ) → length cells ≡ end → cells ++ tail ≡ s
    → Opened cells (drop (end + gap) s) s end gap
opened_none cells tail s end gap l e =
    let none : drop end cells ≡ [] = drop_of_length-le cells {i = end} (omega arith) in
    record {
      low = ap (take end) (sym e) ∙ take_at cells tail end l
          ∙ sym (take_all end cells (omega arith));
      high = rw none;
    }

-- What stands from a place up to the end moves up to what is behind the gap, and new cells are put in before it.
pub opened_more : {cells rest s s₁ s₂ cells' : List ℕ} {end gap : ℕ} (i rise : ℕ) (xs : List ℕ)
    → Opened cells rest s end gap → i ≤ end
    → end + gap ≤ length s → gap ≡ rise + length xs → Wrote s (i + gap) (take (end - i) (drop i s)) s₁
    → Wrote s₁ (i + rise) xs s₂
    → cells' ≡ take i cells ++ (xs ++ drop i cells) → Opened cells' rest s₂ i rise
opened_more {cells} {rest} {s} {s₁} {s₂} {cells'} {end} {gap} i rise xs h l room g v w c =
    let part = take (end - i) (drop i cells) in
    let long : length (take (end - i) (drop i s))
    ≡ end - i = length-take-le (end - i) (drop i s) (omega (arith, length-drop i s)) in
    let above : length (take i cells) ≡ i
    = length-take-le i cells (omega (arith, length-take end cells, length-take end s, ap length h.low)) in
    let same : take (end - i) (drop i s) ≡ part = same_part end s cells h.low i (end - i) (omega arith) in
    let seam : i + rise + length xs ≡ i + gap = omega arith in
    let last : i + gap + length (take (end - i) (drop i s)) ≡ end + gap = omega arith in
    let upto : i + (end - i) ≡ end = omega arith in
    let split : part ++ drop end cells ≡ drop i cells
    = ap (λ (z : List ℕ). part ++ z) (sym (drop-drop (end - i) i cells ∙ ap (λ (z : ℕ). drop z cells) upto))
    ∙ take-append-drop (end - i) (drop i cells) in
    let moved : drop (i + gap) s₁ ≡ drop i cells ++ rest
    = v.behind ∙ ap (λ (z : ℕ). take (end - i) (drop i s) ++ drop z s) last
    ∙ ap (λ (z : List ℕ). z ++ drop (end + gap) s) same
    ∙ ap (λ (z : List ℕ). part ++ z) h.high
    ∙ sym (append_assoc part (drop end cells) rest)
    ∙ ap (λ (z : List ℕ). z ++ rest) split in
    record {
      low = same_front (i + rise) s₂ s₁ w.front i (omega arith)
          ∙ same_front (i + gap) s₁ s v.front i (omega arith)
          ∙ same_front end s cells h.low i l
          ∙ sym (ap (take i) c ∙ take_at (take i cells) (xs ++ drop i cells) i above);
      high = w.behind ∙ ap (λ (z : ℕ). xs ++ drop z s₁) seam
          ∙ ap (λ (z : List ℕ). xs ++ z) moved
          ∙ sym (append_assoc xs (drop i cells) rest)
          ∙ ap (λ (z : List ℕ). z ++ rest) (sym (ap (drop i) c ∙ drop_at (take i cells) (xs ++ drop i cells) i above));
    }

pub opened_all : {cells s : List ℕ} (s₀ : List ℕ) (total end gap : ℕ) → Opened cells (drop total s₀) s end gap → gap ≡ 0
    → total ≤ length s₀
    → length s ≡ length s₀ → s ≡ over cells s₀
opened_all {cells} {s} s₀ total end gap h g room long =
    let e : end + gap ≡ end = omega arith in
    let whole : s ≡ cells ++ drop total s₀
    = sym (take-append-drop end s)
    ∙ ap (λ (z : List ℕ). z ++ drop end s) h.low
    ∙ ap (λ (z : List ℕ). take end cells ++ z) (ap (λ (z : ℕ). drop z s) (sym e) ∙ h.high)
    ∙ sym (append_assoc (take end cells) (drop end cells) (drop total s₀))
    ∙ ap (λ (z : List ℕ). z ++ drop total s₀) (take-append-drop end cells) in
    let all : length cells ≡ total = omega
    (arith, ap length whole, length-append cells (drop total s₀), length-drop total s₀) in
    whole ∙ ap (λ (z : ℕ). cells ++ drop z s₀) (sym all)
