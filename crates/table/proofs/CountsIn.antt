-- The counts of new vertices put in one by one, the last first. Assumes nothing.
use mathlib.Core.Path.{◌≡◌, refl}
use mathlib.Core.List.{List, [], ◌∷◌}
use Prim.Native.Nat.{ℕ, ◌+◌, ◌-◌, ◌≤◌, ◌<◌}
use native.Mathlib.Omega.{arith}
use lib.ListN.{length, get_or, set, take, drop, length-drop, take-append-drop}
use lib.Seq.{paste, length-take-le, get_or-take}
use Rattle.dna.specs.Text.{over}
use Rattle.table.specs.Join.{put_in}
use Rattle.table.proofs.Writing.{wrote_part, wrote_cells}
use Rattle.table.proofs.Opening.{Opened, opened_none, opened_more, opened_all}
use Rattle.table.proofs.Entering.{put_from, Upto, put_before, put_last}

-- The counts as they shall be, those of the vertices before the j-th left out.
abbrev pub counts_from : ℕ → ℕ → List ℕ → List ℕ → List ℕ → ℕ → List ℕ
counts_from n m places new counts₀ j = put_from j (take m places) (take m new) (take n counts₀)

module _ (n m : ℕ) (places : List ℕ) (l : m ≤ length places) (new counts₀ : List ℕ) (k : m ≤ length new)
    (room : n + m ≤ length counts₀) where
  pub counts_none : Opened (counts_from n m places new counts₀ m) (drop (n + m) counts₀) counts₀ n m
  counts_none =
      rw (put_last n m places l (take m new) (take n counts₀))
      (opened_none (take n counts₀) (drop n counts₀) counts₀ n m (length-take-le n counts₀ (omega arith))
      (take-append-drop n counts₀))

  pub counts_more : {s s₁ : List ℕ} (end j : ℕ) → Upto n m places end j
      → Opened (counts_from n m places new counts₀ j) (drop (n + m) counts₀) s end j
      → length s ≡ length counts₀ → 0 < j
      → s₁ ≡ paste s (get_or places (j - 1) 0 + (j - 1) + 1) (drop (get_or places (j - 1) 0) s)
      (end - get_or places (j - 1) 0)
      → length s₁ ≡ length s
      → Opened (counts_from n m places new counts₀ (j - 1)) (drop (n + m) counts₀)
      (set s₁ (get_or places (j - 1) 0 + (j - 1)) (get_or new (j - 1) 0)) (get_or places (j - 1) 0) (j - 1)
  counts_more {s} {s₁} end j u o long h e kept =
      let i = get_or places (j - 1) 0 in
      let b : i ≤ end = u.next (j - 1) (omega arith) in
      let x : get_or (take m new) (j - 1) 0 ≡ get_or new (j - 1) 0 = get_or-take m new (j - 1) 0 (omega arith) in
      let c = put_before n m places l (take m new) (take n counts₀) j h u.left
      (omega (arith, length-take-le m new k)) in
      let top : end + j ≤ length s = omega arith in
      let at : i + (j - 1) + 1 ≡ i + j = omega arith in
      opened_more i (j - 1) (get_or new (j - 1) 0 ∷ []) o b top (omega arith)
      (wrote_part s (i + j) (drop i s) (end - i) (omega arith) (omega (arith, length-drop i s)) (rw at at e))
      (wrote_cells s₁ (i + (j - 1)) (get_or new (j - 1) 0 ∷ []) (omega arith))
      (rw x at c)

  pub counts_all : {s : List ℕ} (end j : ℕ)
      → Opened (counts_from n m places new counts₀ j) (drop (n + m) counts₀) s end j → length s ≡ length counts₀ → j ≡ 0
      → s ≡ over (put_in (take m places) (take m new) (take n counts₀)) counts₀
  counts_all {s} end j o long e = opened_all counts₀ (n + m) end 0 (rw e at o) refl room long
