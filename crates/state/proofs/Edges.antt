-- What `edge_at` tells of a side: E for no retained edge, the base for one, N for more; so that every other question
-- about a side can be asked of it. At cutoff 0 it is N, and a cutoff above the top isolates. Assumes nothing.
use mathlib.Core.Path.{◌≡◌, refl, sym, ◌∙◌, subst}
use mathlib.Core.Logic.{◌↔◌}
use mathlib.Core.Bool.{true, ◌&&◌}
use mathlib.Core.List.Memᴰ
use mathlib.Core.List.{List, [], ◌∷◌, Memᴰ}
use Prim.Native.Nat.{ℕ, zero, suc, ◌≤◌, ◌<◌}
use native.Mathlib.Nat.{add-zero}
use native.Mathlib.Omega.{arith}
use lib.Dec.{ltb, eqb, leb-zero}
use lib.ListN.{length}
use borrow.Author.Tests.{lt-leb, lt-ltb, ne_eqb}
use Rattle.state.specs.Counted.{Kind, top, slot_of, count, retained, single, edge_at, edge_count}
use Rattle.state.specs.Counted.{is_branching, is_empty, is_isolated}
use Rattle.state.specs.Parts.{Tallied}
use Rattle.state.specs.declared.Side.{Side}
use Rattle.state.specs.declared.Side.TheVariants.{Front, Back}
use Rattle.state.proofs.Counters.{count_le}
use Rattle.state.proofs.Retained.{total, retained_exactly, Below}

-- What holds of no base, of one below 4 and of more holds of a list of such bases.
single_by :
    (P : ℕ → ℕ → Type 0) → P 0 5 → ((e : ℕ) → e < 4 → P 1 e) → ((n : ℕ) → 1 < n → P n 4) →
    (l : List ℕ) → ((x : ℕ) → Memᴰ x l → x < 4) → P (length l) (single l)
unfolding single
single_by P none one many [] below = none
single_by P none one many (b ∷ []) below = one b (below b (Memᴰ.head refl))
single_by P none one many (b ∷ c ∷ l) below = many (length (b ∷ c ∷ l)) (omega arith)

-- The one base of a list is its only member, and its sum.
single_only : (l : List ℕ) → length l ≡ 1 → (x : ℕ) → Memᴰ x l ↔ (x ≡ single l)
unfolding single
single_only [] h x = absurd (omega arith)
single_only (b ∷ []) h x = (Memᴰ.eq_of_singleton, Memᴰ.head)
single_only (b ∷ c ∷ l) h x = absurd (omega arith)

single_total : (l : List ℕ) → length l ≡ 1 → single l ≡ total l
unfolding single total
single_total [] h = absurd (omega arith)
single_total (b ∷ []) h = sym (add-zero b)
single_total (b ∷ c ∷ l) h = absurd (omega arith)

module _ (κ : Kind) (cutoff w : ℕ) (s : Side) where
  -- What holds of no edge, of one and of more holds of a side's number of edges and its `edge_at`.
  edge_by :
      (P : ℕ → ℕ → Type 0) → P 0 5 → ((e : ℕ) → e < 4 → P 1 e) → ((n : ℕ) → 1 < n → P n 4) →
      P (edge_count κ cutoff w s) (edge_at κ cutoff w s)
  unfolding edge_count edge_at
  edge_by P none one many =
      single_by P none one many (retained κ cutoff w s 4 0) (λ x i. ((retained_exactly κ cutoff w s x).0 i).0)

  pub edge_le : edge_at κ cutoff w s ≤ 5
  edge_le = edge_by (λ n e. e ≤ 5) (omega arith) (λ e h. omega arith) (λ n h. omega arith)

  pub edge_none : (edge_at κ cutoff w s ≡ 5) ↔ (edge_count κ cutoff w s ≡ 0)
  edge_none =
      edge_by (λ n e. (e ≡ 5) ↔ (n ≡ 0)) (λ _. refl, λ _. refl) (λ e h. (λ q. omega arith, λ q. omega arith))
      (λ n h. (λ q. omega arith, λ q. omega arith))

  pub edge_one : (edge_at κ cutoff w s < 4) ↔ (edge_count κ cutoff w s ≡ 1)
  edge_one =
      edge_by (λ n e. (e < 4) ↔ (n ≡ 1)) (λ q. omega arith, λ q. omega arith) (λ e h. (λ _. refl, λ _. h))
      (λ n h. (λ q. omega arith, λ q. omega arith))

  pub edge_many : (edge_at κ cutoff w s ≡ 4) ↔ (1 < edge_count κ cutoff w s)
  edge_many =
      edge_by (λ n e. (e ≡ 4) ↔ (1 < n)) (λ q. omega arith, λ q. omega arith)
      (λ e h. (λ q. omega arith, λ q. omega arith)) (λ n h. (λ _. h, λ _. refl))

  -- The one edge is the one base whose count is at least the cutoff.
  pub edge_base :
      edge_at κ cutoff w s < 4 → (x : ℕ) →
      ((x < 4) × (cutoff ≤ count κ w (slot_of s x))) ↔ (x ≡ edge_at κ cutoff w s)
  unfolding edge_count edge_at
  edge_base h x =
      let only = single_only (retained κ cutoff w s 4 0) (edge_one.0 h) x in
      let lists = retained_exactly κ cutoff w s x in
      (λ k. only.0 (lists.1 k), λ e. lists.0 (only.1 e))

  -- All four added up: where the side has one edge, the sum is its base.
  pub below_all : {n edges codes : ℕ} → Below κ cutoff w s n edges codes → n ≡ 4 → Tallied κ cutoff w s edges codes
  unfolding edge_count edge_at
  below_all {edges = edges} {codes = codes} b e =
      let t = subst (λ m. Below κ cutoff w s m edges codes) e b in
      record { edges = t.number; codes = λ one. t.sum ∙ sym (single_total _ (sym t.number ∙ one)) }

  pub empty_edge : is_empty κ cutoff w s ≡ eqb (edge_at κ cutoff w s) 5
  empty_edge =
      edge_by (λ n e. eqb n 0 ≡ eqb e 5) refl (λ e h. sym (ne_eqb e 5 (λ q. omega arith)))
      (λ n h. ne_eqb n 0 (λ q. omega arith))

  pub branching_edge : is_branching κ cutoff w s ≡ eqb (edge_at κ cutoff w s) 4
  branching_edge =
      edge_by (λ n e. ltb 1 n ≡ eqb e 4) refl (λ e h. sym (ne_eqb e 4 (λ q. omega arith))) (λ n h. lt-ltb 1 n h)

  -- Where every counter is below the cutoff, the side has no edge.
  edge_below : ((j : ℕ) → count κ w j < cutoff) → edge_at κ cutoff w s ≡ 5
  unfolding edge_at single retained
  edge_below h = rw (none_retained 4 0)
    where
      none_retained : (m b : ℕ) → retained κ cutoff w s m b ≡ []
      none_retained zero b = refl
      none_retained (suc m) b =
          rw (lt-leb cutoff (count κ w (slot_of s b)) (h (slot_of s b))) (none_retained m (suc b))

-- A vertex is isolated where both of its sides answer E.
pub isolated_edges :
    (κ : Kind) (cutoff w : ℕ)
    → is_isolated κ cutoff w ≡ (eqb (edge_at κ cutoff w Front) 5 && eqb (edge_at κ cutoff w Back) 5)
isolated_edges κ cutoff w = rw (empty_edge κ cutoff w Front, empty_edge κ cutoff w Back)

-- Cutoff 0 gives N everywhere.
pub cutoff_zero : (κ : Kind) (w : ℕ) (s : Side) → edge_at κ 0 w s ≡ 4
unfolding edge_at retained single
cutoff_zero κ w s = simp leb-zero

-- A cutoff above the top isolates everything.
pub cutoff_above : (κ : Kind) (cutoff w : ℕ) → top κ < cutoff → is_isolated κ cutoff w ≡ true
cutoff_above κ cutoff w h =
    let below : (j : ℕ) → count κ w j < cutoff = λ j. omega (arith, count_le κ w j) in
    rw (isolated_edges κ cutoff w, edge_below κ cutoff w Front below, edge_below κ cutoff w Back below)
