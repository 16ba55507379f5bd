-- The marks that words of counters give: the words' ends, none visited. Assumes nothing.
use mathlib.Core.Path.{◌≡◌, refl, ap₂}
use mathlib.Core.List.{List, [], ◌∷◌, map}
use Prim.Native.Nat.{ℕ, zero, suc, ◌+◌, ◌*◌, ◌/◌, ◌%◌, ◌≤◌, ◌<◌}
use native.Mathlib.Omega.{arith}
use lib.ListN.{length, replicate}
use Rattle.lemmas.proofs.Numbers.{div_is}
use Rattle.state.specs.declared.Side.{Side}
use Rattle.state.specs.declared.Side.TheVariants.{Front, Back}
use Rattle.state.specs.Counted.{Kind, edge_at}
use Rattle.state.proofs.Edges.{edge_le}
use Rattle.graph.specs.Walks.{Ends, ends_of, edge}
use Rattle.marks.specs.Marks.{end_in, mark_of, ends_marked, ends, visits}

mark_back : (f b : ℕ) → f ≤ 5 → b ≤ 5 → (f + 8 * b) / 8 % 8 ≡ b
mark_back f b l m =
    let q : (f + 8 * b) / 8 ≡ b = div_is (f + 8 * b) 8 b f (omega arith) (omega arith) in
    omega arith

module _ (κ : Kind) (cutoff : ℕ) where
  abbrev mark : ℕ → ℕ
  mark w = mark_of κ cutoff w

  mark_ends : (w : ℕ) → ends_marked (mark w) ≡ ends_of κ cutoff w
  mark_ends w =
      let f : end_in (mark w) Front ≡ edge_at κ cutoff w Front = omega (arith, edge_le κ cutoff w Front) in
      let b : end_in (mark w) Back ≡ edge_at κ cutoff w Back =
      mark_back _ _ (edge_le κ cutoff w Front) (edge_le κ cutoff w Back) in
      rw (f, b)

  mark_small : (w : ℕ) → mark w < 64
  mark_small w = omega (arith, edge_le κ cutoff w Front, edge_le κ cutoff w Back)

  pub marks_ends : (ws : List ℕ) → ends (map mark ws) ≡ map (ends_of κ cutoff) ws
  unfolding ends
  marks_ends [] = refl
  marks_ends (w ∷ ws) = ap₂ (λ (e : Ends) (es : List Ends). e ∷ es) (mark_ends w) (marks_ends ws)

  pub marks_clean : (ws : List ℕ) → visits (map mark ws) ≡ replicate (length (map mark ws)) 0
  unfolding visits
  marks_clean [] = refl
  marks_clean (w ∷ ws) =
      let z : mark w / 64 ≡ 0 = omega (arith, mark_small w) in
      ap₂ (λ (x : ℕ) (xs : List ℕ). x ∷ xs) z (marks_clean ws)

  -- Each end is E, a base or N.
  pub known : (ws : List ℕ) (v : ℕ) (s : Side) → edge (map (ends_of κ cutoff) ws) v s ≤ 5
  known [] v Front = omega arith
  known [] v Back = omega arith
  known (w ∷ ws) zero Front = edge_le κ cutoff w Front
  known (w ∷ ws) zero Back = edge_le κ cutoff w Back
  known (w ∷ ws) (suc v) s = known ws v s
