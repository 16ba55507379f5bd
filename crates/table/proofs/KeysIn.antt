-- The words of new vertices' keys put in one by one, the last first. Assumes nothing.
use mathlib.Core.Path.{◌≡◌, refl, sym, ap, ◌∙◌}
use mathlib.Core.List.{List, [], ◌∷◌}
use Prim.Native.Nat.{ℕ, suc, ◌+◌, ◌-◌, ◌*◌, ◌/◌, ◌^◌, ◌≤◌, ◌<◌}
use native.Mathlib.Omega.{arith}
use lib.ListN.{length, get_or, set, take, drop, length-drop}
use lib.Seq.{paste}
use Rattle.dna.specs.Text.{over}
use Rattle.kmer.specs.Kmer.{joined}
use Rattle.graph.specs.Table.{keys_of, words_of}
use Rattle.graph.proofs.Keys.{keys_length, words_length, words_keys}
use Rattle.table.specs.Join.{put_in}
use Rattle.table.proofs.Keys.{key_is}
use Rattle.table.proofs.Inserting.{words_insert}
use Rattle.table.proofs.Writing.{wrote_part, wrote_cells}
use Rattle.table.proofs.Opening.{Opened, opened_none, opened_more, opened_all}
use Rattle.table.proofs.Entering.{put_from, Upto, put_before, put_last}

-- The words as they shall be, those of the vertices before the j-th left out.
abbrev pub words_from : ℕ → ℕ → List ℕ → List ℕ → List ℕ → ℕ → List ℕ
words_from n m places new keys₀ j = words_of (put_from j (take m places) (keys_of m new) (keys_of n keys₀))

module _ (n m : ℕ) (places : List ℕ) (l : m ≤ length places) (new keys₀ : List ℕ) (k : m ≤ length new / 2)
    (room : n + m ≤ length keys₀ / 2) where
  pub words_none : ((i : ℕ) → get_or keys₀ i 0 < 2 ^ 64)
      → Opened (words_from n m places new keys₀ m) (drop (2 * n + 2 * m) keys₀) keys₀ (2 * n) (2 * m)
  words_none fits =
      rw (put_last n m places l (keys_of m new) (keys_of n keys₀))
      (opened_none (words_of (keys_of n keys₀)) (drop (2 * n) keys₀) keys₀ (2 * n) (2 * m)
      (omega (arith, words_length (keys_of n keys₀), keys_length n keys₀)) (words_keys n keys₀ (omega arith) fits))

  pub words_more : {s s₁ s₂ : List ℕ} (end j : ℕ) → Upto n m places end j
      → Opened (words_from n m places new keys₀ j) (drop (2 * n + 2 * m) keys₀) s (2 * end) (2 * j)
      → length s ≡ length keys₀ → 0 < j
      → s₁ ≡ paste s (2 * (get_or places (j - 1) 0 + (j - 1) + 1)) (drop (2 * get_or places (j - 1) 0) s)
      (2 * end - 2 * get_or places (j - 1) 0)
      → length s₁ ≡ length s → ((i : ℕ) → get_or new i 0 < 2 ^ 64)
      → s₂ ≡ set (set s₁ (2 * (get_or places (j - 1) 0 + (j - 1))) (get_or new (2 * (j - 1)) 0))
      (2 * (get_or places (j - 1) 0 + (j - 1)) + 1) (get_or new (2 * (j - 1) + 1) 0)
      → Opened (words_from n m places new keys₀ (j - 1)) (drop (2 * n + 2 * m) keys₀) s₂ (2 * get_or places (j - 1) 0)
      (2 * (j - 1))
  words_more {s} {s₁} end j u o long h e kept fits f =
      let i = get_or places (j - 1) 0 in
      let lo = get_or new (2 * (j - 1)) 0 in
      let hi = get_or new (2 * (j - 1) + 1) 0 in
      let b : i ≤ end = u.next (j - 1) (omega arith) in
      let top : 2 * end + 2 * j ≤ length s = omega arith in
      let x : get_or (keys_of m new) (j - 1) 0 ≡ joined lo hi = key_is m new (j - 1) (omega arith) (omega arith) in
      let c = put_before n m places l (keys_of m new) (keys_of n keys₀) j h u.left (omega (arith, keys_length m new)) in
      let above : 2 * (i + (j - 1) + 1) ≡ 2 * i + 2 * j = omega arith in
      let at : 2 * (i + (j - 1)) ≡ 2 * i + 2 * (j - 1) = omega arith in
      let next : 2 * i + 2 * (j - 1) + 1 ≡ suc (2 * i + 2 * (j - 1)) = omega arith in
      rw (f, at, next)
      (opened_more (2 * i) (2 * (j - 1)) (lo ∷ hi ∷ []) o (omega arith) top (omega arith)
      (wrote_part s (2 * i + 2 * j) (drop (2 * i) s) (2 * end - 2 * i) (omega arith)
      (omega (arith, length-drop (2 * i) s)) (rw above at e))
      (wrote_cells s₁ (2 * i + 2 * (j - 1)) (lo ∷ hi ∷ []) (omega arith))
      (ap words_of (rw x at c) ∙ sym (words_insert i
      (put_from j (take m places) (keys_of m new) (keys_of n keys₀)) lo hi (fits (2 * (j - 1))))))

  pub words_all : {s : List ℕ} (end j : ℕ)
      → Opened (words_from n m places new keys₀ j) (drop (2 * n + 2 * m) keys₀) s (2 * end) (2 * j)
      → length s ≡ length keys₀ → j ≡ 0
      → s ≡ over (words_of (put_in (take m places) (keys_of m new) (keys_of n keys₀))) keys₀
  words_all {s} end j o long e = opened_all keys₀ (2 * n + 2 * m) (2 * end) 0 (rw e at o) refl (omega arith) long
