-- The first n keys of a slice tallied one after another. Assumes nothing.
use mathlib.Core.Path.{◌≡◌, sym, ap, ◌∙◌}
use mathlib.Core.List.{List, []}
use Prim.Native.Nat.{ℕ, ◌+◌, ◌/◌, ◌≤◌, ◌<◌}
use native.Mathlib.Numerals.{add-one}
use native.Mathlib.Omega.{arith}
use lib.ListN.{length, get_or, set, drop, drop_of_length-le}
use lib.Seq.{drop-cons}
use Rattle.graph.specs.Table.{keys_of}
use Rattle.graph.proofs.Keys.{keys_length}
use Rattle.table.specs.Search.{key}
use Rattle.table.proofs.Keys.{key_is}
use Rattle.directory.specs.Directory.{tallied}

one_more_lem : (slot : ℕ → ℕ) (ks cells : List ℕ) (i : ℕ) → i < length ks
    → tallied slot i (drop i ks) cells
    ≡ tallied slot (i + 1) (drop (i + 1) ks) (set cells (slot (get_or ks i 0) + 1) (i + 1))
unfolding tallied
one_more_lem slot ks cells i h = rw (add-one i, add-one (slot (get_or ks i 0)), drop-cons ks i 0)

module _ (slot : ℕ → ℕ) (n : ℕ) (words cells : List ℕ) (i : ℕ) (l : n ≤ length words / 2) where
  -- Key i is in slot t.
  pub tally_next : (t : ℕ) → i < n → t ≡ slot (key words i)
      → tallied slot i (drop i (keys_of n words)) cells
      ≡ tallied slot (i + 1) (drop (i + 1) (keys_of n words)) (set cells (t + 1) (i + 1))
  tally_next t h e =
      let s = keys_length n words in
      one_more_lem slot (keys_of n words) cells i (omega arith)
      ∙ ap (λ (m : ℕ). tallied slot (i + 1) (drop (i + 1) (keys_of n words)) (set cells (m + 1) (i + 1)))
      (ap slot (key_is n words i h (omega arith)) ∙ sym e)

  pub tally_end : n ≤ i → tallied slot i (drop i (keys_of n words)) cells ≡ cells
  unfolding tallied
  tally_end h =
      let s = keys_length n words in
      let e : drop i (keys_of n words) ≡ [] = drop_of_length-le (keys_of n words) {i = i} (omega arith) in
      rw e
