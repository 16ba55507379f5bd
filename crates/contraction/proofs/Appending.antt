-- One label more behind some that stand end to end: their text, their starts and their lengths. Assumes nothing.
use mathlib.Core.Path.{◌≡◌, refl, ap, ◌∙◌}
use mathlib.Core.List.{List, [], ◌∷◌, ◌++◌, map-append, append_assoc, append-nil}
use Prim.Native.Nat.{ℕ, ◌+◌}
use native.Mathlib.Nat.{add-zero, zero-add}
use native.Mathlib.Omega.{arith}
use lib.ListN.{length, length-append, length-map}
use Rattle.graph.specs.Contraction.{Entry, entries, end_to_end}
use Rattle.contraction.specs.Says.{starts_of, lengths_of}

pub end_to_end_snoc : (ls : List (List ℕ)) (l : List ℕ) → end_to_end (ls ++ (l ∷ [])) ≡ end_to_end ls ++ l
unfolding end_to_end
end_to_end_snoc [] l = append-nil l
end_to_end_snoc (m ∷ ls) l = rw (end_to_end_snoc ls l, append_assoc)

entries_snoc : (at : ℕ) (ls : List (List ℕ)) (l : List ℕ)
    → entries at (ls ++ (l ∷ [])) ≡ entries at ls ++ (record { start = at + length (end_to_end ls); label = l } ∷ [])
unfolding entries end_to_end
entries_snoc at [] l = rw add-zero
entries_snoc at (m ∷ ls) l =
    let e : at + length m + length (end_to_end ls) ≡ at + length
    (m ++ end_to_end ls) = omega (arith, length-append m (end_to_end ls)) in
    ap (λ (es : List Entry). record { start = at; label = m } ∷ es) (entries_snoc (at + length m) ls l ∙ rw e)

pub length_entries : (at : ℕ) (ls : List (List ℕ)) → length (entries at ls) ≡ length ls
unfolding entries
length_entries at [] = refl
length_entries at (l ∷ ls) = rw (length_entries (at + length l) ls)

module _ (ls : List (List ℕ)) where
  pub length_starts : length (starts_of (entries 0 ls)) ≡ length ls
  length_starts = length-map (entries 0 ls) (λ (e : Entry). e.start) ∙ length_entries 0 ls

  pub length_lengths : length (lengths_of (entries 0 ls)) ≡ length ls
  length_lengths = length-map (entries 0 ls) (λ (e : Entry). length e.label) ∙ length_entries 0 ls

  pub starts_snoc : (l : List ℕ) → starts_of (entries 0 (ls ++ (l ∷ []))) ≡ starts_of (entries 0 ls) ++
      (length (end_to_end ls) ∷ [])
  starts_snoc l = rw (entries_snoc 0 ls l, map-append, zero-add)

  pub lengths_snoc : (l : List ℕ) → lengths_of (entries 0 (ls ++ (l ∷ []))) ≡ lengths_of (entries 0 ls) ++
      (length l ∷ [])
  lengths_snoc l = rw (entries_snoc 0 ls l, map-append)
