-- A k-mer put in among others, as words. Assumes nothing.
use mathlib.Core.Path.{◌≡◌}
use mathlib.Core.List.{List, ◌∷◌, ◌++◌}
use Prim.Native.Nat.{ℕ, ◌*◌, ◌^◌, ◌<◌}
use native.Mathlib.Omega.{arith}
use lib.ListN.{take, drop}
use Rattle.kmer.specs.Kmer.{low, high, joined}
use Rattle.graph.specs.Table.{words_of, insert_at}
use Rattle.graph.proofs.Keys.{words_append, words_take, words_drop}

-- The words of the key that is put in stand between those of the keys before it and those of the keys behind.
pub words_insert : (at : ℕ) (ks : List ℕ) (lo hi : ℕ) → lo < 2 ^ 64
    → take (2 * at) (words_of ks) ++ (lo ∷ hi ∷ drop (2 * at) (words_of ks)) ≡ words_of (insert_at at (joined lo hi) ks)
unfolding words_of
words_insert at ks lo hi l =
    let a : low (joined lo hi) ≡ lo = omega arith in
    let b : high (joined lo hi) ≡ hi = omega arith in
    rw (words_take at ks, words_drop at ks, words_append (take at ks) (joined lo hi ∷ drop at ks), a, b)
