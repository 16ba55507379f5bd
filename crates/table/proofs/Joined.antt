-- How putting in vertices ends: a place or their number is wrong, there is no room for so many, or they are in. Assumes
-- nothing.
use mathlib.Core.Path.{◌≡◌, refl, ◌∙◌}
use mathlib.Core.Bool.{true, false}
use mathlib.Core.List.{List}
use Prim.Native.Nat.{ℕ, ◌+◌, ◌≤◌, ◌<◌}
use Rattle.std.specs.Prelude.{Ok, Err}
use borrow.Author.Tests.{le-leb, lt-leb, lt-ltb, le-ltb}
use lib.ListN.{length, take}
use Rattle.dna.specs.Text.{over}
use Rattle.graph.specs.Table.{keys_of, words_of, capacity}
use Rattle.table.specs.Join.{rising, put_in, placed, join_call, Joins}
use Rattle.table.specs.declared.JoinError.TheVariants.{Full, Misplaced}

module _ (n : ℕ) (keys counts : List ℕ) (m : ℕ) (places new-keys new-counts : List ℕ) where
  misplaced : placed n keys counts m places new-keys new-counts ≡ false
      → Joins (Err Misplaced) keys counts (join_call n keys counts m places new-keys new-counts)
  misplaced e = rw e (record { answer = refl; keys_after = refl; counts_after = refl })

  pub join_few : capacity new-keys new-counts < m
      → Joins (Err Misplaced) keys counts (join_call n keys counts m places new-keys new-counts)
  join_few h = misplaced (rw (lt-leb m (capacity new-keys new-counts) h))

  pub join_few_places : m ≤ capacity new-keys new-counts → length places < m
      → Joins (Err Misplaced) keys counts (join_call n keys counts m places new-keys new-counts)
  join_few_places k h = misplaced (rw (le-leb m (capacity new-keys new-counts) k, lt-leb m (length places) h))

  module _ (k : m ≤ capacity new-keys new-counts) (l : m ≤ length places) where
    placed_is : placed n keys counts m places new-keys new-counts ≡ rising n 0 (take m places)
    placed_is = rw (le-leb m (capacity new-keys new-counts) k, le-leb m (length places) l)

    pub join_unplaced : rising n 0 (take m places) ≡ false
        → Joins (Err Misplaced) keys counts (join_call n keys counts m places new-keys new-counts)
    join_unplaced r = misplaced (placed_is ∙ r)

    module _ (r : rising n 0 (take m places) ≡ true) where
      pub join_full : capacity keys counts < n + m
          → Joins (Err Full) keys counts (join_call n keys counts m places new-keys new-counts)
      join_full h = rw (placed_is ∙ r, lt-ltb (capacity keys counts) (n + m) h)
          (record { answer = refl; keys_after = refl; counts_after = refl })

      pub join_all : n + m ≤ capacity keys counts → {keys' counts' : List ℕ}
          → keys' ≡ over (words_of (put_in (take m places) (keys_of m new-keys) (keys_of n keys))) keys
          → counts' ≡ over (put_in (take m places) (take m new-counts) (take n counts)) counts
          → Joins (Ok (n + m)) keys' counts' (join_call n keys counts m places new-keys new-counts)
      join_all h a b = rw (placed_is ∙ r, le-ltb (capacity keys counts) (n + m) h)
          (record { answer = refl; keys_after = a; counts_after = b })
