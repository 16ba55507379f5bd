-- Vertices put in among those of a table, each at its place. Assumes nothing.
use Rattle.std.specs.Prelude.{ℕ, ◌+◌, ◌≡◌, Bool, true, cond, not, ◌&&◌, List, [], ◌∷◌, ltb, leb, length, take, Result, Ok, Err}
use Rattle.dna.specs.Text.{over}
use Rattle.graph.specs.Table.{keys_of, words_of, capacity, insert_at}
use Rattle.table.specs.declared.JoinError.{JoinError}
use Rattle.table.specs.declared.JoinError.TheVariants.{Full, Misplaced}

-- Places that do not fall, from the least on, and none above an end.
unfoldable pub rising : ℕ → ℕ → List ℕ → Bool
rising end least [] = true
rising end least (p ∷ ps) = leb least p && leb p end && rising end p ps

-- Values put in at places of a list, the last first, so that each place is that of the list as it was.
unfoldable pub put_in : List ℕ → List ℕ → List ℕ → List ℕ
put_in [] xs l = l
put_in (p ∷ ps) [] l = l
put_in (p ∷ ps) (x ∷ xs) l = insert_at p x (put_in ps xs l)

-- What putting in m vertices answers, and the two slices of the table afterwards.
pub record Joining : Type 0 where
  pub answer : Result ℕ JoinError
  pub keys : List ℕ
  pub counts : List ℕ

module _ (n : ℕ) (keys counts : List ℕ) (m : ℕ) (places new-keys new-counts : List ℕ) where
  -- There are m new vertices, and a place among the first n for each.
  abbrev pub placed : Bool
  placed = leb m (capacity new-keys new-counts) && leb m (length places) && rising n 0 (take m places)

  abbrev pub join_call : Joining
  join_call =
      cond (not placed) (record { answer = Err Misplaced; keys = keys; counts = counts })
      (cond (ltb (capacity keys counts) (n + m)) (record { answer = Err Full; keys = keys; counts = counts })
      (record {
        answer = Ok (n + m);
        keys = over (words_of (put_in (take m places) (keys_of m new-keys) (keys_of n keys))) keys;
        counts = over (put_in (take m places) (take m new-counts) (take n counts)) counts;
      }))

-- A call that puts in vertices: its answer, and the slices at exit.
pub record Joins (r : Result ℕ JoinError) (keys counts : List ℕ) (j : Joining) : Type 0 where
  pub answer : r ≡ j.answer
  pub keys_after : keys ≡ j.keys
  pub counts_after : counts ≡ j.counts
