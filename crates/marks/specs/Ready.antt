-- Keys and marks that are ready for walks and look-ups, and the fit table of which they are made. Assumes nothing.
use Rattle.std.specs.Prelude.{ℕ, ◌/◌, ◌≤◌, ◌≡◌, true, List, length, replicate}
use Rattle.kmer.specs.Kmer.{ok_k}
use Rattle.state.specs.declared.Side.{Side}
use Rattle.graph.specs.Table.{keys_of, fit_from}
use Rattle.graph.specs.Walks.{edge}
use Rattle.marks.specs.Marks.{ends, visits}

-- The keys of as many vertices as there are marks.
abbrev pub keys_for : List ℕ → List ℕ → List ℕ
keys_for ms keys = keys_of (length ms) keys

-- A fit table with as many vertices as there are marks.
pub record FitTable (K : ℕ) (keys counts ms : List ℕ) : Type 0 where
  pub ok : ok_k K ≡ true
  pub room : length ms ≤ length keys / 2
  pub counted : length ms ≤ length counts
  pub few : length ms ≤ 65536
  pub fits : fit_from K 0 (keys_for ms keys) ≡ true

-- K is in its range, there is a key for each mark, there are at most 65,536, the keys are fit, and each end is E, a
-- base or N.
pub record Ready (K : ℕ) (keys ms : List ℕ) : Type 0 where
  pub ok : ok_k K ≡ true
  pub room : length ms ≤ length keys / 2
  pub few : length ms ≤ 65536
  pub fits : fit_from K 0 (keys_for ms keys) ≡ true
  pub known : (v : ℕ) (s : Side) → edge (ends ms) v s ≤ 5

-- No vertex is visited.
abbrev pub Unvisited : List ℕ → Type 0
Unvisited ms = visits ms ≡ replicate (length ms) 0
