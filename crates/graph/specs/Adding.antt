-- Adding a label: test it; store every window's canonical k-mer; count every sighting. Assumes nothing.
use Rattle.std.specs.Prelude.{ℕ, zero, suc, ◌-◌, cond, not, List, [], ◌∷◌, ltb, length}
use Rattle.dna.specs.Text.{over}
use Rattle.dna.specs.Answer.{Answer, gives, refuses}
use Rattle.dna.specs.Letters.{first_bad}
use Rattle.kmer.specs.Kmer.{canon, ok_k}
use Rattle.state.specs.Counted.{Kind}
use Rattle.graph.specs.Table.{Table, table_of, words_of, capacity, fit_for, store, sight}
use Rattle.graph.specs.Sightings.{Sighting, Rule, window, windows, sightings}

-- The canonical k-mers of a label's first m windows stored.
unfoldable pub store_windows : ℕ → List ℕ → Table → ℕ → Table
store_windows K label t zero = t
store_windows K label t (suc m) = store (store_windows K label t m) (canon K (window K label m))

-- Sightings counted.
unfoldable pub sight_all : Kind → Table → List Sighting → Table
sight_all κ t [] = t
sight_all κ t (s ∷ ss) = sight_all κ (sight κ t s.kmer s.slot) ss

-- A table with a label added.
unfoldable pub added : Kind → Rule → ℕ → List ℕ → Table → Table
added κ rule K label t =
    sight_all κ (store_windows K label t (windows K label)) (sightings rule K label (windows K label))

-- What adding answers, and the two lent slices afterwards.
pub record Edges : Type 0 where
  pub edges : ℕ
  pub stored : ℕ

pub record Added : Type 0 where
  pub answer : Answer Edges
  pub keys : List ℕ
  pub counts : List ℕ

-- The number stored after a label: the one answered, or on a refusal the one before.
abbrev pub stored_after : ℕ → Answer Edges → ℕ
stored_after n (gives e) = e.stored
stored_after n (refuses r vs) = n

module _ (κ : Kind) (rule : Rule) (K n : ℕ) (keys counts label : List ℕ) where
  -- An answer that changes nothing.
  abbrev pub unchanged : Answer Edges → Added
  unchanged answer = record { answer = answer; keys = keys; counts = counts }

  -- The answer to an added label: length minus K edges, and the number stored afterwards.
  abbrev pub changed : Table → Added
  changed t = record {
    answer = gives (record { edges = length label - K; stored = length t.keys });
    keys = over (words_of t.keys) keys;
    counts = over t.counts counts;
  }

  -- A label whose first place that is no base is given: 3, then 6, then adding.
  unfoldable pub add_bases : List ℕ → Added
  add_bases (place ∷ byte) = unchanged (refuses 3 (place ∷ byte))
  add_bases [] =
      let t = added κ rule K label (table_of n keys counts) in
      cond (ltb (capacity keys counts) (length t.keys)) (unchanged (refuses 6 [])) (changed t)

  -- The refusals 1, 5, 4; a label shorter than K answers 0 edges whatever its bytes; then 3 and 6.
  unfoldable pub add_label : Added
  add_label =
      cond (not (ok_k K)) (unchanged (refuses 1 (K ∷ [])))
      (cond (not (fit_for κ K n keys counts)) (unchanged (refuses 5 []))
      (cond (ltb 4096 (length label)) (unchanged (refuses 4 (length label ∷ [])))
      (cond (ltb (length label) K) (unchanged (gives (record { edges = 0; stored = n })))
      (add_bases (first_bad 0 label)))))

-- Opens this file's definitions to a proof that computes.
unfoldable pub open_adding : Unit {0}
unfolding store_windows sight_all added add_bases add_label
open_adding = tt
