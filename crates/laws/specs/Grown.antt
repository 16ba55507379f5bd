-- A table grown from empty by labels, and what its labels show. Assumes nothing.
use Rattle.std.specs.Prelude.{ℕ, zero, suc, ◌+◌, ◌≡◌, Bool, false, cond, ◌&&◌, ◌||◌, List, [], ◌∷◌, eqb}
use Rattle.dna.specs.Answer.{gives}
use Rattle.kmer.specs.Kmer.{canon, forward}
use Rattle.state.specs.declared.Side.{Side}
use Rattle.state.specs.Counted.{Kind, opposite}
use Rattle.graph.specs.Sightings.{Sighting, Rule, window, windows, sightings}
use Rattle.graph.specs.Table.{Table, table_of}
use Rattle.graph.specs.Walks.{seen, leaving}
use Rattle.graph.specs.Adding.{Edges, added, add_label}

-- A table grown from none stored: the labels that were added and not refused, last one first, and the number stored and the two
-- slices as they are after them.
pub data Grown (κ : Kind) (rule : Rule) (K : ℕ) : List (List ℕ) → ℕ → List ℕ → List ℕ → Type 0 where
  fresh : (keys counts : List ℕ) → Grown κ rule K [] 0 keys counts
  accepts : {ls : List (List ℕ)} {n : ℕ} {keys counts : List ℕ} → Grown κ rule K ls n keys counts
      → (l : List ℕ) (e : Edges) → (add_label κ rule K n keys counts l).answer ≡ gives e
      → Grown κ rule K (l ∷ ls) e.stored (add_label κ rule K n keys counts l).keys (add_label κ rule K n keys counts l).counts
  -- The same vertices in other slices, or behind them other cells.
  moves : {ls : List (List ℕ)} {n : ℕ} {keys counts : List ℕ} → Grown κ rule K ls n keys counts
      → (keys' counts' : List ℕ) → table_of n keys' counts' ≡ table_of n keys counts → Grown κ rule K ls n keys' counts'

-- The table of some labels, the last one first.
unfoldable pub grown_table : Kind → Rule → ℕ → List (List ℕ) → Table
grown_table κ rule K [] = record { keys = []; counts = [] }
grown_table κ rule K (l ∷ ls) = added κ rule K l (grown_table κ rule K ls)

-- x is the canonical k-mer of one of a label's first m windows.
unfoldable pub shows : ℕ → List ℕ → ℕ → ℕ → Bool
shows K label zero x = false
shows K label (suc m) x = shows K label m x || eqb (canon K (window K label m)) x

-- x is the canonical k-mer of a window of one of the labels.
unfoldable pub seen_in : ℕ → List (List ℕ) → ℕ → Bool
seen_in K [] x = false
seen_in K (l ∷ ls) x = seen_in K ls x || shows K l (windows K l) x

-- How many of some sightings are of counter j of k-mer x.
unfoldable pub times : List Sighting → ℕ → ℕ → ℕ
times [] x j = 0
times (s ∷ ss) x j = cond (eqb s.kmer x && eqb s.slot j) 1 0 + times ss x j

-- How often the labels sight counter j of k-mer x.
unfoldable pub sighted_in : Rule → ℕ → List (List ℕ) → ℕ → ℕ → ℕ
sighted_in rule K [] x j = 0
sighted_in rule K (l ∷ ls) x j = sighted_in rule K ls x j + times (sightings rule K l (windows K l)) x j

-- Base b leads away from side s of vertex u to side t of vertex v, and base c the same way back.
pub record Joins (K : ℕ) (ks : List ℕ) (u : ℕ) (s : Side) (b : ℕ) (v : ℕ) (t : Side) (c : ℕ) : Type 0 where
  pub there : forward K (seen K ks u s) (leaving s b) ≡ seen K ks v (opposite t)
  pub back : forward K (seen K ks v t) (leaving t c) ≡ seen K ks u (opposite s)

-- Opens this file's definitions to a proof that computes.
unfoldable pub open_grown : Unit {0}
unfolding grown_table shows seen_in times sighted_in
open_grown = tt
