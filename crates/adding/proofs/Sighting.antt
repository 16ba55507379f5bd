-- The sightings of a window, counted at one place of the table: both neighbours are in the k-mer's word then. Assumes nothing.
use mathlib.Core.Path.{◌≡◌, refl, sym, ap, ◌∙◌}
use mathlib.Core.Bool.{Bool, true, false, cond}
use mathlib.Core.List.{List, [], ◌∷◌, ◌++◌}
use Prim.Native.Nat.{ℕ, ◌+◌, ◌*◌, ◌≤◌, ◌<◌}
use lib.Dec.{ltb}
use lib.ListN.{length, get_or, set}
use lib.Seq.{get_or-set_same, set-get_or, set-set}
use Rattle.dna.specs.Letters.{complement}
use Rattle.kmer.specs.Kmer.{is_canon}
use Rattle.state.specs.declared.Side.{Side}
use Rattle.state.specs.declared.Side.TheVariants.{Front, Back}
use Rattle.state.specs.Counted.{Kind, raise, counted, slot_of}
use Rattle.graph.specs.Table.{Table, rank, sight}
use Rattle.graph.specs.Sightings.{Rule, window, predecessor, successor, sighting, sightings_at}
use Rattle.graph.specs.Adding.{sight_all}
use Rattle.graph.proofs.Adding.{all_append}
use Rattle.adding.specs.Batch.{kmer_at, code_at, counted_by}
use Rattle.adding.proofs.Coding.{predecessor_most, successor_most, turned_most, both_counted}

-- A table with another word at a place.
abbrev word_at : Table → ℕ → ℕ → Table
word_at t i w = record { keys = t.keys; counts = set t.counts i w }

module _ (κ : Kind) (t : Table) (x : ℕ) where
  abbrev here : ℕ
  here = rank t.keys x

  abbrev word : ℕ
  word = get_or t.counts here 0

  one_side : (s : Side) (b : ℕ) → sight_all κ t (sighting x s b) ≡ word_at t here (counted κ word s b)
  unfolding sight_all sight
  one_side s b = go (ltb b 4)
    where
      go : (b4 : Bool) → sight_all κ t (cond b4 (record { kmer = x; slot = slot_of s b } ∷ []) [])
          ≡ word_at t here (cond b4 (raise κ word (slot_of s b)) word)
      go true = refl
      go false = ap (λ (cs : List ℕ). record { keys = t.keys; counts = cs }) (sym (set-get_or t.counts here 0))

module _ (κ : Kind) (t : Table) (x : ℕ) (inside : rank t.keys x < length t.counts) where
  two_sides : (p q : ℕ)
      → sight_all κ t (sighting x Front p ++ sighting x Back q)
      ≡ word_at t (rank t.keys x) (counted κ (counted κ (get_or t.counts (rank t.keys x) 0) Front p) Back q)
  two_sides p q =
      let i : ℕ = rank t.keys x in
      let w : ℕ = counted κ (get_or t.counts i 0) Front p in
      all_append κ t (sighting x Front p) (sighting x Back q)
      ∙ ap (λ (u : Table). sight_all κ u (sighting x Back q)) (one_side κ t x Front p)
      ∙ one_side κ (word_at t i w) x Back q
      ∙ ap (λ (v : ℕ). word_at (word_at t i w) i (counted κ v Back q)) (get_or-set_same t.counts i w 0 inside)
      ∙ ap (λ (cs : List ℕ). record { keys = t.keys; counts = cs }) (set-set t.counts i w (counted κ w Back q))

-- Those of one window.
module _ (κ : Kind) (rule : Rule) (K : ℕ) (label : List ℕ) (o : ℕ) (t : Table) where
  abbrev vertex : ℕ
  vertex = kmer_at K label o

  abbrev place : ℕ
  place = rank t.keys vertex

  abbrev old : ℕ
  old = get_or t.counts place 0

  abbrev p : ℕ
  p = predecessor rule K label o

  abbrev q : ℕ
  q = successor K label o

  pub window_sighted : place < length t.counts
      → (sight_all κ t (sightings_at rule K label o)).counts ≡ set t.counts place (counted_by κ (code_at rule K label o) old)
  unfolding sightings_at code_at
  window_sighted h = ap (λ (u : Table). u.counts) (go (is_canon K (window K label o)))
    where
      two : (x y : ℕ) → x ≤ 5 → y ≤ 5
          → sight_all κ t (sighting vertex Front x ++ sighting vertex Back y) ≡ word_at t place (counted_by κ (x + 8 * y) old)
      two x y hx hy = two_sides κ t vertex h x y ∙ ap (word_at t place) (sym (both_counted x y hx hy κ old))

      go : (s : Bool)
          → sight_all κ t
          (cond s (sighting vertex Front p ++ sighting vertex Back q)
          (sighting vertex Front (complement q) ++ sighting vertex Back (complement p)))
          ≡ word_at t place (counted_by κ (cond s (p + 8 * q) (complement q + 8 * complement p)) old)
      go true = two p q (predecessor_most K label o rule) (successor_most K label o)
      go false =
          two (complement q) (complement p) (turned_most q (successor_most K label o)) (turned_most p (predecessor_most K label o rule))
