-- What the definition of adding leaves of each stored k-mer: its word with its windows counted. Assumes nothing.
use mathlib.Core.Path.{◌≡◌, refl, sym, ap, ◌∙◌}
use mathlib.Core.Bool.{true, cond}
use mathlib.Core.Logic.{inr}
use mathlib.Core.List.{List}
use Prim.Native.Nat.{ℕ, zero, suc, ◌<◌}
use native.Mathlib.Decide.{ℕ_discrete}
use native.Mathlib.Omega.{arith}
use lib.Dec.{eqb}
use lib.ListN.{length, get_or, set}
use lib.Seq.{get_or-set_same, get_or-set_other}
use borrow.Author.Tests.{eq-eqb, ne_eqb}
use Rattle.kmer.proofs.Windows.{Bases}
use Rattle.state.specs.Counted.{Kind}
use Rattle.graph.specs.Table.{Table, rank, stored}
use Rattle.graph.specs.Sightings.{Rule, windows, sightings_at, sightings}
use Rattle.graph.specs.Adding.{store_windows, sight_all, added}
use Rattle.graph.proofs.Rank.{stored_lt, same_rank}
use Rattle.graph.proofs.Store.{Sound}
use Rattle.graph.proofs.Sight.{word_of}
use Rattle.graph.proofs.AnyOrder.{windows_word}
use Rattle.graph.proofs.Adding.{windows_there, windows_sound, all_keys, all_length, all_append}
use Rattle.adding.specs.Batch.{kmer_at, code_at, counted_by, tally}
use Rattle.adding.proofs.Sighting.{window_sighted}

-- ---- all windows counted

-- A table with the sightings of the first windows counted.
abbrev sighted : Kind → Rule → ℕ → List ℕ → Table → ℕ → Table
sighted κ rule K label t o = sight_all κ t (sightings rule K label o)

module _ (κ : Kind) (rule : Rule) (K : ℕ) (label : List ℕ) (t : Table) (v : Sound K t) (o : ℕ) (there : stored t.keys (kmer_at K label o) ≡ true) where
  abbrev words : List ℕ
  words = (sighted κ rule K label t o).counts

  abbrev place : ℕ
  place = rank t.keys (kmer_at K label o)

  place_lt : place < length words
  place_lt =
      omega (arith, all_length κ t (sightings rule K label o), v.sizes, stored_lt t.keys (kmer_at K label o) there)

  -- One window more changes one word.
  next_words : (sighted κ rule K label t (suc o)).counts ≡ set words place (counted_by κ (code_at rule K label o) (get_or words place 0))
  unfolding sightings
  next_words =
      let e = all_keys κ t (sightings rule K label o) in
      ap (λ (u : Table). u.counts) (all_append κ t (sightings rule K label o) (sightings_at rule K label o))
      ∙ window_sighted κ rule K label o (sighted κ rule K label t o) (rw e place_lt)
      ∙ rw e

  next_word : (y : ℕ) → stored t.keys y ≡ true
      → get_or (sighted κ rule K label t (suc o)).counts (rank t.keys y) 0
      ≡ (let w = get_or words (rank t.keys y) 0 in cond (eqb (kmer_at K label o) y) (counted_by κ (code_at rule K label o) w) w)
  next_word y s = ap (λ (l : List ℕ). get_or l (rank t.keys y) 0) next_words ∙ go (ℕ_discrete (kmer_at K label o) y)
    where
      go : Dec (kmer_at K label o ≡ y)
          → get_or (set words place (counted_by κ (code_at rule K label o) (get_or words place 0))) (rank t.keys y) 0
          ≡ (let w = get_or words (rank t.keys y) 0 in cond (eqb (kmer_at K label o) y) (counted_by κ (code_at rule K label o) w) w)
      go (yes e) = rw (eq-eqb (kmer_at K label o) y e, ← e) (get_or-set_same words place (counted_by κ (code_at rule K label o) (get_or words place 0)) 0 place_lt)
      go (no n) =
          rw (ne_eqb (kmer_at K label o) y n)
          (get_or-set_other words place (rank t.keys y) (counted_by κ (code_at rule K label o) (get_or words place 0)) 0
          (λ e. n (same_rank t.keys (kmer_at K label o) y there s (sym e))))

module _ (κ : Kind) (rule : Rule) (K : ℕ) (label : List ℕ) (b : Bases label) where
  sighted_word : (t : Table) → Sound K t → (m : ℕ)
      → ((i : ℕ) → i < m → stored t.keys (kmer_at K label i) ≡ true) → (y : ℕ) → stored t.keys y ≡ true
      → get_or (sighted κ rule K label t m).counts (rank t.keys y) 0 ≡ tally κ rule K label y m (word_of t y)
  unfolding tally sightings sight_all
  sighted_word t v zero there y s = refl
  sighted_word t v (suc o) there y s =
      next_word κ rule K label t v o (there o (omega arith)) y s
      ∙ ap (λ (w : ℕ). cond (eqb (kmer_at K label o) y) (counted_by κ (code_at rule K label o) w) w)
      (sighted_word t v o (λ i l. there i (omega arith)) y s)

  -- ---- and the windows stored

  module _ (t : Table) (v : Sound K t) where
    pub added_word : (y : ℕ) → stored (added κ rule K label t).keys y ≡ true
        → word_of (added κ rule K label t) y ≡ tally κ rule K label y (windows K label) (cond (stored t.keys y) (word_of t y) 0)
    unfolding added
    added_word y s =
        let m : ℕ = windows K label in
        let u : Table = store_windows K label t m in
        let e : (sighted κ rule K label u m).keys ≡ u.keys = all_keys κ u (sightings rule K label m) in
        let r : stored u.keys y ≡ true = rw e at s in
        rw e
        (sighted_word u (windows_sound K label (inr b) t v m (omega arith)) m (windows_there K label t m) y r
        ∙ ap (tally κ rule K label y m) (windows_word K label (inr b) t v m (omega arith) y r))
