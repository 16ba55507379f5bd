-- A counter raised: the keys stay, and so does every other k-mer's word of counters. Assumes nothing.
use mathlib.Core.Path.{◌≡◌, refl, sym, ap, ◌∙◌}
use mathlib.Core.Bool.{true}
use Prim.Native.Nat.{ℕ}
use native.Mathlib.Omega.{arith}
use lib.ListN.{length, get_or, length-set}
use lib.Seq.{get_or-set_same, get_or-set_other}
use Rattle.state.specs.Counted.{Kind, raise}
use Rattle.graph.specs.Table.{Table, rank, stored, sight}
use Rattle.graph.proofs.Rank.{stored_lt, same_rank}
use Rattle.graph.proofs.Store.{Sound}

-- The word of counters of a stored k-mer.
abbrev pub word_of : Table → ℕ → ℕ
word_of t x = get_or t.counts (rank t.keys x) 0

module _ (κ : Kind) (t : Table) (x j : ℕ) where
  pub sight_keys : (sight κ t x j).keys ≡ t.keys
  unfolding sight
  sight_keys = refl

  pub sight_length : length (sight κ t x j).counts ≡ length t.counts
  unfolding sight
  sight_length = simp length-set

  pub sight_sound : (K : ℕ) → Sound K t → Sound K (sight κ t x j)
  sight_sound K v = record { fits = rw sight_keys v.fits; sizes = sight_length ∙ v.sizes ∙ ap length (sym sight_keys) }

  module _ (sizes : length t.counts ≡ length t.keys) (s : stored t.keys x ≡ true) where
    pub sight_own : word_of (sight κ t x j) x ≡ raise κ (word_of t x) j
    unfolding sight
    sight_own =
        get_or-set_same t.counts (rank t.keys x) (raise κ (word_of t x) j) 0 (omega (arith, stored_lt t.keys x s))

    pub sight_other : (y : ℕ) → stored t.keys y ≡ true → (x ≡ y → ⊥) → word_of (sight κ t x j) y ≡ word_of t y
    unfolding sight
    sight_other y r n =
        get_or-set_other t.counts (rank t.keys x) (rank t.keys y) (raise κ (word_of t x) j) 0
        (λ e. n (same_rank t.keys x y s r (sym e)))
