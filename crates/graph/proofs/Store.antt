-- Storing a k-mer in a table: it is stored then, and all else is as it was. Assumes nothing.
use mathlib.Core.Path.{◌≡◌, refl, sym, ap, ◌∙◌}
use mathlib.Core.Bool.{true, false, cond}
use Prim.Native.Nat.{ℕ, suc, ◌^◌, ◌<◌}
use native.Mathlib.Omega.{arith}
use borrow.Author.Tests.{lt-ltb}
use lib.ListN.{length, get_or}
use Rattle.lemmas.proofs.Tests.{choose, never}
use Rattle.kmer.specs.Kmer.{is_canon}
use Rattle.graph.specs.Table.{Table, rank, stored, fit_from, store, insert_at}
use Rattle.graph.proofs.Rank.{rank_le}
use Rattle.graph.proofs.Insert.{with_key, insert_length, insert_fit, insert_stored, insert_other, insert_value, insert_keeps}

-- Fit keys, with a word of counters for each.
pub record Sound (K : ℕ) (t : Table) : Type 0 where
  pub fits : fit_from K 0 t.keys ≡ true
  pub sizes : length t.counts ≡ length t.keys

module _ (t : Table) (x : ℕ) where
  -- A k-mer that is there changes nothing; a new one is put in with no counts.
  pub store_there : stored t.keys x ≡ true → store t x ≡ t
  unfolding store
  store_there e = rw e

  pub store_new : stored t.keys x ≡ false → store t x ≡ record { keys = with_key t.keys x; counts = insert_at (rank t.keys x) 0 t.counts }
  unfolding store
  store_new e = rw e

  -- What holds of the table where x is there, and of the one with x put in where it is not, holds of the table that x is stored in.
  pub store_either : (P : Table → Type 0) → (stored t.keys x ≡ true → P t)
      → (stored t.keys x ≡ false → P (record { keys = with_key t.keys x; counts = insert_at (rank t.keys x) 0 t.counts })) → P (store t x)
  unfolding store
  store_either P f g = choose P (stored t.keys x) f g

  pub store_length : length (store t x).keys ≡ cond (stored t.keys x) (length t.keys) (suc (length t.keys))
  store_length =
      store_either (λ (u : Table). length u.keys ≡ cond (stored t.keys x) (length t.keys) (suc (length t.keys)))
      (λ e. rw e) (λ e. rw e (insert_length (rank t.keys x) x t.keys (rank_le t.keys x)))

  pub store_stored : stored (store t x).keys x ≡ true
  store_stored = store_either (λ (u : Table). stored u.keys x ≡ true) (λ e. e) (λ e. insert_stored t.keys x)

  pub store_other : (y : ℕ) → (x ≡ y → ⊥) → stored (store t x).keys y ≡ stored t.keys y
  store_other y n = store_either (λ (u : Table). stored u.keys y ≡ stored t.keys y) (λ e. refl) (λ e. insert_other t.keys x y n)

  module _ (sizes : length t.counts ≡ length t.keys) where
    pub store_sizes : length (store t x).counts ≡ length (store t x).keys
    store_sizes =
        store_either (λ (u : Table). length u.counts ≡ length u.keys) (λ e. sizes)
        (λ e. omega (
          arith,
          rank_le t.keys x,
          insert_length (rank t.keys x) 0 t.counts (omega (arith, rank_le t.keys x)),
          insert_length (rank t.keys x) x t.keys (rank_le t.keys x),
        ))

    -- The counts of a k-mer that was stored are those that it had.
    pub store_counts : (y : ℕ) → stored t.keys y ≡ true
        → get_or (store t x).counts (rank (store t x).keys y) 0 ≡ get_or t.counts (rank t.keys y) 0
    store_counts y s =
        store_either (λ (u : Table). get_or u.counts (rank u.keys y) 0 ≡ get_or t.counts (rank t.keys y) 0) (λ e. refl)
        (λ e. insert_keeps t.keys t.counts x y 0 0 sizes
        (λ q. never (stored t.keys y) s (ap (stored t.keys) (sym q) ∙ e)) s)

    pub store_no_counts : stored t.keys x ≡ false → get_or (store t x).counts (rank (store t x).keys x) 0 ≡ 0
    store_no_counts n =
        store_either (λ (u : Table). get_or u.counts (rank u.keys x) 0 ≡ 0) (λ e. never (stored t.keys x) e n)
        (λ e. insert_value t.keys t.counts x 0 0 sizes)

-- A canonical k-mer below 4 to the K keeps the table sound.
pub store_sound : (K : ℕ) (t : Table) (x : ℕ) → Sound K t → x < 4 ^ K → is_canon K x ≡ true → Sound K (store t x)
store_sound K t x s l c =
    record {
      fits = store_either t x (λ (u : Table). fit_from K 0 u.keys ≡ true) (λ e. s.fits)
          (λ e. insert_fit K 0 x t.keys s.fits (omega arith) (lt-ltb x (4 ^ K) l) c e);
      sizes = store_sizes t x s.sizes;
    }
