-- The rows and the keys that slices hold: one more of them, and cells behind them set. Assumes nothing.
use mathlib.Core.Path.{◌≡◌, refl, ap, ap₂, ◌∙◌}
use mathlib.Core.Logic.{⊎_elim}
use mathlib.Core.List.{List, [], ◌∷◌, ◌++◌}
use Prim.Native.Nat.{ℕ, zero, suc, ◌+◌, ◌*◌, ◌/◌, ◌≤◌, ◌<◌}
use native.Mathlib.Numerals.{add-one}
use native.Mathlib.Omega.{arith}
use lib.ListN.{length, get_or, set, length-set}
use lib.Seq.{get_or-set_same, get_or-set_other}
use Rattle.lemmas.proofs.Numbers.{lt_or_ge}
use Rattle.kmer.specs.Kmer.{low, high, joined}
use Rattle.kmer.proofs.Wide.{joined_of}
use Rattle.graph.specs.Table.{keys_of}
use Rattle.sorting.specs.Rows.{Row, rows, key_at, row_at}
use Rattle.adding.specs.Says.{put_key}

-- One cell more that holds what it should.
pub set_more : (l : List ℕ) (f : ℕ → ℕ) (m v : ℕ) → m < length l → ((i : ℕ) → i < m → get_or l i 0 ≡ f i) → v ≡ f m
    → (i : ℕ) → i < m + 1 → get_or (set l m v) i 0 ≡ f i
set_more l f m v h below e i b =
    ⊎_elim (λ s. get_or-set_other l m i v 0 (λ z. omega arith) ∙ below i s)
    (λ s. let z : i ≡ m = omega arith in rw z (get_or-set_same l m v 0 h ∙ e)) (lt_or_ge i m)

rows_snoc : (q : ℕ) (keys numbers : List ℕ) → q < length keys / 2 → q < length numbers
    → rows (suc q) keys numbers ≡ rows q keys numbers ++ (row_at keys numbers q ∷ [])
unfolding rows
rows_snoc zero [] numbers h l = absurd (omega arith)
rows_snoc zero (x ∷ []) numbers h l = absurd (omega arith)
rows_snoc zero (x ∷ y ∷ keys) [] h l = absurd (omega arith)
rows_snoc zero (x ∷ y ∷ keys) (i ∷ numbers) h l = refl
rows_snoc (suc q) [] numbers h l = absurd (omega arith)
rows_snoc (suc q) (x ∷ []) numbers h l = absurd (omega arith)
rows_snoc (suc q) (x ∷ y ∷ keys) [] h l = absurd (omega arith)
rows_snoc (suc q) (x ∷ y ∷ keys) (i ∷ numbers) h l =
    let a : 2 * suc q ≡ suc (suc (2 * q)) = omega arith in
    let b : 2 * suc q + 1 ≡ suc (suc (2 * q + 1)) = omega arith in
    rw (b, a)
    (ap (λ (rs : List Row). record { key = joined x y; number = i } ∷ rs) (rows_snoc q keys numbers (omega arith) (omega arith)))

-- Row t is the next one.
pub rows_next : (t : ℕ) (keys numbers : List ℕ) → t < length keys / 2 → t < length numbers
    → rows (t + 1) keys numbers ≡ rows t keys numbers ++ (row_at keys numbers t ∷ [])
rows_next t keys numbers h l = rw (add-one t) (rows_snoc t keys numbers h l)

rows_set_key : (q : ℕ) (keys numbers : List ℕ) (i v : ℕ) → 2 * q ≤ i
    → rows q (set keys i v) numbers ≡ rows q keys numbers
unfolding rows
rows_set_key zero keys numbers i v h = refl
rows_set_key (suc q) [] numbers i v h = refl
rows_set_key (suc q) (x ∷ keys) numbers zero v h = absurd (omega arith)
rows_set_key (suc q) (x ∷ keys) numbers (suc zero) v h = absurd (omega arith)
rows_set_key (suc q) (x ∷ []) numbers (suc (suc i)) v h = refl
rows_set_key (suc q) (x ∷ y ∷ keys) [] (suc (suc i)) v h = refl
rows_set_key (suc q) (x ∷ y ∷ keys) (n ∷ numbers) (suc (suc i)) v h =
    ap (λ (rs : List Row). record { key = joined x y; number = n } ∷ rs) (rows_set_key q keys numbers i v (omega arith))

rows_set_number : (q : ℕ) (keys numbers : List ℕ) (i v : ℕ) → q ≤ i
    → rows q keys (set numbers i v) ≡ rows q keys numbers
unfolding rows
rows_set_number zero keys numbers i v h = refl
rows_set_number (suc q) [] numbers i v h = refl
rows_set_number (suc q) (x ∷ []) numbers i v h = refl
rows_set_number (suc q) (x ∷ y ∷ keys) [] i v h = refl
rows_set_number (suc q) (x ∷ y ∷ keys) (n ∷ numbers) zero v h = absurd (omega arith)
rows_set_number (suc q) (x ∷ y ∷ keys) (n ∷ numbers) (suc i) v h =
    ap (λ (rs : List Row). record { key = joined x y; number = n } ∷ rs) (rows_set_number q keys numbers i v (omega arith))

keys_snoc : (q : ℕ) (keys : List ℕ) → q < length keys / 2
    → keys_of (suc q) keys ≡ keys_of q keys ++ (key_at keys q ∷ [])
unfolding keys_of
keys_snoc zero [] h = absurd (omega arith)
keys_snoc zero (x ∷ []) h = absurd (omega arith)
keys_snoc zero (x ∷ y ∷ keys) h = refl
keys_snoc (suc q) [] h = absurd (omega arith)
keys_snoc (suc q) (x ∷ []) h = absurd (omega arith)
keys_snoc (suc q) (x ∷ y ∷ keys) h =
    let a : 2 * suc q ≡ suc (suc (2 * q)) = omega arith in
    let b : 2 * suc q + 1 ≡ suc (suc (2 * q + 1)) = omega arith in
    rw (b, a) (ap (λ (ks : List ℕ). joined x y ∷ ks) (keys_snoc q keys (omega arith)))

keys_set : (q : ℕ) (keys : List ℕ) (i v : ℕ) → 2 * q ≤ i → keys_of q (set keys i v) ≡ keys_of q keys
unfolding keys_of
keys_set zero keys i v h = refl
keys_set (suc q) [] i v h = refl
keys_set (suc q) (x ∷ keys) zero v h = absurd (omega arith)
keys_set (suc q) (x ∷ keys) (suc zero) v h = absurd (omega arith)
keys_set (suc q) (x ∷ []) (suc (suc i)) v h = refl
keys_set (suc q) (x ∷ y ∷ keys) (suc (suc i)) v h =
    ap (λ (ks : List ℕ). joined x y ∷ ks) (keys_set q keys i v (omega arith))

module _ (keys : List ℕ) (q x : ℕ) where
  pub put_long : length (put_key keys q x) ≡ length keys
  put_long = simp length-set

  pub put_other : (i : ℕ) → 2 * q + 1 < i → get_or (put_key keys q x) i 0 ≡ get_or keys i 0
  put_other i h =
      get_or-set_other (set keys (2 * q) (low x)) (2 * q + 1) i (high x) 0 (λ z. omega arith)
      ∙ get_or-set_other keys (2 * q) i (low x) 0 (λ z. omega arith)

  module _ (h : q < length keys / 2) where
    pub put_key_lem : key_at (put_key keys q x) q ≡ x
    put_key_lem =
        let l : 2 * q + 1 < length (set keys (2 * q) (low x)) = simp length-set (omega arith) in
        ap₂ joined
        (get_or-set_other (set keys (2 * q) (low x)) (2 * q + 1) (2 * q) (high x) 0 (λ z. omega arith)
        ∙ get_or-set_same keys (2 * q) (low x) 0 (omega arith))
        (get_or-set_same (set keys (2 * q) (low x)) (2 * q + 1) (high x) 0 l)
        ∙ joined_of x

    -- The keys with one behind them.
    pub keys_put : keys_of (q + 1) (put_key keys q x) ≡ keys_of q keys ++ (x ∷ [])
    keys_put =
        rw (add-one q)
        (keys_snoc q (put_key keys q x) (rw put_long h)
        ∙ ap₂ (λ (ks : List ℕ) (y : ℕ). ks ++ (y ∷ []))
        (keys_set q (set keys (2 * q) (low x)) (2 * q + 1) (high x) (omega arith) ∙ keys_set q keys (2 * q) (low x) (omega arith))
        put_key_lem)

    -- The rows with one behind them.
    pub rows_put : (numbers : List ℕ) (o : ℕ) → q < length numbers
        → rows (q + 1) (put_key keys q x) (set numbers q o) ≡ rows q keys numbers ++ (record { key = x; number = o } ∷ [])
    rows_put numbers o l =
        rows_next q (put_key keys q x) (set numbers q o) (rw put_long h) (rw length-set l)
        ∙ ap₂ (λ (rs : List Row) (r : Row). rs ++ (r ∷ []))
        (rows_set_number q (put_key keys q x) numbers q o (omega arith)
        ∙ rows_set_key q (set keys (2 * q) (low x)) numbers (2 * q + 1) (high x) (omega arith)
        ∙ rows_set_key q keys numbers (2 * q) (low x) (omega arith))
        (ap₂ (λ (y n : ℕ). record { key = y; number = n }) put_key_lem (get_or-set_same numbers q o 0 l))
