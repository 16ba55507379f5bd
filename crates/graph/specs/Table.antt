-- The table: canonical k-mers in ascending order, and a word of counters for each. Assumes nothing.
use Rattle.std.specs.Prelude.{ℕ, zero, suc, ◌/◌, ◌^◌, min, Bool, true, cond, ◌&&◌, List, [], ◌∷◌, ◌++◌, ltb, leb, eqb, length, take, drop, get_or, set}
use Rattle.kmer.specs.Kmer.{low, high, joined, is_canon}
use Rattle.state.specs.Counted.{Kind, word_fits, raise}

pub record Table : Type 0 where
  pub keys : List ℕ
  pub counts : List ℕ

-- The first n k-mers of a slice of words, two for each, low word first.
unfoldable pub keys_of : ℕ → List ℕ → List ℕ
keys_of zero words = []
keys_of (suc n) [] = []
keys_of (suc n) (l ∷ []) = []
keys_of (suc n) (l ∷ h ∷ words) = joined l h ∷ keys_of n words

-- The words of some k-mers.
unfoldable pub words_of : List ℕ → List ℕ
words_of [] = []
words_of (x ∷ ks) = low x ∷ high x ∷ words_of ks

-- The table that two lent slices hold, with n vertices stored.
abbrev pub table_of : ℕ → List ℕ → List ℕ → Table
table_of n keys counts = record { keys = keys_of n keys; counts = take n counts }

-- Capacity is the least of half the keys' length, the counts' length and 65,536.
abbrev pub capacity : List ℕ → List ℕ → ℕ
capacity keys counts = min (min (length keys / 2) (length counts)) 65536

-- Keys, of which the first is at least some number, strictly ascend, are canonical and below 4 to the K.
unfoldable pub fit_from : ℕ → ℕ → List ℕ → Bool
fit_from K least [] = true
fit_from K least (x ∷ ks) = leb least x && ltb x (4 ^ K) && is_canon K x && fit_from K (suc x) ks

-- Fit: n is at most the capacity, and the keys are as they should be.
abbrev pub fit : ℕ → ℕ → List ℕ → List ℕ → Bool
fit K n keys counts = leb n (capacity keys counts) && fit_from K 0 (keys_of n keys)

-- Words without a bit outside their counters.
unfoldable pub words_fit : Kind → List ℕ → Bool
words_fit κ [] = true
words_fit κ (w ∷ ws) = word_fits κ w && words_fit κ ws

-- Fit as a table of a kind: so are its words.
abbrev pub fit_for : Kind → ℕ → ℕ → List ℕ → List ℕ → Bool
fit_for κ K n keys counts = fit K n keys counts && words_fit κ (take n counts)

-- How many keys stand before x.
unfoldable pub rank : List ℕ → ℕ → ℕ
rank [] x = 0
rank (y ∷ ks) x = cond (ltb y x) (suc (rank ks x)) 0

-- x is one of the keys: it stands where its rank says.
unfoldable pub stored : List ℕ → ℕ → Bool
stored ks x = eqb (get_or ks (rank ks x) (suc x)) x

-- A list with x at place i, and what stood there on behind it.
abbrev pub insert_at : ℕ → ℕ → List ℕ → List ℕ
insert_at i x l = take i l ++ (x ∷ drop i l)

-- x stored in its place with no counts, unless it is there.
unfoldable pub store : Table → ℕ → Table
store t x =
    let i = rank t.keys x in
    cond (stored t.keys x) t (record { keys = insert_at i x t.keys; counts = insert_at i 0 t.counts })

-- Counter j of vertex x, raised.
unfoldable pub sight : Kind → Table → ℕ → ℕ → Table
sight κ t x j =
    let i = rank t.keys x in
    record { keys = t.keys; counts = set t.counts i (raise κ (get_or t.counts i 0) j) }

-- Opens this file's definitions to a proof that computes.
unfoldable pub open_table : Unit {0}
unfolding keys_of words_of fit_from words_fit rank stored store sight
open_table = tt
