-- Adding keeps every word without a bit outside its counters. Assumes nothing.
use mathlib.Core.Path.{◌≡◌, refl}
use mathlib.Core.Bool.{true}
use mathlib.Core.List.{List, [], ◌∷◌, ◌++◌}
use Prim.Native.Nat.{ℕ, zero, suc, ◌<◌}
use native.Mathlib.Omega.{arith}
use lib.Dec.{ltb}
use lib.ListN.{take, drop, get_or, set}
use borrow.Author.Tests.{ltb-true}
use Rattle.lemmas.proofs.Tests.{choose, both}
use Rattle.dna.specs.Letters.{complement}
use Rattle.kmer.specs.Kmer.{canon, is_canon}
use Rattle.state.specs.Counted.{Kind, word_fits, raise, slot_of}
use Rattle.state.specs.declared.Side.{Side}
use Rattle.state.specs.declared.Side.TheVariants.{Front, Back}
use Rattle.state.proofs.AnyKind.{zero_fits, raise_word_fits}
use Rattle.graph.specs.Table.{Table, words_fit, insert_at, rank, store, sight}
use Rattle.graph.specs.Sightings.{Sighting, Rule, window, windows, predecessor, successor, sighting, sightings_at, sightings}
use Rattle.graph.specs.Adding.{store_windows, sight_all, added}
use Rattle.graph.proofs.Store.{store_either}

-- ---- lists of words

words_append : (κ : Kind) (a b : List ℕ) → words_fit κ a ≡ true → words_fit κ b ≡ true → words_fit κ (a ++ b) ≡ true
unfolding words_fit
words_append κ [] b f g = g
words_append κ (w ∷ a) b f g =
    let p = both (word_fits κ w) (words_fit κ a) f in
    rw (p.0, words_append κ a b p.1 g)

words_take : (κ : Kind) (n : ℕ) (a : List ℕ) → words_fit κ a ≡ true → words_fit κ (take n a) ≡ true
unfolding words_fit
words_take κ zero a f = refl
words_take κ (suc n) [] f = refl
words_take κ (suc n) (w ∷ a) f = let p = both (word_fits κ w) (words_fit κ a) f in rw (p.0, words_take κ n a p.1)

words_drop : (κ : Kind) (n : ℕ) (a : List ℕ) → words_fit κ a ≡ true → words_fit κ (drop n a) ≡ true
unfolding words_fit
words_drop κ zero a f = f
words_drop κ (suc n) [] f = refl
words_drop κ (suc n) (w ∷ a) f = words_drop κ n a (both (word_fits κ w) (words_fit κ a) f).1

words_insert : (κ : Kind) (i : ℕ) (a : List ℕ) → words_fit κ a ≡ true → words_fit κ (insert_at i 0 a) ≡ true
unfolding words_fit
words_insert κ i a f =
    words_append κ (take i a) (0 ∷ drop i a) (words_take κ i a f) (rw (zero_fits κ, words_drop κ i a f))

-- A word raised in its place; past the end there is none.
words_raise : (κ : Kind) (i j : ℕ) (a : List ℕ) → j < 8 → words_fit κ a ≡ true → words_fit κ (set a i (raise κ (get_or a i 0) j)) ≡ true
unfolding words_fit
words_raise κ i j [] h f = refl
words_raise κ zero j (w ∷ a) h f =
    let p = both (word_fits κ w) (words_fit κ a) f in rw (raise_word_fits κ w j h p.0, p.1)
words_raise κ (suc i) j (w ∷ a) h f =
    let p = both (word_fits κ w) (words_fit κ a) f in rw (p.0, words_raise κ i j a h p.1)

-- ---- the counters that are sighted

-- Each of them is one of the eight.
abbrev Eight : List Sighting → Type 0
Eight [] = Unit {0}
Eight (s ∷ ss) = (s.slot < 8) × Eight ss

eight_append : (ss rs : List Sighting) → Eight ss → Eight rs → Eight (ss ++ rs)
eight_append [] rs a b = b
eight_append (s ∷ ss) rs a b = (a.0, eight_append ss rs a.1 b)

slot_lt : (s : Side) (b : ℕ) → b < 4 → slot_of s b < 8
slot_lt Front b h = omega arith
slot_lt Back b h = omega arith

eight_one : (x : ℕ) (s : Side) (b : ℕ) → Eight (sighting x s b)
eight_one x s b = choose Eight (ltb b 4) (λ t. (slot_lt s b (ltb-true b 4 t), tt)) (λ t. tt)

eight_at : (rule : Rule) (K : ℕ) (label : List ℕ) (i : ℕ) → Eight (sightings_at rule K label i)
unfolding sightings_at
eight_at rule K label i =
    let k = canon K (window K label i) in
    let p = predecessor rule K label i in
    let q = successor K label i in
    choose Eight (is_canon K (window K label i))
    (λ _. eight_append (sighting k Front p) (sighting k Back q) (eight_one k Front p) (eight_one k Back q))
    (λ _. eight_append (sighting k Front (complement q)) (sighting k Back (complement p)) (eight_one k Front (complement q)) (eight_one k Back (complement p)))

pub eight_all : (rule : Rule) (K : ℕ) (label : List ℕ) (m : ℕ) → Eight (sightings rule K label m)
unfolding sightings
eight_all rule K label zero = tt
eight_all rule K label (suc m) =
    eight_append (sightings rule K label m) (sightings_at rule K label m) (eight_all rule K label m) (eight_at rule K label m)

-- ---- tables

store_words : (κ : Kind) (t : Table) (x : ℕ) → words_fit κ t.counts ≡ true → words_fit κ (store t x).counts ≡ true
store_words κ t x f =
    store_either t x (λ (u : Table). words_fit κ u.counts ≡ true) (λ _. f) (λ _. words_insert κ (rank t.keys x) t.counts f)

windows_words : (κ : Kind) (K : ℕ) (label : List ℕ) (t : Table) (m : ℕ) → words_fit κ t.counts ≡ true
    → words_fit κ (store_windows K label t m).counts ≡ true
unfolding store_windows
windows_words κ K label t zero f = f
windows_words κ K label t (suc m) f = store_words κ (store_windows K label t m) (canon K (window K label m)) (windows_words κ K label t m f)

all_words : (κ : Kind) (t : Table) (ss : List Sighting) → Eight ss → words_fit κ t.counts ≡ true → words_fit κ (sight_all κ t ss).counts ≡ true
unfolding sight_all sight
all_words κ t [] e f = f
all_words κ t (s ∷ ss) e f =
    all_words κ (sight κ t s.kmer s.slot) ss e.1 (words_raise κ (rank t.keys s.kmer) s.slot t.counts e.0 f)

pub added_words : (κ : Kind) (rule : Rule) (K : ℕ) (label : List ℕ) (t : Table) → words_fit κ t.counts ≡ true
    → words_fit κ (added κ rule K label t).counts ≡ true
unfolding added
added_words κ rule K label t f =
    all_words κ (store_windows K label t (windows K label)) (sightings rule K label (windows K label))
    (eight_all rule K label (windows K label)) (windows_words κ K label t (windows K label) f)
