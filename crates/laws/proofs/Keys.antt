-- Adding keeps a table fit, and the keys of a grown table are the canonical k-mers of its labels' windows. Assumes nothing.
use mathlib.Core.Path.{◌≡◌, refl, sym, ap, ◌∙◌}
use mathlib.Core.Bool.{Bool, true, ◌||◌, or-false, or_assoc}
use mathlib.Core.List.{List}
use Prim.Native.Nat.{ℕ, zero, suc, ◌/◌, ◌≤◌}
use native.Mathlib.Omega.{arith}
use lib.Dec.{eqb}
use lib.ListN.{length, take, length-take}
use borrow.Author.Tests.{le-leb}
use Rattle.dna.specs.Answer.{Answer, gives, refuses}
use Rattle.kmer.specs.Kmer.{canon}
use Rattle.state.specs.Counted.{Kind}
use Rattle.graph.specs.Table.{Table, table_of, keys_of, capacity, fit, fit_for, words_fit, fit_from, stored}
use Rattle.graph.specs.Sightings.{Rule, window, windows}
use Rattle.graph.specs.Adding.{Edges, Added, store_windows, added, stored_after, add_label}
use Rattle.graph.proofs.Rank.{stored_nil}
use Rattle.graph.proofs.Keys.{keys_length}
use Rattle.graph.proofs.Adding.{store_or, added_keys}
use Rattle.graph.proofs.Accepted.{fit_for_both, fit_room, fit_length, fit_sound, accepted, accepted_fit, refused_same}
use Rattle.laws.specs.Grown.{Grown, fresh, accepts, moves, shows, seen_in}

-- ---- fit

module _ (κ : Kind) (rule : Rule) (K n : ℕ) (keys counts label : List ℕ) where
  abbrev done : Added
  done = add_label κ rule K n keys counts label

  -- Adding keeps a table fit, whatever it answers.
  pub add_fit : fit_for κ K n keys counts ≡ true → fit_for κ K (stored_after n done.answer) done.keys done.counts ≡ true
  add_fit f = go done.answer refl
    where
      go : (a : Answer Edges) → done.answer ≡ a → fit_for κ K (stored_after n a) done.keys done.counts ≡ true
      go (gives e) h = accepted_fit κ rule K n keys counts label e h
      go (refuses x vs) h =
          let s = refused_same κ rule K n keys counts label x vs h in
          rw (s.keys_same, s.counts_same) f

-- Vertices that are fit stay so in other slices: their keys and words are the same, and there is room for as many as there are.
moved_fit : (κ : Kind) (K n : ℕ) (keys counts keys' counts' : List ℕ) → table_of n keys' counts' ≡ table_of n keys counts
    → fit_for κ K n keys counts ≡ true → fit_for κ K n keys' counts' ≡ true
moved_fit κ K n keys counts keys' counts' e w =
    let h = fit_for_both κ K n keys counts w in
    let f = h.0 in
    let ks : keys_of n keys' ≡ keys_of n keys = ap (λ (t : Table). t.keys) e in
    let cs : take n counts' ≡ take n counts = ap (λ (t : Table). t.counts) e in
    let size : length (keys_of n keys) ≡ n = fit_length K n keys counts f in
    let here : n ≤ length keys' / 2 = omega (arith, size, keys_length n keys', ap length ks) in
    let there : n ≤ length counts' = omega (arith, size, (fit_sound K n keys counts f).sizes, length-take n counts', ap length cs) in
    let few : n ≤ 65536 = omega (arith, fit_room K n keys counts f) in
    let room : n ≤ capacity keys' counts' = omega arith in
    rw (le-leb n (capacity keys' counts') room, ks, cs, (fit_sound K n keys counts f).fits) h.1

module _ {κ : Kind} {rule : Rule} {K : ℕ} where
  -- A grown table is fit for its kind,
  pub grown_fit_for : {ls : List (List ℕ)} {n : ℕ} {keys counts : List ℕ} → Grown κ rule K ls n keys counts → fit_for κ K n keys counts ≡ true
  unfolding keys_of fit_from words_fit
  grown_fit_for (fresh keys counts) = rw (le-leb 0 (capacity keys counts) (omega arith))
  grown_fit_for (accepts {n = n} {keys = keys} {counts = counts} g l e h) = accepted_fit κ rule K n keys counts l e h
  grown_fit_for (moves {n = n} {keys = keys} {counts = counts} g keys' counts' e) = moved_fit κ K n keys counts keys' counts' e (grown_fit_for g)

  -- and so fit.
  pub grown_fit : {ls : List (List ℕ)} {n : ℕ} {keys counts : List ℕ} → Grown κ rule K ls n keys counts → fit K n keys counts ≡ true
  grown_fit {n = n} {keys = keys} {counts = counts} g = (fit_for_both κ K n keys counts (grown_fit_for g)).0

-- ---- keys

-- Storing a label's windows stores their canonical k-mers and no others.
pub windows_stored : (K : ℕ) (label : List ℕ) (t : Table) (m x : ℕ)
    → stored (store_windows K label t m).keys x ≡ stored t.keys x || shows K label m x
unfolding store_windows shows
windows_stored K label t zero x = sym (or-false (stored t.keys x))
windows_stored K label t (suc m) x =
    let y = canon K (window K label m) in
    store_or (store_windows K label t m) y x
    ∙ ap (λ (b : Bool). b || eqb y x) (windows_stored K label t m x)
    ∙ or_assoc (stored t.keys x) (shows K label m x) (eqb y x)

pub added_stored : (κ : Kind) (rule : Rule) (K : ℕ) (label : List ℕ) (t : Table) (x : ℕ)
    → stored (added κ rule K label t).keys x ≡ stored t.keys x || shows K label (windows K label) x
added_stored κ rule K label t x =
    ap (λ (ks : List ℕ). stored ks x) (added_keys κ rule K label t) ∙ windows_stored K label t (windows K label) x

module _ {κ : Kind} {rule : Rule} {K : ℕ} where
  -- The keys of a grown table are the canonical k-mers of its labels' windows.
  pub grown_keys : {ls : List (List ℕ)} {n : ℕ} {keys counts : List ℕ} → Grown κ rule K ls n keys counts
      → (x : ℕ) → stored (keys_of n keys) x ≡ seen_in K ls x
  unfolding keys_of seen_in
  grown_keys (fresh keys counts) x = stored_nil x
  grown_keys (accepts {ls = ls} {n = n} {keys = keys} {counts = counts} g l e h) x =
      let a = accepted κ rule K n keys counts l e h in
      ap (λ (t : Table). stored t.keys x) a.table ∙ added_stored κ rule K l (table_of n keys counts) x
      ∙ ap (λ (b : Bool). b || shows K l (windows K l) x) (grown_keys g x)
  grown_keys (moves g keys' counts' e) x = ap (λ (t : Table). stored t.keys x) e ∙ grown_keys g x
