-- Adding a label, part by part: its windows stored, its sightings counted. Assumes nothing.
use mathlib.Core.Path.{◌≡◌, refl, sym, ap, ◌∙◌}
use mathlib.Core.Bool.{true, ◌||◌, or-true, or-false}
use mathlib.Core.Logic.{◌⊎◌, inl, inr, ⊎_elim}
use mathlib.Core.List.{List, [], ◌∷◌, ◌++◌}
use Prim.Native.Nat.{ℕ, zero, suc, ◌+◌, ◌-◌, ◌^◌, ◌≤◌, ◌<◌}
use native.Mathlib.Omega.{arith}
use lib.Dec.{eqb}
use lib.ListN.{length, take, drop, length-drop}
use lib.Seq.{length-take-le}
use borrow.Author.Tests.{eqb-true, eqb-false}
use Rattle.lemmas.proofs.Numbers.{true_or_false, lt_or_ge}
use Rattle.kmer.specs.Kmer.{canon}
use Rattle.kmer.proofs.Windows.{Bases, bases_take, bases_drop, packed_lt}
use Rattle.state.specs.Counted.{Kind}
use Rattle.graph.specs.Table.{Table, store, stored, sight}
use Rattle.graph.specs.Sightings.{Sighting, Rule, window, windows, sightings}
use Rattle.graph.specs.Adding.{store_windows, sight_all, added}
use Rattle.graph.proofs.Store.{Sound, store_sound, store_stored, store_other}
use Rattle.graph.proofs.Lookup.{Key, canon_key}
use Rattle.graph.proofs.Sight.{sight_keys, sight_length, sight_sound}

-- ---- windows

-- A label that adding reads: it has no window, or every byte is a base.
abbrev pub Readable : ℕ → List ℕ → Type 0
Readable K label = (length label < K) ⊎ Bases label

-- A window's bases are as many as they should be.
pub window_lt : (K : ℕ) (label : List ℕ) (i : ℕ) → Bases label → i + K ≤ length label → window K label i < 4 ^ K
window_lt K label i b h =
    let n : length (take K (drop i label)) ≡ K = length-take-le K (drop i label) (simp length-drop (omega arith)) in
    rw n at (packed_lt (take K (drop i label)) (bases_take K (drop i label) (bases_drop i label b)))

pub window_key : (K : ℕ) (label : List ℕ) (i : ℕ) → Readable K label → i < windows K label → Key K (canon K (window K label i))
window_key K label i (inl s) h = absurd (omega arith)
window_key K label i (inr b) h = canon_key K (window K label i) (window_lt K label i b (omega arith))

-- ---- storing

-- A k-mer that is stored joins those that were.
pub store_or : (t : Table) (x y : ℕ) → stored (store t x).keys y ≡ stored t.keys y || eqb x y
store_or t x y = ⊎_elim
    (λ e. ap (stored (store t x).keys) (sym (eqb-true x y e)) ∙ store_stored t x ∙ rw e (sym (or-true (stored t.keys y))))
    (λ e. store_other t x y (eqb-false x y e) ∙ rw e (sym (or-false (stored t.keys y))))
    (true_or_false (eqb x y))

-- Every window's canonical k-mer is there then.
pub windows_there : (K : ℕ) (label : List ℕ) (t : Table) (m i : ℕ) → i < m
    → stored (store_windows K label t m).keys (canon K (window K label i)) ≡ true
unfolding store_windows
windows_there K label t zero i h = absurd (omega arith)
windows_there K label t (suc m) i h =
    let u = store_windows K label t m in
    let x = canon K (window K label m) in
    ⊎_elim
    (λ l. store_or u x (canon K (window K label i)) ∙ rw (windows_there K label t m i l))
    (λ l. let e : i ≡ m = omega arith in rw e (store_stored u x))
    (lt_or_ge i m)

module _ (K : ℕ) (label : List ℕ) (r : Readable K label) (t : Table) (v : Sound K t) where
  pub windows_sound : (m : ℕ) → m ≤ windows K label → Sound K (store_windows K label t m)
  unfolding store_windows
  windows_sound zero h = v
  windows_sound (suc m) h =
      let k = window_key K label m r h in
      store_sound K (store_windows K label t m) (canon K (window K label m)) (windows_sound m (omega arith)) k.below k.canonical

-- ---- counting

pub all_keys : (κ : Kind) (t : Table) (ss : List Sighting) → (sight_all κ t ss).keys ≡ t.keys
unfolding sight_all
all_keys κ t [] = refl
all_keys κ t (s ∷ ss) = all_keys κ (sight κ t s.kmer s.slot) ss ∙ sight_keys κ t s.kmer s.slot

pub all_length : (κ : Kind) (t : Table) (ss : List Sighting) → length (sight_all κ t ss).counts ≡ length t.counts
unfolding sight_all
all_length κ t [] = refl
all_length κ t (s ∷ ss) = all_length κ (sight κ t s.kmer s.slot) ss ∙ sight_length κ t s.kmer s.slot

-- Some sightings and then others.
pub all_append : (κ : Kind) (t : Table) (ss rs : List Sighting) → sight_all κ t (ss ++ rs) ≡ sight_all κ (sight_all κ t ss) rs
unfolding sight_all
all_append κ t [] rs = refl
all_append κ t (s ∷ ss) rs = all_append κ (sight κ t s.kmer s.slot) ss rs

pub all_sound : (κ : Kind) (K : ℕ) (t : Table) (ss : List Sighting) → Sound K t → Sound K (sight_all κ t ss)
unfolding sight_all
all_sound κ K t [] v = v
all_sound κ K t (s ∷ ss) v =
    all_sound κ K (sight κ t s.kmer s.slot) ss (sight_sound κ t s.kmer s.slot K v)

-- ---- adding

module _ (κ : Kind) (rule : Rule) (K : ℕ) (label : List ℕ) (t : Table) where
  -- Counting changes no key.
  pub added_keys : (added κ rule K label t).keys ≡ (store_windows K label t (windows K label)).keys
  unfolding added
  added_keys = all_keys κ (store_windows K label t (windows K label)) (sightings rule K label (windows K label))

  pub added_sound : Readable K label → Sound K t → Sound K (added κ rule K label t)
  unfolding added
  added_sound r v =
      all_sound κ K (store_windows K label t (windows K label)) (sightings rule K label (windows K label))
      (windows_sound K label r t v (windows K label) (omega arith))

  -- A label shorter than K adds nothing.
  pub added_short : length label < K → added κ rule K label t ≡ t
  unfolding added store_windows sightings sight_all
  added_short h = let e : suc (length label) - K ≡ 0 = omega arith in rw e
