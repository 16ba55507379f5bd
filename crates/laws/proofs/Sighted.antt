-- The sightings of a label: what holds of each of them, and how often a counter is sighted; and that a label shows its windows.
-- Assumes nothing.
use mathlib.Core.Path.{◌≡◌, refl, ◌∙◌}
use mathlib.Core.Bool.{Bool, true, false, cond, ◌&&◌, or-true}
use mathlib.Core.Logic.{⊎_elim}
use mathlib.Core.List.{List, [], ◌∷◌, ◌++◌}
use Prim.Native.Nat.{ℕ, zero, suc, ◌+◌, ◌<◌}
use native.Mathlib.Omega.{arith}
use lib.Dec.{ltb, eqb}
use borrow.Author.Tests.{ltb-true, eqb-true, eq-eqb}
use Rattle.lemmas.proofs.Tests.{choose, both}
use Rattle.lemmas.proofs.Numbers.{lt_or_ge}
use Rattle.dna.specs.Letters.{complement}
use Rattle.kmer.specs.Kmer.{canon, is_canon}
use Rattle.state.specs.declared.Side.{Side}
use Rattle.state.specs.declared.Side.TheVariants.{Front, Back}
use Rattle.dna.proofs.Letters.{complement_complement}
use Rattle.state.specs.Counted.{slot_of, opposite}
use Rattle.graph.specs.Walks.{leaving, entrance}
use Rattle.graph.specs.Sightings.{Sighting, Rule, window, predecessor, successor, sighting, sightings_at, sightings}
use Rattle.laws.specs.Grown.{shows, times}
use Rattle.laws.proofs.Sides.{complement_back}

-- ---- what holds of each sighting

-- P holds of the k-mer and the counter of each sighting.
abbrev pub EachSighted : (ℕ → ℕ → Type 0) → List Sighting → Type 0
EachSighted P [] = Unit {0}
EachSighted P (s ∷ ss) = P s.kmer s.slot × EachSighted P ss

module _ (P : ℕ → ℕ → Type 0) where
  each_append : (ss rs : List Sighting) → EachSighted P ss → EachSighted P rs → EachSighted P (ss ++ rs)
  each_append [] rs a b = b
  each_append (s ∷ ss) rs a b = (a.0, each_append ss rs a.1 b)

  -- It holds of a counter that is sighted.
  pub each_hit : (ss : List Sighting) → EachSighted P ss → (x j : ℕ) → 0 < times ss x j → P x j
  unfolding times
  each_hit [] a x j h = absurd (omega arith)
  each_hit (s ∷ ss) a x j h = go (eqb s.kmer x && eqb s.slot j) refl (each_hit ss a.1 x j) h
    where
      go : (t : Bool) → (eqb s.kmer x && eqb s.slot j) ≡ t → (0 < times ss x j → P x j) → 0 < cond t 1 0 + times ss x j → P x j
      go true e f q =
          let b = both (eqb s.kmer x) (eqb s.slot j) e in
          rw (← eqb-true s.kmer x b.0, ← eqb-true s.slot j b.1) a.0
      go false e f q = f (omega arith)

  each_sighting : (x : ℕ) (s : Side) (b : ℕ) → (b < 4 → P x (slot_of s b)) → EachSighted P (sighting x s b)
  each_sighting x s b f = choose (EachSighted P) (ltb b 4) (λ t. (f (ltb-true b 4 t), tt)) (λ t. tt)

  each_two : (x b c : ℕ) → (b < 4 → P x (slot_of Front b)) × (c < 4 → P x (slot_of Back c)) → EachSighted P (sighting x Front b ++ sighting x Back c)
  each_two x b c f =
      each_append (sighting x Front b) (sighting x Back c) (each_sighting x Front b f.0) (each_sighting x Back c f.1)

  -- The two neighbours of a window, by how it is seen.
  each_seen : (t : Bool) (k p q : ℕ) → let e = cond t Front Back in
      (p < 4 → P k (slot_of e (leaving e (complement p)))) → (q < 4 → P k (slot_of (opposite e) (leaving (opposite e) q)))
      → EachSighted P (cond t (sighting k Front p ++ sighting k Back q) (sighting k Front (complement q) ++ sighting k Back (complement p)))
  each_seen true k p q f g = each_two k p q (λ l. rw complement_complement at (f l), g)
  each_seen false k p q f g = each_two k (complement q) (complement p) (λ l. g (complement_back q l), λ l. f (complement_back p l))

  module _ (rule : Rule) (K : ℕ) (label : List ℕ) where
    pub each_at : (i : ℕ) → let k = canon K (window K label i) in
        let e = entrance K (window K label i) in
        let p = predecessor rule K label i in
        let q = successor K label i in
        (p < 4 → P k (slot_of e (leaving e (complement p)))) → (q < 4 → P k (slot_of (opposite e) (leaving (opposite e) q)))
        → EachSighted P (sightings_at rule K label i)
    unfolding sightings_at
    each_at i f g =
        each_seen (is_canon K (window K label i)) (canon K (window K label i)) (predecessor rule K label i) (successor K label i) f g

    pub each_all : (m : ℕ) → ((i : ℕ) → i < m → EachSighted P (sightings_at rule K label i)) → EachSighted P (sightings rule K label m)
    unfolding sightings
    each_all zero f = tt
    each_all (suc m) f =
        each_append (sightings rule K label m) (sightings_at rule K label m) (each_all m (λ i h. f i (omega arith)))
        (f m (omega arith))

-- ---- how often a counter is sighted

pub times_append : (ss rs : List Sighting) (x j : ℕ) → times (ss ++ rs) x j ≡ times ss x j + times rs x j
unfolding times
times_append [] rs x j = omega arith
times_append (s ∷ ss) rs x j = omega (arith, times_append ss rs x j)

module _ (x j : ℕ) where
  times_seen : (t : Bool) (k p q : ℕ) → let e = cond t Front Back in
      times (cond t (sighting k Front p ++ sighting k Back q) (sighting k Front (complement q) ++ sighting k Back (complement p))) x j
      ≡ times (sighting k e (leaving e (complement p))) x j + times (sighting k (opposite e) (leaving (opposite e) q)) x j
  times_seen true k p q = rw complement_complement (times_append (sighting k Front p) (sighting k Back q) x j)
  times_seen false k p q =
      times_append (sighting k Front (complement q)) (sighting k Back (complement p)) x j ∙ omega arith

  -- By a window: with its predecessor, and with its successor.
  pub times_at : (rule : Rule) (K : ℕ) (label : List ℕ) (i : ℕ) → let k = canon K (window K label i) in
      let e = entrance K (window K label i) in
      times (sightings_at rule K label i) x j
      ≡ times (sighting k e (leaving e (complement (predecessor rule K label i)))) x j
      + times (sighting k (opposite e) (leaving (opposite e) (successor K label i))) x j
  unfolding sightings_at
  times_at rule K label i =
      times_seen (is_canon K (window K label i)) (canon K (window K label i)) (predecessor rule K label i) (successor K label i)

-- A window's canonical k-mer is shown.
pub shows_window : (K : ℕ) (label : List ℕ) (m i : ℕ) → i < m → shows K label m (canon K (window K label i)) ≡ true
unfolding shows
shows_window K label zero i h = absurd (omega arith)
shows_window K label (suc m) i h = ⊎_elim
    (λ l. rw (shows_window K label m i l))
    (λ l.
    let e : m ≡ i = omega arith in
    rw (e, eq-eqb (canon K (window K label i)) (canon K (window K label i)) refl) (or-true (shows K label i (canon K (window K label i)))))
    (lt_or_ge i m)
