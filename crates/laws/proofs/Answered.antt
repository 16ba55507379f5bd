-- An edge that was counted and leads to another k-mer was counted at that one too, by some counter: a label shows the two one after
-- the other, and counts a step between different k-mers at both. Assumes nothing.
use mathlib.Core.Path.{◌≡◌, refl, sym, ◌∙◌, subst}
use mathlib.Core.Bool.{false}
use mathlib.Core.Logic.{⊎_elim}
use mathlib.Core.List.{List, [], ◌∷◌}
use Prim.Native.Nat.{ℕ, zero, suc, ◌+◌, ◌^◌, ◌≤◌, ◌<◌}
use native.Mathlib.Omega.{arith}
use lib.ListN.{length, get_or}
use borrow.Author.Tests.{eq-eqb, lt-ltb}
use Rattle.lemmas.proofs.Numbers.{true_or_false, lt_or_ge}
use Rattle.dna.specs.Letters.{code_of, complement}
use Rattle.kmer.specs.Kmer.{canon, forward}
use Rattle.state.specs.declared.Side.{Side}
use Rattle.state.specs.Counted.{Kind, opposite, slot_of, count}
use Rattle.graph.specs.Table.{keys_of}
use Rattle.graph.specs.Sightings.{Rule, window, windows, predecessor, successor, sighting, sightings_at, sightings}
use Rattle.graph.specs.Walks.{seen, leaving, entrance}
use Rattle.graph.proofs.Adding.{Readable}
use Rattle.laws.specs.Grown.{Grown, times, sighted_in}
use Rattle.laws.proofs.Sighted.{EachSighted, each_hit, times_append, times_at}
use Rattle.laws.proofs.Counts.{grown_counts_at}
use Rattle.laws.proofs.Links.{window_link}
use Rattle.laws.proofs.Ahead.{Ahead, label_ahead}
use Rattle.laws.proofs.Sides.{seen_as, seen_is, complement_is, leaving_lt}
use Rattle.laws.proofs.Symmetry.{Lawful}
use Rattle.laws.proofs.Closed.{AllReadable, grown_readable}

-- One of k-mer x's eight counters is not 0.
pub record Noted (counts : ℕ → ℕ → ℕ) (x : ℕ) : Type 0 where
  pub side : Side
  pub base : ℕ
  pub below : base < 4
  pub counted : 0 < counts x (slot_of side base)

-- The k-mer y is x, or it is noted.
abbrev Told : (ℕ → ℕ → ℕ) → ℕ → ℕ → Type 0
Told counts x y = (y ≡ x → ⊥) → Noted counts y

-- ---- a label

hit : (x : ℕ) (s : Side) (b : ℕ) → b < 4 → times (sighting x s b) x (slot_of s b) ≡ 1
unfolding times
hit x s b h = rw (lt-ltb b 4 h, eq-eqb x x refl, eq-eqb (slot_of s b) (slot_of s b) refl)

module _ {Excepted : ℕ → Type 0} {rule : Rule} {K : ℕ} (lawful : Lawful Excepted rule K) (label : List ℕ) where
  abbrev sighted : ℕ → ℕ → ℕ
  sighted = times (sightings rule K label (windows K label))

  -- What a window sights is among what the label sights.
  window_among : (m i x j : ℕ) → i < m → times (sightings_at rule K label i) x j ≤ times (sightings rule K label m) x j
  unfolding sightings
  window_among zero i x j h = absurd (omega arith)
  window_among (suc m) i x j h =
      let a = times_append (sightings rule K label m) (sightings_at rule K label m) x j in
      ⊎_elim (λ l. omega (arith, window_among m i x j l)) (λ (l : m ≤ i). let e : i ≡ m = omega arith in rw e (omega arith)) (lt_or_ge i m)

  -- A window is noted by a neighbour that it sights.
  noted_at : (i : ℕ) → i < windows K label → (s : Side) (b : ℕ) → b < 4 → let k = canon K (window K label i) in
      times (sighting k s b) k (slot_of s b) ≤ times (sightings_at rule K label i) k (slot_of s b) → Noted sighted k
  noted_at i l s b h le =
      let k = canon K (window K label i) in
      record { side = s; base = b; below = h; counted = omega (arith, hit k s b h, window_among (windows K label) i k (slot_of s b) l) }

  noted_before : (i : ℕ) → i < windows K label → predecessor rule K label i < 4 → Noted sighted (canon K (window K label i))
  noted_before i l h =
      let k = canon K (window K label i) in
      let e = entrance K (window K label i) in
      let p = predecessor rule K label i in
      let c : complement p < 4 = rw (complement_is p h) (omega arith) in
      let b = leaving e (complement p) in
      noted_at i l e b (leaving_lt e (complement p) c) (omega (arith, times_at k (slot_of e b) rule K label i))

  noted_after : (i : ℕ) → i < windows K label → successor K label i < 4 → Noted sighted (canon K (window K label i))
  noted_after i l h =
      let k = canon K (window K label i) in
      let e = opposite (entrance K (window K label i)) in
      let b = leaving e (successor K label i) in
      noted_at i l e b (leaving_lt e (successor K label i) h) (omega (arith, times_at k (slot_of e b) rule K label i))

  -- The rule counts the predecessor of another k-mer.
  counts : (w v : ℕ) → w < 4 ^ K → (canon K w ≡ canon K v → ⊥) → rule K w v ≡ false
  counts w v h ne = ⊎_elim (λ t. absurd (ne (lawful.same_kmer w v h t))) (λ f. f) (true_or_false (rule K w v))

  label_answered : Readable K label → EachSighted (Ahead K (Told sighted)) (sightings rule K label (windows K label))
  unfolding predecessor successor
  label_answered r = label_ahead rule K label (Told sighted) r
      (λ b i h ne.
      let n = window_link K label i b h in
      let p : predecessor rule K label (suc i) ≡ code_of (get_or label i 0) =
      rw (counts (window K label i) (window K label (suc i)) n.left (λ q. ne (sym q))) in
      noted_before (suc i) (omega arith) (omega (arith, n.first)))
      (λ b i h _.
      let n = window_link K label i b h in
      let s : successor K label i ≡ code_of (get_or label (i + K) 0) = rw (lt-ltb (i + K) (length label) h) in
      noted_after i (omega arith) (omega (arith, n.next)))

-- ---- all labels

noted_more : {f h : ℕ → ℕ → ℕ} {x : ℕ} → ((j : ℕ) → f x j ≤ h x j) → Noted f x → Noted h x
noted_more le m = record { side = m.side; base = m.base; below = m.below; counted = omega (arith, m.counted, le (slot_of m.side m.base)) }

labels_answered : {Excepted : ℕ → Type 0} {rule : Rule} {K : ℕ} → Lawful Excepted rule K → (ls : List (List ℕ)) → AllReadable K ls → (x j : ℕ) → 0 < sighted_in rule K ls x j
    → Ahead K (Told (sighted_in rule K ls)) x j
unfolding sighted_in
labels_answered lawful [] r x j h s b lt e ne = absurd (omega arith)
labels_answered {rule = rule} {K = K} lawful (l ∷ ls) r x j h s b lt e ne = ⊎_elim
    (λ z. noted_more (λ i. omega arith) (labels_answered lawful ls r.1 x j z s b lt e ne))
    (λ z.
    let t : 0 < times (sightings rule K l (windows K l)) x j = omega arith in
    noted_more (λ i. omega arith)
    (each_hit (Ahead K (Told (sighted lawful l))) (sightings rule K l (windows K l)) (label_answered lawful l r.0) x j t s b lt e ne))
    (lt_or_ge 0 (sighted_in rule K ls x j))

-- ---- a grown table

module _ {Excepted : ℕ → Type 0} {κ : Kind} {rule : Rule} {K : ℕ} {ls : List (List ℕ)} {n : ℕ} {keys counts : List ℕ}
    (lawful : Lawful Excepted rule K) (g : Grown κ rule K ls n keys counts) where
  -- Where an edge that was counted leads to another vertex, that one has a counter that is not 0.
  pub grown_answered : (u : ℕ) (s : Side) (b v : ℕ) → u < n → v < n → b < 4 → 0 < count κ (get_or counts u 0) (slot_of s b)
      → canon K (forward K (seen K (keys_of n keys) u s) (leaving s b)) ≡ get_or (keys_of n keys) v 0
      → (get_or (keys_of n keys) v 0 ≡ get_or (keys_of n keys) u 0 → ⊥) → Noted (λ w j. count κ (get_or counts w 0) j) v
  grown_answered u s b v hu hv hb h to ne =
      let ks = keys_of n keys in
      let j = slot_of s b in
      let z : 0 < sighted_in rule K ls (get_or ks u 0) j = omega (arith, grown_counts_at g u j hu) in
      let e : canon K (forward K (seen_as K (get_or ks u 0) s) (leaving s b)) ≡ get_or ks v 0 = rw (seen_is K ks u s) at to in
      let m : Noted (sighted_in rule K ls) (get_or ks v 0) =
      subst (Noted (sighted_in rule K ls)) e
      (labels_answered lawful ls (grown_readable g) (get_or ks u 0) j z s b hb refl (λ q. ne (sym e ∙ q))) in
      record {
        side = m.side;
        base = m.base;
        below = m.below;
        counted = omega (arith, m.counted, grown_counts_at g u j hu, grown_counts_at g v (slot_of m.side m.base) hv);
      }
