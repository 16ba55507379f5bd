-- For odd K a counter stands for a part of K + 1 bases, and a label sights it where two of its windows are that part on either
-- strand. Assumes nothing.
use mathlib.Core.Path.{◌≡◌, refl, ◌∙◌}
use mathlib.Core.Bool.{Bool, true, false, cond, ◌&&◌}
use mathlib.Core.List.{List}
use Prim.Native.Nat.{ℕ, suc, ◌+◌, ◌-◌, ◌*◌, ◌%◌, ◌≤◌, ◌<◌}
use native.Mathlib.Omega.{arith}
use lib.Dec.{eqb}
use lib.ListN.{length, get_or}
use borrow.Author.Tests.{eqb-true, eq-eqb, lt-ltb, le-ltb}
use Rattle.lemmas.proofs.Tests.{both, same_bool}
use Rattle.dna.specs.Letters.{code_of, complement}
use Rattle.kmer.specs.Kmer.{rc, canon}
use Rattle.kmer.proofs.Windows.{Bases}
use Rattle.state.specs.declared.Side.{Side}
use Rattle.state.specs.declared.Side.TheVariants.{Front, Back}
use Rattle.state.specs.Counted.{opposite, slot_of}
use Rattle.state.proofs.Slots.{slot_inj}
use Rattle.graph.specs.Sightings.{Rule, window, predecessor, successor, sighting}
use Rattle.graph.specs.Walks.{leaving, entrance}
use Rattle.graph.proofs.Lookup.{Key, canon_key}
use Rattle.laws.specs.Grown.{times}
use Rattle.laws.proofs.Links.{Link, window_link, link_turned}
use Rattle.laws.proofs.Sides.{seen_as, complement_is, complement_none, leaving_leaving, leaving_lt, seen_exit, seen_entrance}
use Rattle.laws.proofs.Odd.{seen_inj}

-- 1 where two numbers are the same, else 0.
abbrev pub same : ℕ → ℕ → ℕ
same a b = cond (eqb a b) 1 0

-- ---- counters as parts of K + 1 bases

-- The part that counter b of k-mer x on side s stands for.
abbrev pub part : ℕ → ℕ → Side → ℕ → ℕ
part K x s b = 4 * seen_as K x s + leaving s b

module _ (K : ℕ) (odd : K % 2 ≡ 1) (x : ℕ) (fx : Key K x) (s : Side) (b : ℕ) (lb : b < 4) where
  hit_test : (k : ℕ) → Key K k → (t : Side) (c : ℕ) → c < 4
      → (eqb k x && eqb (slot_of t (leaving t c)) (slot_of s b)) ≡ eqb (4 * seen_as K k t + c) (part K x s b)
  hit_test k fk t c lc = same_bool _ _
      (λ q.
      let d = both (eqb k x) (eqb (slot_of t (leaving t c)) (slot_of s b)) q in
      let e : k ≡ x = eqb-true k x d.0 in
      let i = slot_inj t s (leaving t c) b (leaving_lt t c lc) lb (eqb-true _ _ d.1) in
      let l : leaving s b ≡ c = rw (← i.0, ← i.1) (leaving_leaving t c) in
      let u : seen_as K k t ≡ seen_as K x s = rw (e, i.0) in
      eq-eqb (4 * seen_as K k t + c) (part K x s b) (omega arith))
      (λ q.
      let e : 4 * seen_as K k t + c ≡ part K x s b = eqb-true _ _ q in
      let l = leaving_lt s b lb in
      let u : seen_as K k t ≡ seen_as K x s = omega arith in
      let d : c ≡ leaving s b = omega arith in
      let i = seen_inj K k x t s odd fk fx u in
      let j : slot_of t (leaving t c) ≡ slot_of s b = rw (i.1, d, leaving_leaving s b) in
      rw (eq-eqb k x i.0, eq-eqb (slot_of t (leaving t c)) (slot_of s b) j))

  -- It is sighted where a k-mer, seen from its side, and the base behind it are that part.
  hit_part : (k : ℕ) → Key K k → (t : Side) (c : ℕ) → c < 4
      → times (sighting k t (leaving t c)) x (slot_of s b) ≡ same (4 * seen_as K k t + c) (part K x s b)
  unfolding times
  hit_part k fk t c lc =
      rw (lt-ltb (leaving t c) 4 (leaving_lt t c lc), hit_test k fk t c lc) (omega arith)

-- A missing neighbour is no sighting.
hit_none : (x j k : ℕ) (t : Side) → times (sighting k t (leaving t 5)) x j ≡ 0
unfolding times complement
hit_none x j k Front = refl
hit_none x j k Back = refl

-- ---- the sightings of a window

-- How often window i sights counter j of k-mer x with its successor, and with its predecessor.
abbrev pub after : ℕ → List ℕ → ℕ → ℕ → ℕ → ℕ
after K label x j i =
    let t = opposite (entrance K (window K label i)) in
    times (sighting (canon K (window K label i)) t (leaving t (successor K label i))) x j

abbrev pub before : Rule → ℕ → List ℕ → ℕ → ℕ → ℕ → ℕ
before rule K label x j i =
    let t = entrance K (window K label i) in
    times (sighting (canon K (window K label i)) t (leaving t (complement (predecessor rule K label i)))) x j

-- Window i and the base behind it.
abbrev pub long : ℕ → List ℕ → ℕ → ℕ
long K label i = 4 * window K label i + code_of (get_or label (i + K) 0)

pub after_none : (K : ℕ) (label : List ℕ) (x j i : ℕ) → length label ≤ i + K → after K label x j i ≡ 0
unfolding successor
after_none K label x j i h =
    rw (le-ltb (i + K) (length label) h) (hit_none x j (canon K (window K label i)) (opposite (entrance K (window K label i))))

pub before_none : (rule : Rule) (K : ℕ) (label : List ℕ) (x j i : ℕ) → predecessor rule K label i ≡ 5 → before rule K label x j i ≡ 0
before_none rule K label x j i e =
    rw (e, complement_none) (hit_none x j (canon K (window K label i)) (entrance K (window K label i)))

module _ (K : ℕ) (odd : K % 2 ≡ 1) (x : ℕ) (fx : Key K x) (s : Side) (b : ℕ) (lb : b < 4)
    (rule : Rule) (label : List ℕ) (bases : Bases label) (i : ℕ) (h : i + K < length label) where
  link : Link K (window K label i) (code_of (get_or label (i + K) 0)) (code_of (get_or label i 0)) (window K label (suc i))
  link = window_link K label i bases h

  pub after_is : after K label x (slot_of s b) i ≡ same (long K label i) (part K x s b)
  unfolding successor
  after_is =
      let w = window K label i in
      rw (lt-ltb (i + K) (length label) h)
      (hit_part K odd x fx s b lb (canon K w) (canon_key K w link.left) (opposite (entrance K w)) (code_of (get_or label (i + K) 0)) link.next
      ∙ rw (seen_exit K w link.left))

  pub before_is : before rule K label x (slot_of s b) (suc i)
      ≡ cond (rule K (window K label i) (window K label (suc i))) 0 (same (rc (suc K) (long K label i)) (part K x s b))
  unfolding predecessor
  before_is = go (rule K (window K label i) (window K label (suc i))) refl
    where
      go : (t : Bool) → rule K (window K label i) (window K label (suc i)) ≡ t → before rule K label x (slot_of s b) (suc i)
          ≡ cond t 0 (same (rc (suc K) (long K label i)) (part K x s b))
      go true e = before_none rule K label x (slot_of s b) (suc i) (rw e)
      go false e =
          let w = window K label (suc i) in
          let p = code_of (get_or label i 0) in
          rw (e, complement_is p link.first)
          (hit_part K odd x fx s b lb (canon K w) (canon_key K w link.right) (entrance K w) (3 - p) (omega (arith, link.first))
          ∙ rw (seen_entrance K w link.right, link_turned link))
