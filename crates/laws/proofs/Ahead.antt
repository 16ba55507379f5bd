-- Where the edges lead that a label sights: from each window to the next, and back. What holds of two neighbouring windows both
-- ways holds of each sighting's k-mer and the one that its edge leads to. Assumes nothing.
use mathlib.Core.Path.{◌≡◌, refl}
use mathlib.Core.Bool.{Bool, true, false, cond}
use mathlib.Core.Logic.{inl, inr, ⊎_elim}
use mathlib.Core.List.{List}
use Prim.Native.Nat.{ℕ, zero, suc, ◌+◌, ◌-◌, ◌<◌}
use native.Mathlib.Omega.{arith}
use lib.ListN.{length, get_or}
use borrow.Author.Tests.{lt-ltb, le-ltb}
use Rattle.lemmas.proofs.Numbers.{lt_or_ge}
use Rattle.dna.specs.Letters.{code_of, complement}
use Rattle.kmer.specs.Kmer.{rc, canon, forward}
use Rattle.kmer.proofs.Windows.{Bases}
use Rattle.kmer.proofs.Strands.{canon_rc}
use Rattle.state.specs.declared.Side.{Side}
use Rattle.state.specs.Counted.{opposite, slot_of}
use Rattle.graph.specs.Sightings.{Rule, window, windows, predecessor, successor, sightings_at, sightings}
use Rattle.graph.specs.Walks.{leaving, entrance}
use Rattle.graph.proofs.Adding.{Readable}
use Rattle.laws.proofs.Sighted.{EachSighted, each_at, each_all}
use Rattle.laws.proofs.Links.{Link, window_link, link_forward, link_back}
use Rattle.laws.proofs.Sides.{seen_as, complement_is, seen_exit, seen_entrance, leads}

-- P holds of k-mer x and the k-mer that the edge leads to that counter j of x stands for.
abbrev pub Ahead : ℕ → (ℕ → ℕ → Type 0) → ℕ → ℕ → Type 0
Ahead K P x j = (s : Side) (b : ℕ) → b < 4 → j ≡ slot_of s b → P x (canon K (forward K (seen_as K x s) (leaving s b)))

module _ (rule : Rule) (K : ℕ) (label : List ℕ) where
  -- The successor of window i leads to window i + 1.
  successor_link : Bases label → (i : ℕ) → successor K label i < 4 → (i + K < length label)
      × Link K (window K label i) (successor K label i) (code_of (get_or label i 0)) (window K label (suc i))
  unfolding successor
  successor_link b i h = ⊎_elim
      (λ l. (l, rw (lt-ltb (i + K) (length label) l) (window_link K label i b l)))
      (λ l. absurd (let e : successor K label i ≡ 5 = rw (le-ltb (i + K) (length label) l) in omega arith))
      (lt_or_ge (i + K) (length label))

  -- A predecessor is the base before the window.
  predecessor_is : (i : ℕ) → predecessor rule K label (suc i) < 4 → predecessor rule K label (suc i) ≡ code_of (get_or label i 0)
  unfolding predecessor
  predecessor_is i h = go (rule K (window K label i) (window K label (suc i))) h
    where
      go : (t : Bool) → cond t 5 (code_of (get_or label i 0)) < 4 → cond t 5 (code_of (get_or label i 0)) ≡ code_of (get_or label i 0)
      go true h = absurd (omega arith)
      go false h = refl

  module _ (P : ℕ → ℕ → Type 0) (b : Bases label)
      (onward : (i : ℕ) → i + K < length label → P (canon K (window K label i)) (canon K (window K label (suc i))))
      (back : (i : ℕ) → i + K < length label → P (canon K (window K label (suc i))) (canon K (window K label i))) where
    window_ahead : (i : ℕ) → i < windows K label → EachSighted (Ahead K P) (sightings_at rule K label i)
    unfolding predecessor
    window_ahead i l =
        let w = window K label i in
        let k = canon K w in
        let e = entrance K w in
        each_at (Ahead K P) rule K label i (before i l)
        (λ h.
        let n = successor_link b i h in
        let f : forward K (seen_as K k (opposite e)) (successor K label i) ≡ window K label (suc i) =
        rw (seen_exit K w n.1.left) (link_forward n.1) in
        leads K (λ y. P k (canon K y)) k (opposite e) (successor K label i) h (rw f (onward i n.0)))
      where
        before : (i : ℕ) → i < windows K label → predecessor rule K label i < 4 → let w = window K label i in
            Ahead K P (canon K w) (slot_of (entrance K w) (leaving (entrance K w) (complement (predecessor rule K label i))))
        before zero l h = absurd (omega arith)
        before (suc i) l h =
            let w = window K label (suc i) in
            let k = canon K w in
            let e = entrance K w in
            let p = code_of (get_or label i 0) in
            let short : i + K < length label = omega arith in
            let n : Link K (window K label i) (code_of (get_or label (i + K) 0)) p w = window_link K label i b short in
            let q : predecessor rule K label (suc i) ≡ p = predecessor_is i h in
            let c : complement p ≡ 3 - p = complement_is p n.first in
            let f : forward K (seen_as K k e) (3 - p) ≡ rc K (window K label i) =
            rw (seen_entrance K w n.right) (link_back n) in
            rw (q, c) (leads K (λ y. P k (canon K y)) k e (3 - p) (omega (arith, n.first))
            (rw (f, canon_rc K (window K label i) n.left) (back i short)))

  -- A label that adding reads is too short for a window, or a text of bases.
  pub label_ahead : (P : ℕ → ℕ → Type 0) → Readable K label
      → (Bases label → (i : ℕ) → i + K < length label → P (canon K (window K label i)) (canon K (window K label (suc i))))
      → (Bases label → (i : ℕ) → i + K < length label → P (canon K (window K label (suc i))) (canon K (window K label i)))
      → EachSighted (Ahead K P) (sightings rule K label (windows K label))
  label_ahead P (inl s) onward back = each_all (Ahead K P) rule K label (windows K label) (λ i l. absurd (omega arith))
  label_ahead P (inr b) onward back = each_all (Ahead K P) rule K label (windows K label) (window_ahead P b (onward b) (back b))
