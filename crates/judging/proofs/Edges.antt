-- A window's edges and its neighbours in the label: a row of windows has a bad step where the edges of one do not lead
-- to them. Assumes nothing.
use Prim.Native.Nat.{ℕ, suc, ◌+◌, ◌-◌, ◌^◌, ◌≤◌, ◌<◌}
use mathlib.Core.Path.{◌≡◌, refl, sym, ap, ap₂, ◌∙◌}
use mathlib.Core.Logic.{⊎_elim}
use mathlib.Core.Bool.{Bool, true, false, cond, not, ◌&&◌, ◌||◌}
use mathlib.Core.List.{List}
use native.Mathlib.Omega.{arith}
use borrow.Author.Tests.{eqb-true, eq-eqb, ne_eqb, lt-ltb, le-ltb}
use lib.Dec.{eqb}
use lib.ListN.{length, get_or}
use Rattle.lemmas.proofs.Numbers.{lt_or_ge}
use Rattle.lemmas.proofs.Tests.{same_bool}
use Rattle.dna.specs.Letters.{code_of, complement, valid_bits}
use Rattle.dna.proofs.Letters.{valid_code}
use Rattle.kmer.specs.Kmer.{rc, forward}
use Rattle.kmer.proofs.Windows.{Bases, bases_at}
use Rattle.kmer.proofs.Strands.{canon_rc}
use Rattle.state.specs.declared.Side.{Side}
use Rattle.state.specs.declared.Side.TheVariants.{Front, Back}
use Rattle.state.proofs.Slots.{opposite_opposite}
use Rattle.graph.specs.Table.{rank, stored}
use Rattle.graph.specs.Sightings.{window}
use Rattle.graph.specs.Walks.{Ends, edge, leaving, entrance}
use Rattle.laws.specs.Demand.{retained}
use Rattle.laws.proofs.Links.{Link, link_forward, link_back, forward_inj, window_link}
use Rattle.laws.proofs.Sides.{complement_is, complement_back, leaving_lt}
use Rattle.rules.specs.Verdict.{leads_to, exit, is_step, bad_step, breaks3}
use Rattle.judging.specs.Says.{row_from}
use Rattle.judging.specs.Standing.{followed, preceded, left, entered, joined_at, Joining}
use Rattle.judging.proofs.Rows.{row_first, row_bad, row_alone}

-- ---- letters

pub leaving_base : (e : ℕ) → e < 4 → 3 - e ≡ leaving Front e
leaving_base e h = sym (complement_is e h)

pub leaving_same : (s : Side) (e : ℕ) → 4 ≤ e → e ≡ leaving s e
unfolding complement
leaving_same Front e h = rw (le-ltb e 4 h)
leaving_same Back e h = refl

leaving_back : (s : Side) (e : ℕ) → leaving s e < 4 → e < 4
leaving_back Front e h = complement_back e h
leaving_back Back e h = h

code_is : (label : List ℕ) (i : ℕ) → i < length label → Bases label
    → valid_bits (get_or label i 0) ≡ code_of (get_or label i 0)
code_is label i h b = valid_code (get_or label i 0) (lt-ltb (code_of (get_or label i 0)) 4 (bases_at label i h b))

module _ (label : List ℕ) (bases : Bases label) (o b : ℕ) where
  pub followed_on : (K : ℕ) → o + K < length label → {v : ℕ} → v ≡ valid_bits (get_or label (o + K) 0) → {t : Bool}
      → t ≡ eqb b v → t
      ≡ followed K label o b
  followed_on K h e q = q ∙ ap (eqb b) (e ∙ code_is label (o + K) h bases) ∙ sym (rw (lt-ltb (o + K) (length label) h))

  pub preceded_on : (o ≡ 0 → ⊥) → o ≤ length label → {v : ℕ} → v ≡ valid_bits (get_or label (o - 1) 0) → {t : Bool}
      → t ≡ eqb b (3 - v)
      → t ≡ preceded label o b
  preceded_on h l e q =
      q ∙ ap (λ (v : ℕ). eqb b (3 - v)) (e ∙ code_is label (o - 1) (omega arith) bases) ∙ sym (rw (ne_eqb o 0 h))

-- ---- a step told by letters

module _ (K : ℕ) (ks : List ℕ) (es : List Ends) (one : 1 ≤ K) where
  -- An edge leads where its base does.
  leads_code : (x : ℕ) (s : Side) (b : ℕ) → b < 4
      → leads_to K ks es x s (forward K x b) ≡ eqb (leaving s (retained K ks es x s)) b
  unfolding leads_to
  leads_code x s b h = ⊎_elim
      (λ l.
      let c = leaving_lt s (retained K ks es x s) l in
      rw (lt-ltb (retained K ks es x s) 4 l)
      (same_bool (eqb (forward K x (leaving s (retained K ks es x s))) (forward K x b))
      (eqb (leaving s (retained K ks es x s)) b)
      (λ q. eq-eqb _ _ (forward_inj K x (leaving s (retained K ks es x s)) b one c h (eqb-true _ _ q)))
      (λ q. eq-eqb _ _ (ap (forward K x) (eqb-true _ _ q)))))
      (λ l.
      rw (le-ltb (retained K ks es x s) 4 l)
      (sym (ne_eqb (leaving s (retained K ks es x s)) b
      (λ q. let z = leaving_back s (retained K ks es x s) (rw q h) in absurd (omega arith)))))
      (lt_or_ge (retained K ks es x s) 4)

  retained_turned : (y : ℕ) (t : Side) → y < 4 ^ K → retained K ks es (rc K y) t ≡ retained K ks es y t
  unfolding retained
  retained_turned y t h = ap (λ (z : ℕ). cond (stored ks z) (edge es (rank ks z) t) 5) (canon_rc K y h)

  module _ (label : List ℕ) (bases : Bases label) (o : ℕ) (h : o + K < length label) where
    abbrev x : ℕ
    x = window K label o

    abbrev y : ℕ
    y = window K label (suc o)

    link : Link K x (code_of (get_or label (o + K) 0)) (code_of (get_or label o 0)) y
    link = window_link K label o bases h

    left_is : leads_to K ks es x (exit K ks es x) y ≡ left K ks es label o
    left_is =
        ap (leads_to K ks es x (exit K ks es x)) (sym (link_forward link))
        ∙ leads_code x (exit K ks es x) (code_of (get_or label (o + K) 0)) link.next
        ∙ sym (rw (lt-ltb (o + K) (length label) h))

    entered_is : leads_to K ks es (rc K y) (entrance K y) (rc K x) ≡ entered K ks es label (suc o)
    entered_is =
        let p = code_of (get_or label o 0) in
        let n : suc o - 1 ≡ o = omega arith in
        ap (leads_to K ks es (rc K y) (entrance K y)) (sym (link_back link))
        ∙ leads_code (rc K y) (entrance K y) (3 - p) (omega arith)
        ∙ ap (λ (r : ℕ). eqb (leaving (entrance K y) r) (3 - p)) (retained_turned y (entrance K y) link.right)
        ∙ ap (λ (t : Side). eqb (leaving t (retained K ks es y t)) (3 - p)) (sym (opposite_opposite (entrance K y)))
        ∙ sym (rw (ne_eqb (suc o) 0 (λ e. omega arith), n))

    step_is : is_step K ks es x y ≡ (left K ks es label o && entered K ks es label (suc o))
    step_is = ap₂ (λ (a b : Bool). a && b) left_is entered_is

-- ---- the windows of a label, one after the other

shift : (bad i n w r : Bool) → (bad || (not i || (not (n && w) || r))) ≡ ((bad || not (n && i)) || (not w || r))
shift true i n w r = refl
shift false true true w r = refl
shift false true false w r = refl
shift false false true w r = refl
shift false false false w r = refl

close : (bad i : Bool) → (bad || (not i || false)) ≡ (bad || not (true && i))
close true i = refl
close false true = refl
close false false = refl

-- Nothing bad is added.
pub still_fine : (bad : Bool) {b : Bool} → b ≡ false → bad ≡ (bad || b)
still_fine true e = refl
still_fine false e = sym e

module _ (K : ℕ) (ks : List ℕ) (es : List Ends) (label : List ℕ) where
  pub joining_start : K ≤ length label → Joining K ks es label 0 false
  joining_start h = record {
    going = λ _. ap (bad_step K ks es) (row_first K label h);
    gone = λ l. absurd (omega arith);
  }

  module _ (one : 1 ≤ K) (bases : Bases label) (o : ℕ) (inside : o + K ≤ length label) {bad : Bool}
      (j : Joining K ks es label o bad) where
    pub joining_next : {b : Bool} → b ≡ not (joined_at K ks es label o) → {worse : Bool} → worse ≡ (bad || b)
        → Joining K ks es label (o + 1) worse
    joining_next {b} e {worse} w = record {
      going = λ l.
          let n : o + 1 ≡ suc o = omega arith in
          let h : o + K < length label = omega arith in
          let s : worse ≡ (bad || not (left K ks es label o && entered K ks es label o)) =
          w ∙ ap (λ (z : Bool). bad || z) e in
          j.going inside
          ∙ ap (λ (z : Bool). bad || (not (entered K ks es label o) || z))
          (row_bad K ks es label o (omega arith)
          ∙ ap (λ (z : Bool). not z || bad_step K ks es (row_from K label (suc o)))
          (step_is K ks es one label bases o h))
          ∙ shift bad (entered K ks es label o) (left K ks es label o) (entered K ks es label (suc o))
          (bad_step K ks es (row_from K label (suc o)))
          ∙ ap₂ (λ (z : Bool) (i : ℕ). z || (not (entered K ks es label i) || bad_step K ks es (row_from K label i)))
          (sym s) (sym n);
      gone = λ l.
          let f : left K ks es label o ≡ true = rw (le-ltb (o + K) (length label) (omega arith)) in
          j.going inside
          ∙ ap (λ (z : Bool). bad || (not (entered K ks es label o) || z)) (row_alone K ks es label o (omega arith))
          ∙ close bad (entered K ks es label o)
          ∙ ap (λ (z : Bool). bad || not (z && entered K ks es label o)) (sym f)
          ∙ sym (w ∙ ap (λ (z : Bool). bad || z) e);
    }

  pub joining_end : {o : ℕ} {bad : Bool} → Joining K ks es label o bad → length label < o + K → (done : List (List ℕ))
      → bad
      ≡ breaks3 K ks es done label
  unfolding breaks3
  joining_end j h done = sym (j.gone h)
