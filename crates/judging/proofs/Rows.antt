-- The windows of a label in a row: the steps between them, and the two ends. Assumes nothing.
use Prim.Native.Nat.{ℕ, zero, suc, ◌+◌, ◌-◌, ◌≤◌, ◌<◌}
use mathlib.Core.Path.{◌≡◌, refl, sym, ap, ap₂, ◌∙◌, subst}
use mathlib.Core.Bool.{Bool, true, false, not, ◌||◌}
use mathlib.Core.List.{List, [], ◌∷◌, ◌++◌, map, reverse, reverse-cons}
use native.Mathlib.Omega.{arith}
use lib.ListN.{length, get_or, drop}
use Rattle.kmer.specs.Kmer.{ok_k, rc}
use Rattle.kmer.proofs.Bounds.{ok_bounds}
use Rattle.graph.specs.Sightings.{window}
use Rattle.graph.specs.Walks.{Ends}
use Rattle.laws.specs.Windows.{windows_from, windows_of}
use Rattle.dna.specs.Letters.{reverse_complement}
use Rattle.rules.specs.Listing.{Label}
use Rattle.rules.specs.Verdict.{is_step, bad_step, breaks4, last_of, loose_end}
use Rattle.rules.proofs.Stepping.{label_turned}
use Rattle.judging.specs.declared.Seen.{Seen}
use Rattle.judging.specs.Says.{Sees, row_from, turned_of}
use Rattle.judging.proofs.Looked.{sees_turned}

drop_next : (l : List ℕ) (o : ℕ) → drop 1 (drop o l) ≡ drop (suc o) l
drop_next [] zero = refl
drop_next [] (suc o) = refl
drop_next (x ∷ l) zero = refl
drop_next (x ∷ l) (suc o) = drop_next l o

module _ (K : ℕ) (label : List ℕ) where
  row_next : (o : ℕ) → o < length label - K → row_from K label o ≡ window K label o ∷ row_from K label (suc o)
  unfolding windows_from
  row_next o h =
      let e : length label - K - o ≡ suc (length label - K - suc o) = omega arith in
      ap (λ (t : List ℕ). window K label o ∷ t) (ap₂ (windows_from K) e (drop_next label o))

  row_last : (o : ℕ) → length label - K ≤ o → row_from K label o ≡ window K label o ∷ []
  unfolding windows_from
  row_last o h =
      let e : length label - K - o ≡ 0 = omega arith in
      ap (λ (m : ℕ). window K label o ∷ windows_from K m (drop 1 (drop o label))) e

  pub row_first : K ≤ length label → windows_of K label ≡ row_from K label 0
  row_first h = let e : suc (length label) - K ≡ suc (length label - K - 0) =
      omega arith in ap (λ (m : ℕ). windows_from K m label) e

  row_head : (o : ℕ) → (rest : List ℕ) × (row_from K label o ≡ window K label o ∷ rest)
  unfolding windows_from
  row_head o = (windows_from K (length label - K - o) (drop 1 (drop o label)), refl)

  row_end : (o m : ℕ) → o + m ≡ length label - K → last_of (row_from K label o) ≡ window K label (length label - K)
  unfolding last_of
  row_end o zero h = let e : o ≡ length label - K =
      omega arith in ap last_of (row_last o (omega arith)) ∙ ap (window K label) e
  row_end o (suc m) h =
      let r = row_head (suc o) in
      ap last_of (row_next o (omega arith) ∙ ap (λ (t : List ℕ). window K label o ∷ t) r.1)
      ∙ ap last_of (sym r.1) ∙ row_end (suc o) m (omega arith)

  -- Its first window and its last.
  pub label_first : K ≤ length label → get_or (windows_of K label) 0 0 ≡ window K label 0
  label_first h = ap (λ (t : List ℕ). get_or t 0 0) (row_first h ∙ (row_head 0).1)

  pub label_last : K ≤ length label → last_of (windows_of K label) ≡ window K label (length label - K)
  label_last h = ap last_of (row_first h) ∙ row_end 0 (length label - K) (omega arith)

-- ---- the steps of a row

module _ (K : ℕ) (ks : List ℕ) (es : List Ends) (label : List ℕ) where
  pub row_bad : (o : ℕ) → o < length label - K
      → bad_step K ks es (row_from K label o)
      ≡ (not (is_step K ks es (window K label o) (window K label (suc o))) || bad_step K ks es
      (row_from K label (suc o)))
  unfolding bad_step
  row_bad o h =
      let r = row_head K label (suc o) in
      ap (bad_step K ks es) (row_next K label o h ∙ ap (λ (t : List ℕ). window K label o ∷ t) r.1)
      ∙ ap (λ (t : List ℕ). not (is_step K ks es (window K label o) (window K label (suc o))) || bad_step K ks es t)
      (sym r.1)

  -- The last has none.
  pub row_alone : (o : ℕ) → length label - K ≤ o → bad_step K ks es (row_from K label o) ≡ false
  unfolding bad_step
  row_alone o h = ap (bad_step K ks es) (row_last K label o h)

-- ---- rule 4

last_snoc : (l : List ℕ) (b : ℕ) → last_of (l ++ (b ∷ [])) ≡ b
unfolding last_of
last_snoc [] b = refl
last_snoc (x ∷ []) b = refl
last_snoc (x ∷ y ∷ l) b = last_snoc (y ∷ l) b

head_append : (l : List ℕ) (b : ℕ) → 1 ≤ length l → get_or (l ++ (b ∷ [])) 0 0 ≡ get_or l 0 0
head_append [] b h = absurd (omega arith)
head_append (x ∷ l) b h = refl

turned_last : (f : ℕ → ℕ) (x : ℕ) (l : List ℕ) → last_of (reverse (map f (x ∷ l))) ≡ f x
turned_last f x l = ap last_of (reverse-cons (f x) (map f l)) ∙ last_snoc (reverse (map f l)) (f x)

turned_first : (f : ℕ → ℕ) (x : ℕ) (l : List ℕ) → get_or (reverse (map f (x ∷ l))) 0 0 ≡ f (last_of (x ∷ l))
unfolding last_of
turned_first f x [] = refl
turned_first f x (y ∷ l) =
    ap (λ (t : List ℕ). get_or t 0 0) (reverse-cons (f x) (map f (y ∷ l)))
    ∙ head_append (reverse (map f (y ∷ l))) (f x) (long (f y) (map f l)) ∙ turned_first f y l
  where
    long : (z : ℕ) (m : List ℕ) → 1 ≤ length (reverse (z ∷ m))
    long z m = rw (reverse-cons z m) (grows (reverse m) z)
      where
        grows : (m : List ℕ) (z : ℕ) → 1 ≤ length (m ++ (z ∷ []))
        grows [] z = omega arith
        grows (w ∷ m) z = omega arith

module _ (K : ℕ) (ok : ok_k K ≡ true) (label : List ℕ) (p : Label K label) where
  other_first : get_or (windows_of K (reverse_complement label)) 0 0 ≡ rc K (window K label (length label - K))
  other_first =
      let h : K ≤ length label = p.1 in
      let r = row_head K label 0 in
      let w = row_first K label h ∙ r.1 in
      ap (λ (t : List ℕ). get_or t 0 0) (label_turned K (ok_bounds K ok).0 label p
      ∙ ap (λ (t : List ℕ). reverse (map (rc K) t)) w)
      ∙ turned_first (rc K) (window K label 0) r.0 ∙ ap (rc K) (ap last_of (sym w) ∙ label_last K label h)

  other_last : last_of (windows_of K (reverse_complement label)) ≡ rc K (window K label 0)
  other_last =
      let h : K ≤ length label = p.1 in
      let r = row_head K label 0 in
      ap last_of (label_turned K (ok_bounds K ok).0 label p
      ∙ ap (λ (t : List ℕ). reverse (map (rc K) t)) (row_first K label h ∙ r.1))
      ∙ turned_last (rc K) (window K label 0) r.0

  module _ (ks : List ℕ) (es : List Ends) {first last : Seen} (gf : Sees K ks es (window K label 0) first)
      (gl : Sees K ks es (window K label (length label - K)) last)
      {a : Bool} (ea : (n m : ℕ) → Sees K ks es n first → Sees K ks es m last → a ≡ loose_end K ks es n m) where
    one_end : a ≡ loose_end K ks es (get_or (windows_of K label) 0 0) (last_of (windows_of K label))
    one_end =
        let h : K ≤ length label = p.1 in
        ea (window K label 0) (window K label (length label - K)) gf gl
        ∙ sym (ap₂ (loose_end K ks es) (label_first K label h) (label_last K label h))

    pub end_loose : a ≡ true → a ≡ breaks4 K ks es [] label
    unfolding breaks4
    end_loose h = let e : loose_end K ks es (get_or (windows_of K label) 0 0) (last_of (windows_of K label)) ≡ true =
        sym one_end ∙ h in h ∙ sym (rw e)

    pub end_other : a ≡ false → {f x : Seen} → f ≡ turned_of last → x ≡ turned_of first
        → {b : Bool} → ((n m : ℕ) → Sees K ks es n f → Sees K ks es m x → b ≡ loose_end K ks es n m)
        → b ≡ breaks4 K ks es [] label
    unfolding breaks4
    end_other h ef ex {b} eb =
        let e : loose_end K ks es (get_or (windows_of K label) 0 0) (last_of (windows_of K label)) ≡ false =
        sym one_end ∙ h in
        let g = subst (Sees K ks es (rc K (window K label (length label - K)))) (sym ef) (sees_turned gl) in
        let k = subst (Sees K ks es (rc K (window K label 0))) (sym ex) (sees_turned gf) in
        eb (rc K (window K label (length label - K))) (rc K (window K label 0)) g k
        ∙ sym (ap₂ (loose_end K ks es) other_first other_last) ∙ sym (rw e)
