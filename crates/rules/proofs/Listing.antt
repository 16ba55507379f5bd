-- A text holds a list exactly where it is the list's records; our own FASTA holds its labels. Assumes nothing.
use Prim.Native.Nat.{ℕ}
use mathlib.Core.Path.{◌≡◌, refl, sym, ap, ◌∙◌, subst}
use mathlib.Core.Bool.{Bool, true, false, cond, ◌&&◌}
use mathlib.Core.List.{List, [], ◌∷◌, ◌++◌, append_assoc}
use native.Mathlib.Omega.{arith}
use borrow.Author.Tests.{eqb-true, eqb-false, ne_eqb, leb-true, le-leb}
use lib.Dec.{eqb, leb}
use lib.ListN.{length, get_or}
use Rattle.lemmas.proofs.Tests.{both, choose, or_first, or_second}
use Rattle.dna.specs.Text.{bytes, among, open_text}
use Rattle.dna.proofs.Text.{at_each}
use Rattle.graph.specs.Fasta.{records_of}
use Rattle.laws.specs.Windows.{Plain}
use Rattle.laws.specs.Demand.{Each, Each.none as nothing, Each.more as first}
use Rattle.rules.specs.Listing.{Label, Lists, Listing, holds, no_list, put, lines_of, is_plain, and_then, labels_among, listing}
use Rattle.rules.specs.Listing.Lists.{none, one}

plain_sound : (l : List ℕ) → is_plain l ≡ true → Plain l
unfolding is_plain
plain_sound [] h = tt
plain_sound (b ∷ l) h = let r = both (among b (bytes "ACGT")) (is_plain l) h in (r.0, plain_sound l r.1)

plain_complete : (l : List ℕ) → Plain l → is_plain l ≡ true
unfolding is_plain
plain_complete [] h = refl
plain_complete (b ∷ l) h = rw (h.0, plain_complete l h.1)

-- No newline is a letter.
letter_not : (b : ℕ) → among b (bytes "ACGT") ≡ true → eqb 10 b ≡ false
unfolding open_text
letter_not b h = at_each (λ c. eqb 10 c) (λ c. false) (bytes "ACGT") refl b h

pub plain_line : (l : List ℕ) → Plain l → among 10 l ≡ false
unfolding among
plain_line [] h = refl
plain_line (b ∷ l) h = rw (letter_not b h.0, plain_line l h.1)

-- ---- lines

-- The first line of a text ends at its first newline.
pub lines_line : (s t : List ℕ) → among 10 s ≡ false → lines_of (s ++ (10 ∷ t)) ≡ s ∷ lines_of t
unfolding among lines_of put
lines_line [] t h = refl
lines_line (b ∷ s) t h =
    let e : eqb b 10 ≡ false = ne_eqb b 10 (λ q. eqb-false 10 b (or_first (eqb 10 b) (among 10 s) h) (sym q)) in
    rw (e, lines_line s t (or_second (eqb 10 b) (among 10 s) h))

-- A text with its lines behind one another is itself, and no line has a newline.
data Lined : List (List ℕ) → List ℕ → Type 0 where
  last : {l : List ℕ} → among 10 l ≡ false → Lined (l ∷ []) l
  next : {l : List ℕ} {ls : List (List ℕ)} {t : List ℕ} → among 10 l ≡ false → Lined ls t → Lined (l ∷ ls) (l ++ (10 ∷ t))

lined_put : (b : ℕ) → eqb b 10 ≡ false → {ls : List (List ℕ)} {t : List ℕ} → Lined ls t → Lined (put b ls) (b ∷ t)
unfolding put among
lined_put b e (last {l = l} h) = last {l = b ∷ l} (rw (ne_eqb 10 b (λ q. eqb-false b 10 e (sym q)), h))
lined_put b e (next {l = l} h r) = next {l = b ∷ l} (rw (ne_eqb 10 b (λ q. eqb-false b 10 e (sym q)), h)) r

lined : (t : List ℕ) → Lined (lines_of t) t
unfolding lines_of among
lined [] = last refl
lined (b ∷ t) = go (lined t) (eqb b 10) refl
  where
    go : Lined (lines_of t) t → (e : Bool) → eqb b 10 ≡ e → Lined (cond e ([] ∷ lines_of t) (put b (lines_of t))) (b ∷ t)
    go ih true e = subst (λ (c : ℕ). Lined ([] ∷ lines_of t) (c ∷ t)) (sym (eqb-true b 10 e)) (next refl ih)
    go ih false e = lined_put b e ih

-- ---- records

begun : (h : List ℕ) → get_or h 0 0 ≡ 62 → among 10 h ≡ false → (rest : List ℕ) × (h ≡ 62 ∷ rest) × (among 10 rest ≡ false)
unfolding among
begun [] e n = absurd (omega arith)
begun (b ∷ h) e n = (h, ap (λ (c : ℕ). c ∷ h) e, or_second (eqb 10 b) (among 10 h) n)

module _ (K : ℕ) where
  then_holds : (l : List ℕ) (r : Listing) {ls : List (List ℕ)} → and_then l r ≡ holds ls → (ms : List (List ℕ)) × (r ≡ holds ms)
      × (ls ≡ l ∷ ms)
  then_holds l (holds ms) {ls} e = (ms, refl, inside e)
    where
      inside : {ps cs : List (List ℕ)} → holds ps ≡ holds cs → cs ≡ ps
      inside q = cc
  then_holds l no_list e = absurd (let z : ◌≡◌ {A = ℕ} 0 1 = cc in omega arith)

  abbrev test : List ℕ → List ℕ → Bool
  test h l = eqb (get_or h 0 0) 62 && leb K (length l) && is_plain l

  among_sound : {lines : List (List ℕ)} {t : List ℕ} → Lined lines t → {ls : List (List ℕ)} → labels_among K lines ≡ holds ls → Lists K t ls
  unfolding labels_among
  among_sound (last {l = []} h) e = subst (Lists K []) (inside e) none
    where
      inside : {ls : List (List ℕ)} → holds [] ≡ holds ls → [] ≡ ls
      inside q = cc
  among_sound (last {l = b ∷ l} h) e = absurd (let z : ◌≡◌ {A = ℕ} 0 1 = cc in omega arith)
  among_sound (next {l = h} n (last {l = l} m)) {ls} e =
      choose (λ (r : Listing). r ≡ holds ls → Lists K (h ++ (10 ∷ l)) ls) (test h l)
      (λ _ q. absurd (let z : ◌≡◌ {A = ℕ} 0 1 = cc in omega arith)) (λ _ q. absurd (let z : ◌≡◌ {A = ℕ} 0 1 = cc in omega arith)) e
  among_sound (next {l = h} n (next {l = l} {ls = lines} {t = t} m r)) {ls} e =
      choose (λ (x : Listing). x ≡ holds ls → Lists K (h ++ (10 ∷ (l ++ (10 ∷ t)))) ls) (test h l)
      (λ c q.
      let a = both (eqb (get_or h 0 0) 62 && leb K (length l)) (is_plain l) c in
      let b = both (eqb (get_or h 0 0) 62) (leb K (length l)) a.0 in
      let g = begun h (eqb-true (get_or h 0 0) 62 b.0) n in
      let d = then_holds l (labels_among K lines) q in
      rw (g.1, d.2) (one g.0 l g.2 (plain_sound l a.1, leb-true K (length l) b.1) (among_sound r d.1)))
      (λ c q. absurd (let z : ◌≡◌ {A = ℕ} 0 1 = cc in omega arith)) e

  -- What a text is told to hold it holds,
  pub listing_sound : {text : List ℕ} {ls : List (List ℕ)} → listing K text ≡ holds ls → Lists K text ls
  listing_sound {text} e = among_sound (lined text) e

  -- and what it holds is told.
  pub listing_complete : {text : List ℕ} {ls : List (List ℕ)} → Lists K text ls → listing K text ≡ holds ls
  unfolding labels_among lines_of
  listing_complete none = refl
  listing_complete (one header label {text} {ls} n p r) =
      ap (labels_among K)
      (lines_line (62 ∷ header) (label ++ (10 ∷ text)) (begin header n)
      ∙ ap (λ (lines : List (List ℕ)). (62 ∷ header) ∷ lines) (lines_line label text (plain_line label p.0)))
      ∙ rw (le-leb K (length label) p.1, plain_complete label p.0, listing_complete r)
    where
      begin : (h : List ℕ) → among 10 h ≡ false → among 10 (62 ∷ h) ≡ false
      begin h q = unfold among in q

  -- So it holds one list.
  pub one_list : {text : List ℕ} {ls ms : List (List ℕ)} → Lists K text ls → Lists K text ms → ls ≡ ms
  one_list h g = ap labels_in (sym (listing_complete h) ∙ listing_complete g)
    where
      labels_in : Listing → List (List ℕ)
      labels_in (holds ls) = ls
      labels_in no_list = []

  pub lists_labels : {text : List ℕ} {ls : List (List ℕ)} → Lists K text ls → Each (Label K) ls
  lists_labels none = nothing
  lists_labels (one header label n p r) = first p (lists_labels r)

  -- Our own FASTA holds its labels.
  pub records_listed : {ls : List (List ℕ)} → Each (Label K) ls → Lists K (records_of ls) ls
  unfolding records_of
  records_listed nothing = none
  records_listed (first {x = l} {xs = ls} p e) =
      subst (λ (t : List ℕ). Lists K t (l ∷ ls)) (ap (λ (s : List ℕ). 62 ∷ 48 ∷ 10 ∷ s) (sym (append_assoc l (10 ∷ []) (records_of ls))))
      (one (48 ∷ []) l zero_line p (records_listed e))
    where
      zero_line : among 10 (48 ∷ []) ≡ false
      zero_line = unfold among in refl
