-- A k-mer put in among keys where its rank says, and a value among the values beside them. Assumes nothing.
use mathlib.Core.Path.{◌≡◌, refl, sym, ◌∙◌}
use mathlib.Core.Bool.{Bool, true, false}
use mathlib.Core.List.{List, [], ◌∷◌}
use Prim.Native.Nat.{ℕ, suc, ◌^◌, ◌≤◌}
use native.Mathlib.Omega.{arith}
use borrow.Author.Tests.{ltb-true, ltb-false, le-ltb, eq-eqb, ne_eqb, eqb-true, eqb-false}
use lib.Dec.{ltb}
use lib.ListN.{length, get_or, take, drop, length-append, length-take, length-drop}
use Rattle.lemmas.proofs.Tests.{never}
use Rattle.kmer.specs.Kmer.{is_canon}
use Rattle.graph.specs.Table.{rank, stored, fit_from, insert_at}
use Rattle.graph.proofs.Rank.{rank_nil, stored_nil, rank_on, rank_here, stored_on, stored_here}
use Rattle.graph.proofs.Fit.{FitCons, fit_nil, fit_cons, cons_fit}

pub insert_length : (i x : ℕ) (l : List ℕ) → i ≤ length l → length (insert_at i x l) ≡ suc (length l)
insert_length i x l h = omega (arith, length-append (take i l) (x ∷ drop i l), length-take i l, length-drop i l)

-- The keys with x among them.
abbrev pub with_key : List ℕ → ℕ → List ℕ
with_key ks x = insert_at (rank ks x) x ks

with_nil : (x : ℕ) → with_key [] x ≡ x ∷ []
with_nil x = rw (rank_nil x)

module _ (z : ℕ) (ks : List ℕ) (x : ℕ) where
  with_on : ltb z x ≡ true → with_key (z ∷ ks) x ≡ z ∷ with_key ks x
  with_on e = rw (rank_on z ks x e)

  with_here : ltb z x ≡ false → with_key (z ∷ ks) x ≡ x ∷ z ∷ ks
  with_here e = rw (rank_here z ks x e)

-- A new canonical k-mer below 4 to the K keeps the keys fit.
pub insert_fit : (K least x : ℕ) (ks : List ℕ) → fit_from K least ks ≡ true → least ≤ x → ltb x (4 ^ K) ≡ true → is_canon K x ≡ true
    → stored ks x ≡ false → fit_from K least (with_key ks x) ≡ true
insert_fit K least x [] f l b c n = rw (with_nil x) (cons_fit K least x [] (record { above = l; below = b; canonical = c; rest = fit_nil K (suc x) }))
insert_fit K least x (z ∷ ks) f l b c n =
    go (λ l' n'. insert_fit K (suc z) x ks (fit_cons K least z ks f).rest l' b c n') (fit_cons K least z ks f) (ltb z x) refl
  where
    go : (suc z ≤ x → stored ks x ≡ false → fit_from K (suc z) (with_key ks x) ≡ true) → FitCons K least z ks
        → (t : Bool) → ltb z x ≡ t → fit_from K least (with_key (z ∷ ks) x) ≡ true
    go ih g true e =
        rw (with_on z ks x e)
        (cons_fit K least z (with_key ks x)
        (record { above = g.above; below = g.below; canonical = g.canonical; rest = ih (ltb-true z x e) (sym (stored_on z ks x e) ∙ n) }))
    go ih g false e =
        let h : suc x ≤ z = omega (arith, ltb-false z x e, eqb-false z x (sym (stored_here z ks x e) ∙ n)) in
        let r = cons_fit K (suc x) z ks (record { above = h; below = g.below; canonical = g.canonical; rest = g.rest }) in
        rw (with_here z ks x e) (cons_fit K least x (z ∷ ks) (record { above = l; below = b; canonical = c; rest = r }))

-- It is then one of them.
pub insert_stored : (ks : List ℕ) (x : ℕ) → stored (with_key ks x) x ≡ true
insert_stored [] x = let e : ltb x x ≡ false = le-ltb x x (omega arith) in rw (with_nil x, stored_here x [] x e) (eq-eqb x x refl)
insert_stored (z ∷ ks) x = go (insert_stored ks x) (ltb z x) refl
  where
    go : stored (with_key ks x) x ≡ true → (t : Bool) → ltb z x ≡ t → stored (with_key (z ∷ ks) x) x ≡ true
    go ih true e = rw (with_on z ks x e, stored_on z (with_key ks x) x e) ih
    go ih false e =
        let h : ltb x x ≡ false = le-ltb x x (omega arith) in
        rw (with_here z ks x e, stored_here x (z ∷ ks) x h) (eq-eqb x x refl)

-- Whether another k-mer is one of them stays as it was.
pub insert_other : (ks : List ℕ) (x y : ℕ) → (x ≡ y → ⊥) → stored (with_key ks x) y ≡ stored ks y
insert_other [] x y n = rw (with_nil x) (go (ltb x y) refl)
  where
    go : (t : Bool) → ltb x y ≡ t → stored (x ∷ []) y ≡ stored [] y
    go true e = stored_on x [] y e
    go false e = stored_here x [] y e ∙ ne_eqb x y n ∙ sym (stored_nil y)
insert_other (z ∷ ks) x y n = go (insert_other ks x y n) (ltb z x) refl (ltb z y) refl (ltb x y) refl
  where
    go : stored (with_key ks x) y ≡ stored ks y → (s : Bool) → ltb z x ≡ s → (t : Bool) → ltb z y ≡ t → (u : Bool) → ltb x y ≡ u
        → stored (with_key (z ∷ ks) x) y ≡ stored (z ∷ ks) y
    go ih true e true f u g = rw (with_on z ks x e) (stored_on z (with_key ks x) y f ∙ ih ∙ sym (stored_on z ks y f))
    go ih true e false f u g = rw (with_on z ks x e) (stored_here z (with_key ks x) y f ∙ sym (stored_here z ks y f))
    go ih false e t f true g = rw (with_here z ks x e) (stored_on x (z ∷ ks) y g)
    go ih false e true f false g = absurd (omega (arith, ltb-false z x e, ltb-true z y f, ltb-false x y g))
    go ih false e false f false g =
        let h : z ≡ y → ⊥ = λ q. n (omega (arith, ltb-false z x e, ltb-false x y g)) in
        rw (with_here z ks x e) (stored_here x (z ∷ ks) y g ∙ ne_eqb x y n ∙ sym (stored_here z ks y f ∙ ne_eqb z y h))

-- The value put in beside it is read by its rank.
pub insert_value : (ks vs : List ℕ) (x v d : ℕ) → length vs ≡ length ks → get_or (insert_at (rank ks x) v vs) (rank (with_key ks x) x) d ≡ v
insert_value [] vs x v d l =
    let h : ltb x x ≡ false = le-ltb x x (omega arith) in
    rw (with_nil x, rank_here x [] x h, rank_nil x)
insert_value (z ∷ ks) [] x v d l = absurd (omega arith)
insert_value (z ∷ ks) (w ∷ vs) x v d l = go (insert_value ks vs x v d (omega arith)) (ltb z x) refl
  where
    go : get_or (insert_at (rank ks x) v vs) (rank (with_key ks x) x) d ≡ v → (t : Bool) → ltb z x ≡ t
        → get_or (insert_at (rank (z ∷ ks) x) v (w ∷ vs)) (rank (with_key (z ∷ ks) x) x) d ≡ v
    go ih true e = rw (with_on z ks x e, rank_on z (with_key ks x) x e, rank_on z ks x e) ih
    go ih false e =
        let h : ltb x x ≡ false = le-ltb x x (omega arith) in
        rw (with_here z ks x e, rank_here x (z ∷ ks) x h, rank_here z ks x e)

-- The value of another stored k-mer, read by its rank, stays as it was.
pub insert_keeps : (ks vs : List ℕ) (x y v d : ℕ) → length vs ≡ length ks → (x ≡ y → ⊥) → stored ks y ≡ true
    → get_or (insert_at (rank ks x) v vs) (rank (with_key ks x) y) d ≡ get_or vs (rank ks y) d
insert_keeps [] vs x y v d l n s = never (stored [] y) s (stored_nil y)
insert_keeps (z ∷ ks) [] x y v d l n s = absurd (omega arith)
insert_keeps (z ∷ ks) (w ∷ vs) x y v d l n s = go (insert_keeps ks vs x y v d (omega arith) n) (ltb z x) refl (ltb z y) refl (ltb x y) refl
  where
    go : (stored ks y ≡ true → get_or (insert_at (rank ks x) v vs) (rank (with_key ks x) y) d ≡ get_or vs (rank ks y) d)
        → (s : Bool) → ltb z x ≡ s → (t : Bool) → ltb z y ≡ t → (u : Bool) → ltb x y ≡ u
        → get_or (insert_at (rank (z ∷ ks) x) v (w ∷ vs)) (rank (with_key (z ∷ ks) x) y) d ≡ get_or (w ∷ vs) (rank (z ∷ ks) y) d
    go ih true e true f u g =
        rw (with_on z ks x e, rank_on z (with_key ks x) y f, rank_on z ks x e, rank_on z ks y f) (ih (sym (stored_on z ks y f) ∙ s))
    go ih true e false f u g = rw (with_on z ks x e, rank_here z (with_key ks x) y f, rank_on z ks x e, rank_here z ks y f)
    go ih false e t f true g = rw (with_here z ks x e, rank_on x (z ∷ ks) y g, rank_here z ks x e)
    go ih false e true f false g = absurd (omega (arith, ltb-false z x e, ltb-true z y f, ltb-false x y g))
    go ih false e false f false g =
        let q : z ≡ y = eqb-true z y (sym (stored_here z ks y f) ∙ s) in
        absurd (n (omega (arith, ltb-false z x e, ltb-false x y g)))
