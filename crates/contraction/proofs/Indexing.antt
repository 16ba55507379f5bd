-- Entries whose labels stand in a buffer and all differ: sorted by the buffer's bytes they are the definition's.
-- Assumes nothing.
use mathlib.Core.Path.{◌≡◌, refl, sym, ap, ◌∙◌}
use mathlib.Core.Bool.{Bool, true, false, cond, not, ◌&&◌, ◌||◌, false≢true}
use mathlib.Core.List.{List, [], ◌∷◌, ◌++◌, map, map-map}
use mathlib.Core.Logic.{⊎_elim}
use Prim.Native.Nat.{ℕ, ◌≤◌}
use native.Mathlib.Omega.{arith}
use lib.Dec.{ltb, eqb}
use lib.ListN.{length, drop, length-map}
use borrow.Author.Tests.{le-leb}
use Rattle.lemmas.proofs.Numbers.{true_or_false}
use Rattle.dna.specs.Text.{over, part}
use Rattle.dna.specs.Order.{before}
use Rattle.dna.proofs.Order.{before_same}
use Rattle.graph.specs.Contraction.{Entry, put_in, sorted}
use Rattle.laws.specs.Demand.{Each, Each.none, Each.more}
use Rattle.laws.proofs.Indexed.{sorted_each}
use Rattle.laws.proofs.Apart.{Apart, Apart.alone, Apart.beside}
use Rattle.sorting.specs.Index.{Spot, comes_first, spots, put_by, sort_by, sorted_spots, Sorts}
use Rattle.sorting.proofs.Ordered.{sort_length}
use Rattle.contraction.specs.Says.{starts_of, lengths_of, Ordered}
use Rattle.dna.proofs.Overwriting.{over_over}

-- Where both slices have so many entries, sorting puts them in order.
pub ordered : {t : Bool} {b s l s' l' : List ℕ} {n : ℕ} → n ≤ length s → n ≤ length l → Sorts t b s l n s' l'
    → Ordered b s l n s' l'
ordered {s = s} {l = l} {n = n} h k S =
    let hs = le-leb n (length s) h in
    let hl = le-leb n (length l) k in
    record { starts_after = S.starts_after ∙ rw (hs, hl); lengths_after = S.lengths_after ∙ rw (hs, hl) }

abbrev spot_of : Entry → Spot
spot_of e = record { start = e.start; length = length e.label }

spots_of : (es : List Entry) (s l : List ℕ) → spots (length es) (starts_of es ++ s)
    (lengths_of es ++ l) ≡ map spot_of es
unfolding spots
spots_of [] s l = refl
spots_of (e ∷ es) s l = ap (λ (z : List Spot). spot_of e ∷ z) (spots_of es s l)

-- Where one of two stands before the other, the tie is not asked.
first_of : (a b t : Bool) → (a ≡ false → b ≡ true) → (a || not b && t) ≡ a
first_of true b t f = refl
first_of false true t f = refl
first_of false false t f = absurd (false≢true (f refl))

module _ (b : List ℕ) where
  abbrev pub Reads : Entry → Type 0
  Reads e = part b e.start (length e.label) ≡ e.label

  order_is : (x y : Entry) → Reads x → Reads y → (y.label ≡ x.label → ⊥)
      → comes_first b (spot_of x) (spot_of y) ≡ before x.label y.label
  order_is x y p q f =
      let tie : Bool = ltb x.start y.start || eqb x.start y.start && ltb (length x.label) (length y.label) in
      rw (p, q)
      (first_of (before x.label y.label) (before y.label x.label) tie
      (λ h. ⊎_elim (λ k. k) (λ k. absurd (f (before_same y.label x.label k h)))
      (true_or_false (before y.label x.label))))

  put_spots : (e : Entry) {xs : List Entry} → Reads e → Each Reads xs → Each (λ x. e.label ≡ x.label → ⊥) xs
      → map spot_of (put_in e xs) ≡ put_by (comes_first b) (spot_of e) (map spot_of xs)
  unfolding put_in put_by
  put_spots e p none none = refl
  put_spots e p (more {x = x} {xs = xs} q r) (more f g) =
      rw (order_is x e q p f) (go (before x.label e.label) (put_spots e p r g))
    where
      go : (t : Bool) → map spot_of (put_in e xs) ≡ put_by (comes_first b) (spot_of e) (map spot_of xs)
          → map spot_of (cond t (x ∷ put_in e xs) (e ∷ x ∷ xs))
          ≡ cond t (spot_of x ∷ put_by (comes_first b) (spot_of e) (map spot_of xs))
          (spot_of e ∷ spot_of x ∷ map spot_of xs)
      go true k = ap (λ (z : List Spot). spot_of x ∷ z) k
      go false k = refl

  sorted_spots_lem : {es : List Entry} → Each Reads es → Apart (λ e. e.label) es
      → map spot_of (sorted es) ≡ sort_by (comes_first b) (map spot_of es)
  unfolding sorted sort_by
  sorted_spots_lem none alone = refl
  sorted_spots_lem (more {x = e} p r) (beside f a) =
      put_spots e p (sorted_each Reads r) (sorted_each (λ x. e.label ≡ x.label → ⊥) f)
      ∙ ap (put_by (comes_first b) (spot_of e)) (sorted_spots_lem r a)

  module _ {es : List Entry} (r : Each Reads es) (a : Apart (λ e. e.label) es) (s l : List ℕ) where
    in_place : sorted_spots b (length es) (over (starts_of es) s) (over (lengths_of es) l) ≡ map spot_of (sorted es)
    in_place =
        ap (sort_by (comes_first b)) (spots_of es (drop (length (starts_of es)) s) (drop (length (lengths_of es)) l))
        ∙ sym (sorted_spots_lem r a)

    as_many : length (sorted es) ≡ length es
    as_many =
        sym (length-map (sorted es) spot_of) ∙ ap length (sorted_spots_lem r a)
        ∙ sort_length (comes_first b) (map spot_of es)
        ∙ length-map es spot_of

    -- A column of the index.
    column : (f : Spot → ℕ) (old : List ℕ)
        → over (map f (sorted_spots b (length es) (over (starts_of es) s) (over (lengths_of es) l)))
        (over (map (λ e. f (spot_of e)) es) old)
        ≡ over (map (λ e. f (spot_of e)) (sorted es)) old
    column f old =
        let g : Entry → ℕ = λ e. f (spot_of e) in
        ap (λ (z : List ℕ). over z (over (map (λ e. f (spot_of e)) es) old))
        (ap (map f) in_place ∙ map-map f spot_of (sorted es))
        ∙ over_over (map (λ e. f (spot_of e)) es) (map (λ e. f (spot_of e)) (sorted es)) old
        (omega (arith, length-map es g, length-map (sorted es) g, as_many))

    pub index_is : {s' l' : List ℕ} → Ordered b (over (starts_of es) s) (over (lengths_of es) l) (length es) s' l'
        → (s' ≡ over (starts_of (sorted es)) s) × (l' ≡ over (lengths_of (sorted es)) l)
    index_is o = (o.starts_after ∙ column (λ p. p.start) s, o.lengths_after ∙ column (λ p. p.length) l)
