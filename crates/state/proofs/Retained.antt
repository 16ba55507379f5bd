-- The retained bases of a side are exactly those whose count is at least the cutoff; a measure of them grows base by
-- base. Assumes nothing.
use mathlib.Core.Path.{◌≡◌, refl, sym}
use mathlib.Core.Logic.{◌↔◌, ⊎_elim}
use mathlib.Core.Bool.{Bool, true, false, cond}
use mathlib.Core.List.Memᴰ
use mathlib.Core.List.{List, [], ◌∷◌, Memᴰ}
use Prim.Native.Nat.{ℕ, zero, suc, ◌+◌, ◌*◌, ◌≤◌, ◌<◌}
use native.Mathlib.Omega.{arith}
use lib.Dec.{leb, eqb}
use lib.ListN.{length}
use borrow.Author.Tests.{leb-true, le-leb, eqb-true, eqb-false}
use Rattle.std.proofs.Common.{add-one}
use Rattle.lemmas.proofs.Tests.{choose}
use Rattle.state.specs.Counted.{Kind, slot_of, count, retained}
use Rattle.state.specs.declared.Side.{Side}

-- The sum of a list.
unfoldable pub total : List ℕ → ℕ
total [] = 0
total (b ∷ l) = b + total l

module _ (κ : Kind) (cutoff w : ℕ) (s : Side) where
  abbrev pub keeps : ℕ → Bool
  keeps b = leb cutoff (count κ w (slot_of s b))

  -- A measure f of lists to which each member x adds g x grows, with one base more, by what that base adds where it is
  -- retained.
  module _ (f : List ℕ → ℕ) (g : ℕ → ℕ) (one : (x : ℕ) (l : List ℕ) → f (x ∷ l) ≡ g x + f l) where
    grown : (m b n : ℕ) → n ≡ b + m
        → f (retained κ cutoff w s (suc m) b) ≡ f (retained κ cutoff w s m b) + cond (keeps n) (g n) 0
    unfolding retained
    grown zero b n e = let q : n ≡ b = omega arith in rw q (go (keeps b))
      where
        go : (t : Bool) → f (cond t (b ∷ []) []) ≡ f [] + cond t (g b) 0
        go true = omega (arith, one b [])
        go false = omega arith
    grown (suc m) b n e =
        go (keeps b) (retained κ cutoff w s (suc m) (suc b)) (retained κ cutoff w s m (suc b))
        (grown m (suc b) n (omega arith))
      where
        go : (t : Bool) (k l : List ℕ) → f k ≡ f l + cond (keeps n) (g n) 0
            → f (cond t (b ∷ k) k) ≡ f (cond t (b ∷ l) l) + cond (keeps n) (g n) 0
        go true k l h = omega (arith, one b k, one b l)
        go false k l h = h

  -- A listed base is one of those asked for, and has the count.
  listed :
      (m b x : ℕ) → Memᴰ x (retained κ cutoff w s m b) → (b ≤ x) × (x < b + m) × (cutoff ≤ count κ w (slot_of s x))
  unfolding retained
  listed zero b x h = absurd (Memᴰ.not-nil h)
  listed (suc m) b x h =
      let later :
      Memᴰ x (retained κ cutoff w s m (suc b)) →
      (b ≤ x) × (x < b + suc m) × (cutoff ≤ count κ w (slot_of s x)) =
      λ i. let r = listed m (suc b) x i in (omega arith, omega arith, r.2) in
      choose
      (λ l. Memᴰ x l → (b ≤ x) × (x < b + suc m) × (cutoff ≤ count κ w (slot_of s x)))
      (leb cutoff (count κ w (slot_of s b)))
      (λ e i. ⊎_elim (λ q. (omega arith, omega arith, rw q (leb-true _ _ e))) later (Memᴰ.cases_cons i))
      (λ e. later)
      h

  -- A base that has the count is listed.
  lists :
      (m b x : ℕ) → b ≤ x → x < b + m → cutoff ≤ count κ w (slot_of s x) → Memᴰ x (retained κ cutoff w s m b)
  unfolding retained
  lists zero b x l u h = absurd (omega arith)
  lists (suc m) b x l u h = go (eqb x b) refl (λ k. lists m (suc b) x k (omega arith) h)
    where
      go :
          (t : Bool) → eqb x b ≡ t → (suc b ≤ x → Memᴰ x (retained κ cutoff w s m (suc b))) →
          Memᴰ x (retained κ cutoff w s (suc m) b)
      go true e later =
          let q : x ≡ b = eqb-true _ _ e in
          let k : leb cutoff (count κ w (slot_of s b)) ≡ true = le-leb _ _ (rw q at h) in
          rw k (Memᴰ.head q)
      go false e later =
          let ne = eqb-false x b e in
          let i = later (omega arith) in
          choose (λ l. Memᴰ x l) (leb cutoff (count κ w (slot_of s b))) (λ _. Memᴰ.tail i) (λ _. i)

  -- The list of a side holds the bases with the count and nothing else.
  pub retained_exactly :
      (x : ℕ) → Memᴰ x (retained κ cutoff w s 4 0) ↔ ((x < 4) × (cutoff ≤ count κ w (slot_of s x)))
  retained_exactly x =
      (λ i. let r = listed 4 0 x i in (omega arith, r.2), λ h. lists 4 0 x (omega arith) (omega arith) h.1)

  -- Of the bases below n so many are retained, with this sum of their codes.
  pub record Below (n edges codes : ℕ) : Type 0 where
    pub number : edges ≡ length (retained κ cutoff w s n 0)
    pub sum : codes ≡ total (retained κ cutoff w s n 0)
    pub few : edges ≤ n
    pub small : codes ≤ 3 * n

  pub below_none : Below 0 0 0
  unfolding retained total
  below_none = record { number = refl; sum = refl; few = omega arith; small = omega arith }

  module _ {n edges codes : ℕ} (b : Below n edges codes) where
    edges_grown : length (retained κ cutoff w s (suc n) 0) ≡ edges + cond (keeps n) 1 0
    edges_grown = omega (arith, grown length (λ _. 1) (λ x l. omega arith) n 0 n (omega arith), b.number)

    codes_grown : total (retained κ cutoff w s (suc n) 0) ≡ codes + cond (keeps n) n 0
    unfolding total
    codes_grown = omega (arith, grown total (λ x. x) (λ x l. refl) n 0 n (omega arith), b.sum)

    pub below_kept : n < 4 → keeps n ≡ true → Below (n + 1) (edges + 1) (codes + n)
    below_kept h k = rw (add-one n) record {
      number = sym (rw k at edges_grown);
      sum = sym (rw k at codes_grown);
      few = omega (arith, b.few);
      small = omega (arith, b.small);
    }

    pub below_left : keeps n ≡ false → Below (n + 1) edges codes
    below_left k = rw (add-one n) record {
      number = omega (arith, rw k at edges_grown);
      sum = omega (arith, rw k at codes_grown);
      few = omega (arith, b.few);
      small = omega (arith, b.small);
    }
