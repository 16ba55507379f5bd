-- New keys put in among keys at their ranks, and words beside them: what is stored then, and each stored k-mer's word. Assumes nothing.
use mathlib.Core.Path.{◌≡◌, refl, sym, ap, ap₂, ◌∙◌}
use mathlib.Core.Bool.{Bool, true, false, cond, ◌||◌, or-true, or-false}
use mathlib.Core.Logic.{⊎_elim}
use mathlib.Core.List.{List, [], ◌∷◌, map}
use Prim.Native.Nat.{ℕ, suc, ◌+◌, ◌≤◌, ◌<◌}
use native.Mathlib.Decide.{ℕ_discrete}
use native.Mathlib.Omega.{arith}
use lib.ListN.{length, get_or, length-map}
use borrow.Author.Tests.{lt-ltb, le-ltb, le-leb, ne_eqb}
use Rattle.lemmas.proofs.Tests.{never}
use Rattle.lemmas.proofs.Numbers.{lt_or_ge}
use Rattle.graph.specs.Table.{fit_from, rank, stored, insert_at}
use Rattle.graph.proofs.Rank.{rank_le, stored_nil, stored_on, stored_here}
use Rattle.graph.proofs.Fit.{fit_cons}
use Rattle.graph.proofs.Insert.{with_key, insert_length, insert_fit, insert_stored, insert_other, insert_value, insert_keeps}
use Rattle.table.specs.Join.{rising, put_in}
use Rattle.adding.proofs.Ranks.{rank_grows, rank_behind}
use Rattle.graph.proofs.Alike.{stored_low, stored_head}

module _ (ks : List ℕ) where
  -- Keys put in at their ranks, and a word beside each.
  abbrev pub places_of : List ℕ → List ℕ
  places_of xs = map (rank ks) xs

  abbrev pub keys_in : List ℕ → List ℕ
  keys_in xs = put_in (places_of xs) xs ks

  abbrev pub words_in : (ℕ → ℕ) → List ℕ → List ℕ → List ℕ
  words_in word cs xs = put_in (places_of xs) (map word xs) cs

  pub in_length : (xs vs cs : List ℕ) → length vs ≡ length xs → length cs ≡ length ks
      → length (put_in (places_of xs) vs cs) ≡ length ks + length xs
  unfolding put_in
  in_length [] vs cs lv lc = omega arith
  in_length (x ∷ xs) [] cs lv lc = absurd (omega arith)
  in_length (x ∷ xs) (v ∷ vs) cs lv lc =
      let ih = in_length xs vs cs (omega arith) lc in
      insert_length (rank ks x) v (put_in (places_of xs) vs cs) (omega (arith, rank_le ks x)) ∙ omega arith

  module _ (K : ℕ) where
    -- A key below all of them has the same rank.
    rank_front : (least x : ℕ) (xs : List ℕ) → fit_from K least xs ≡ true → x < least → rank (keys_in xs) x ≡ rank ks x
    unfolding put_in
    rank_front least x [] f h = refl
    rank_front least x (z ∷ xs) f h =
        let g = fit_cons K least z xs f in
        let a = g.above in
        let ih = rank_front (suc z) x xs g.rest (omega arith) in
        rank_behind (keys_in xs) (rank ks z) z x (omega (arith, rank_grows ks x z (omega arith))) (omega arith) ∙ ih

    module _ (least x : ℕ) (xs : List ℕ) (f : fit_from K least (x ∷ xs) ≡ true) where
      rest_fits : fit_from K (suc x) xs ≡ true
      rest_fits = (fit_cons K least x xs f).rest

      first_place : rank ks x ≡ rank (keys_in xs) x
      first_place = sym (rank_front (suc x) x xs rest_fits (omega arith))

      keys_first : keys_in (x ∷ xs) ≡ with_key (keys_in xs) x
      unfolding put_in
      keys_first = ap (λ (p : ℕ). insert_at p x (keys_in xs)) first_place

      words_first : (v : ℕ) (vs cs : List ℕ)
          → put_in (places_of (x ∷ xs)) (v ∷ vs) cs ≡ insert_at (rank (keys_in xs) x) v (put_in (places_of xs) vs cs)
      unfolding put_in
      words_first v vs cs = ap (λ (p : ℕ). insert_at p v (put_in (places_of xs) vs cs)) first_place

      -- The first is none of the others, and the others are behind it.
      first_not : stored xs x ≡ false
      first_not = stored_low K (suc x) xs x rest_fits (omega arith)

      others_on : (y : ℕ) → (x ≡ y → ⊥) → stored (x ∷ xs) y ≡ stored xs y
      others_on y n = ⊎_elim
          (λ (l : x < y). stored_on x xs y (lt-ltb x y l))
          (λ (l : y ≤ x). stored_here x xs y (le-ltb x y l) ∙ ne_eqb x y n ∙ sym (stored_low K (suc x) xs y rest_fits (omega arith)))
          (lt_or_ge x y)

      -- Where none of them is stored, none of the others is.
      rest_new : ((y : ℕ) → stored (x ∷ xs) y ≡ true → stored ks y ≡ false) → (y : ℕ) → stored xs y ≡ true → stored ks y ≡ false
      rest_new n y s =
          n y (others_on y (λ (e : x ≡ y). never (stored xs y) s (ap (stored xs) (sym e) ∙ first_not)) ∙ s)

    pub keys_stored : (least : ℕ) (xs : List ℕ) (y : ℕ) → fit_from K least xs ≡ true → stored (keys_in xs) y ≡ (stored ks y || stored xs y)
    unfolding put_in
    keys_stored least [] y f = sym (ap (λ (b : Bool). stored ks y || b) (stored_nil y) ∙ or-false (stored ks y))
    keys_stored least (x ∷ xs) y f =
        go (keys_stored (suc x) xs y (rest_fits least x xs f)) (ℕ_discrete x y)
      where
        go : stored (keys_in xs) y ≡ (stored ks y || stored xs y) → Dec (x ≡ y) → stored (keys_in (x ∷ xs)) y ≡ (stored ks y || stored (x ∷ xs) y)
        go ih (yes e) =
            ap (λ (l : List ℕ). stored l y) (keys_first least x xs f) ∙ rw (← e)
            (insert_stored (keys_in xs) x ∙ sym (ap (λ (b : Bool). stored ks x || b) (stored_head x xs) ∙ or-true (stored ks x)))
        go ih (no n) =
            ap (λ (l : List ℕ). stored l y) (keys_first least x xs f) ∙ insert_other (keys_in xs) x y n ∙ ih
            ∙ ap (λ (b : Bool). stored ks y || b) (sym (others_on least x xs f y n))

    module _ (sound : fit_from K 0 ks ≡ true) where
      pub keys_fit : (least : ℕ) (xs : List ℕ) → fit_from K least xs ≡ true → ((y : ℕ) → stored xs y ≡ true → stored ks y ≡ false)
          → fit_from K 0 (keys_in xs) ≡ true
      unfolding put_in
      keys_fit least [] f n = sound
      keys_fit least (x ∷ xs) f n =
          let g = fit_cons K least x xs f in
          let fresh : stored (keys_in xs) x ≡ false =
          keys_stored (suc x) xs x g.rest ∙ rw (n x (stored_head x xs), first_not least x xs f) in
          rw (keys_first least x xs f)
          (insert_fit K 0 x (keys_in xs) (keys_fit (suc x) xs g.rest (rest_new least x xs f n)) (omega arith) g.below g.canonical fresh)

    -- Each stored k-mer's word: its own, or the one put in beside it.
    module _ (word : ℕ → ℕ) (cs : List ℕ) (sizes : length cs ≡ length ks) where
      pub words_at : (least : ℕ) (xs : List ℕ) (y : ℕ) → fit_from K least xs ≡ true → ((y : ℕ) → stored xs y ≡ true → stored ks y ≡ false)
          → stored (keys_in xs) y ≡ true → get_or (words_in word cs xs) (rank (keys_in xs) y) 0 ≡ cond (stored ks y) (get_or cs (rank ks y) 0) (word y)
      unfolding put_in
      words_at least [] y f n s = rw s
      words_at least (x ∷ xs) y f n s =
          go (words_at (suc x) xs y (rest_fits least x xs f) (rest_new least x xs f n)) (ℕ_discrete x y)
        where
          long : length (words_in word cs xs) ≡ length (keys_in xs)
          long = in_length xs (map word xs) cs (length-map xs word) sizes ∙ sym (in_length xs xs ks refl refl)

          moved : get_or (words_in word cs (x ∷ xs)) (rank (keys_in (x ∷ xs)) y) 0
              ≡ get_or (insert_at (rank (keys_in xs) x) (word x) (words_in word cs xs)) (rank (with_key (keys_in xs) x) y) 0
          moved =
              ap₂ (λ (l m : List ℕ). get_or l (rank m y) 0) (words_first least x xs f (word x) (map word xs) cs) (keys_first least x xs f)

          go : (stored (keys_in xs) y ≡ true → get_or (words_in word cs xs) (rank (keys_in xs) y) 0 ≡ cond (stored ks y) (get_or cs (rank ks y) 0) (word y))
              → Dec (x ≡ y) → get_or (words_in word cs (x ∷ xs)) (rank (keys_in (x ∷ xs)) y) 0 ≡ cond (stored ks y) (get_or cs (rank ks y) 0) (word y)
          go ih (yes e) =
              moved ∙ rw (← e, n x (stored_head x xs)) (insert_value (keys_in xs) (words_in word cs xs) x (word x) 0 long)
          go ih (no d) =
              let t : stored (keys_in xs) y ≡ true =
              sym (insert_other (keys_in xs) x y d) ∙ ap (λ (l : List ℕ). stored l y) (sym (keys_first least x xs f)) ∙ s in
              moved ∙ insert_keeps (keys_in xs) (words_in word cs xs) x y (word x) 0 long d t ∙ ih t

    -- The places do not fall.
    pub places_rise : (low least : ℕ) (xs : List ℕ) → fit_from K least xs ≡ true → ((y : ℕ) → least ≤ y → low ≤ rank ks y)
        → rising (length ks) low (places_of xs) ≡ true
    unfolding rising
    places_rise low least [] f h = refl
    places_rise low least (x ∷ xs) f h =
        let g = fit_cons K least x xs f in
        rw (le-leb low (rank ks x) (h x g.above), le-leb (rank ks x) (length ks) (rank_le ks x))
        (places_rise (rank ks x) (suc x) xs g.rest (λ y l. rank_grows ks x y (omega arith)))
