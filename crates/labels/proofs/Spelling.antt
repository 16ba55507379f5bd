-- Decimal digits read from the left: what is left to read says what the whole does. Assumes nothing.
use mathlib.Core.Path.{◌≡◌, refl, sym, ◌∙◌}
use mathlib.Core.Bool.{true, false, ◌&&◌, and-false}
use mathlib.Core.List.{List, [], ◌∷◌}
use Prim.Native.Nat.{ℕ, ◌+◌, ◌*◌, ◌-◌, ◌≤◌, ◌<◌}
use native.Mathlib.Omega.{arith}
use lib.Dec.{eqb, leb}
use lib.ListN.{length, drop, get_or}
use borrow.Author.Tests.{le-leb, lt-leb, leb-true}
use Rattle.std.specs.Prelude.{Option, Some, None}
use Rattle.std.specs.Char.{is_ascii_digit}
use Rattle.std.proofs.lemmas.List.{at_drop_more, at_drop_all}
use Rattle.lemmas.proofs.Tests.{choose, both}
use Rattle.label_file.specs.Spelled.{are_digits, said}
use Rattle.labels.specs.Spelled.{spelled_from, spelled}

-- More digits make no smaller number.
said_grows : (x : ℕ) (ds : List ℕ) → x ≤ said x ds
unfolding said
said_grows x [] = omega arith
said_grows x (d ∷ ds) = omega (arith, said_grows (10 * x + (d - 48)) ds)

module _ (most : ℕ) where
  -- What a text says after x, by its first byte, and by x itself.
  from_none : (x : ℕ) → x ≤ most → spelled_from x [] most ≡ Some x
  unfolding are_digits said
  from_none x h = rw (le-leb x most h)

  from_other : (x d : ℕ) (ds : List ℕ) → is_ascii_digit d ≡ false → spelled_from x (d ∷ ds) most ≡ None
  unfolding are_digits
  from_other x d ds h = rw h

  from_digit : (x d : ℕ) (ds : List ℕ) → is_ascii_digit d ≡ true
      → spelled_from x (d ∷ ds) most ≡ spelled_from (10 * x + (d - 48)) ds most
  unfolding are_digits said
  from_digit x d ds h = rw h

  from_above : (x : ℕ) (ds : List ℕ) → most < x → spelled_from x ds most ≡ None
  from_above x ds h =
      let a : most < said x ds = omega (arith, said_grows x ds) in
      rw (lt-leb (said x ds) most a, and-false)

  -- A number that is said is not above the limit.
  pub spelled_most : (ds : List ℕ) (x : ℕ) → Some x ≡ spelled ds most → x ≤ most
  unfolding spelled
  spelled_most ds x =
      let P : Option ℕ → Type 0 = λ n. Some x ≡ n → x ≤ most in
      let low = leb (said 0 ds) most in
      choose P (eqb (length ds) 0) (λ _ e. cc)
      (λ _. choose P (are_digits ds && low)
      (λ h e. let s : x ≡ said 0 ds = cc in omega (arith, leb-true (said 0 ds) most (both (are_digits ds) low h).1))
      (λ _ e. cc))

module _ (digits : List ℕ) (most : ℕ) where
  -- The first i digits were read: they say x.
  pub record Read (x i : ℕ) : Type 0 where
    pub low : x ≤ most
    pub same : spelled digits most ≡ spelled_from x (drop i digits) most

  pub spelled_empty : true ≡ eqb (length digits) 0 → None ≡ spelled digits most
  unfolding spelled
  spelled_empty h = rw (← h)

  pub read_none : false ≡ eqb (length digits) 0 → Read 0 0
  unfolding spelled
  read_none h = record { low = omega arith; same = rw (← h) }

  module _ {x i : ℕ} (r : Read x i) where
    pub read_all : length digits ≤ i → Some x ≡ spelled digits most
    read_all h =
        sym (r.same ∙ at_drop_all (λ (ds : List ℕ). spelled_from x ds most) digits i h ∙ from_none most x r.low)

    module _ (inside : i < length digits) where
      left : spelled digits most ≡ spelled_from x (get_or digits i 0 ∷ drop (i + 1) digits) most
      left = r.same ∙ at_drop_more (λ (ds : List ℕ). spelled_from x ds most) digits i 0 inside

      pub read_other : is_ascii_digit (get_or digits i 0) ≡ false → None ≡ spelled digits most
      read_other h = sym (left ∙ from_other most x _ _ h)

      module _ (digit : is_ascii_digit (get_or digits i 0) ≡ true) where
        next : spelled digits most ≡ spelled_from (10 * x + (get_or digits i 0 - 48)) (drop (i + 1) digits) most
        next = left ∙ from_digit most x _ _ digit

        pub read_above : most < 10 * x + (get_or digits i 0 - 48) → None ≡ spelled digits most
        read_above h = sym (next ∙ from_above most _ _ h)

        pub read_digit : 10 * x + (get_or digits i 0 - 48) ≤ most → Read (10 * x + (get_or digits i 0 - 48)) (i + 1)
        read_digit h = record { low = h; same = next }
