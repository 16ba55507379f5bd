-- The words of a table: the bits of all of them put together are within the counters exactly where those of each are.
-- Assumes nothing.
use mathlib.Core.Path.{◌≡◌, refl, sym, ap₂, ◌∙◌}
use mathlib.Core.Bool.{true, ◌&&◌, and-true, and_assoc}
use mathlib.Core.List.{List, [], ◌∷◌}
use Prim.Native.Nat.{ℕ, zero, suc, ◌+◌, ◌*◌, ◌^◌, ◌%◌, ◌≤◌, ◌<◌}
use native.Mathlib.Nat.{mod-one}
use native.Mathlib.Omega.{arith}
use lib.Dec.{eqb, ltb}
use Rattle.std.specs.List.{fold}
use lib.Bits.{bit_or, or_add_and, and_le_l, and_le_r, or_mod, or_lt, or_zero_l}
use lib.ListN.{length, take, get_or}
use borrow.Author.Tests.{ltb-true, lt-ltb, eqb-true, eq-eqb}
use Rattle.lemmas.proofs.Tests.{both, same_bool}
use Rattle.state.specs.Counted.{Kind, four_bits, unit, word_fits}
use Rattle.graph.specs.Table.{words_fit}

-- ---- two words

or_above : (a b : ℕ) → (a ≤ bit_or a b) × (b ≤ bit_or a b)
or_above a b = (omega (arith, or_add_and a b, and_le_r a b), omega (arith, or_add_and a b, and_le_l a b))

module _ (κ : Kind) (a b : ℕ) where
  apart : word_fits κ (bit_or a b) ≡ true → (word_fits κ a && word_fits κ b) ≡ true
  apart h =
      let p = both (eqb (bit_or a b % unit κ 0) 0) (ltb (bit_or a b) (unit κ 8)) h in
      let none : bit_or (a % unit κ 0) (b % unit κ 0) ≡ 0 = sym (or_mod a b (κ.first + κ.width * 0))
      ∙ eqb-true _ _ p.0 in
      let above = or_above (a % unit κ 0) (b % unit κ 0) in
      let below : bit_or a b < unit κ 8 = ltb-true _ _ p.1 in
      rw (
        eq-eqb (a % unit κ 0) 0 (omega (arith, above.0)),
        eq-eqb (b % unit κ 0) 0 (omega (arith, above.1)),
        lt-ltb a (unit κ 8) (omega (arith, (or_above a b).0)),
        lt-ltb b (unit κ 8) (omega (arith, (or_above a b).1)),
      )

  together : (word_fits κ a && word_fits κ b) ≡ true → word_fits κ (bit_or a b) ≡ true
  together h =
      let q = both (word_fits κ a) (word_fits κ b) h in
      let p = both (eqb (a % unit κ 0) 0) (ltb a (unit κ 8)) q.0 in
      let r = both (eqb (b % unit κ 0) 0) (ltb b (unit κ 8)) q.1 in
      let x : a % unit κ 0 ≡ 0 = eqb-true _ _ p.0 in
      let y : b % unit κ 0 ≡ 0 = eqb-true _ _ r.0 in
      let none : bit_or a b % unit κ 0 ≡ 0 = or_mod a b (κ.first + κ.width * 0) ∙ ap₂ bit_or x y ∙ or_zero_l 0 in
      rw (
        eq-eqb (bit_or a b % unit κ 0) 0 none,
        lt-ltb (bit_or a b) (unit κ 8) (or_lt (κ.first + κ.width * 8) a b (ltb-true _ _ p.1) (ltb-true _ _ r.1)),
      )

  or_fits : word_fits κ (bit_or a b) ≡ word_fits κ a && word_fits κ b
  or_fits = same_bool (word_fits κ (bit_or a b)) (word_fits κ a && word_fits κ b) apart together

-- ---- many words

module _ (κ : Kind) where
  -- The words put to bits that are there.
  pub gathered : (ws : List ℕ) (bits : ℕ)
      → word_fits κ (fold (λ b w. bit_or b w) bits ws) ≡ word_fits κ bits && words_fit κ ws
  unfolding words_fit
  gathered [] bits = sym (and-true (word_fits κ bits))
  gathered (w ∷ ws) bits = gathered ws (bit_or bits w)
      ∙ rw (or_fits κ bits w) (and_assoc (word_fits κ bits) (word_fits κ w) (words_fit κ ws))

  pub words_all : (n : ℕ) (ws : List ℕ) → n ≤ length ws → ((i : ℕ) → i < n → word_fits κ (get_or ws i 0) ≡ true)
      → words_fit κ (take n ws) ≡ true
  unfolding words_fit
  words_all zero ws l h = refl
  words_all (suc n) [] l h = absurd (omega arith)
  words_all (suc n) (w ∷ ws) l h = rw (h 0 (omega arith), words_all n ws (omega arith) (λ i b. h (suc i) (omega arith)))

-- Four bits each fill a word of 32 bits.
pub four_fits : (w : ℕ) → w < 2 ^ 32 → word_fits four_bits w ≡ true
four_fits w h = rw (eq-eqb (w % 1) 0 (mod-one w), lt-ltb w (2 ^ 32) h)
