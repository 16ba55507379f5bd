-- A k-mer's letters: one by one, and four from a byte. Assumes nothing.
use mathlib.Core.Path.{◌≡◌, refl, sym, ap, ◌∙◌}
use mathlib.Core.List.{List}
use Prim.Native.Nat.{ℕ, zero, suc, ◌+◌, ◌-◌, ◌*◌, ◌/◌, ◌%◌, ◌^◌, ◌<◌, ◌≤◌}
use native.Mathlib.Nat.{div-div-eq-div-mul, le_of_suc-le-suc}
use native.Mathlib.Omega.{arith}
use lib.ListN.{length, get_or, set}
use lib.Pow.{pow-add}
use Rattle.lemmas.proofs.Building.{Built, built_more}
use Rattle.dna.specs.Letters.{letter_of}
use Rattle.kmer.specs.Bits.{four_at}
use Rattle.kmer.specs.Kmer.{letters, quad_of}
use Rattle.kmer.proofs.Wide.{four}

pub length_letters : (k x : ℕ) → length (letters k x) ≡ k
unfolding letters
length_letters zero x = refl
length_letters (suc k) x = ap suc (length_letters k x)

pub letter_at : (k x i : ℕ) → i < k → get_or (letters k x) i 0 ≡ letter_of (x / 4 ^ (k - 1 - i) % 4)
unfolding letters
letter_at zero x i h = absurd (omega arith)
letter_at (suc k) x zero h =
    let e : suc k - 1 - 0 ≡ k = omega arith in rw e
letter_at (suc k) x (suc i) h =
    let e : suc k - 1 - suc i ≡ k - 1 - i = omega arith in rw e (letter_at k x i (le_of_suc-le-suc h))

letter_lt : (c : ℕ) → letter_of c < 2 ^ 8
unfolding letter_of
letter_lt zero = omega arith
letter_lt (suc zero) = omega arith
letter_lt (suc (suc zero)) = omega arith
letter_lt (suc (suc (suc zero))) = omega arith
letter_lt (suc (suc (suc (suc zero)))) = omega arith
letter_lt (suc (suc (suc (suc (suc zero))))) = omega arith
letter_lt (suc (suc (suc (suc (suc (suc c)))))) = omega arith

-- The four bytes of a quad are the letters of the four bases of a byte, the first in the top two bits.
module _ (y : ℕ) where
  quad_sum : quad_of (y % 2 ^ 8)
      ≡ letter_of (y / 4 ^ 3 % 4) + 2 ^ 8 * letter_of (y / 4 ^ 2 % 4) + 2 ^ 16 * letter_of (y / 4 % 4) + 2 ^ 24 * letter_of (y % 4)
  unfolding quad_of
  quad_sum =
      let a : y % 2 ^ 8 / 64 % 4 ≡ y / 4 ^ 3 % 4 = omega arith in
      let b : y % 2 ^ 8 / 16 % 4 ≡ y / 4 ^ 2 % 4 = omega arith in
      let c : y % 2 ^ 8 / 4 % 4 ≡ y / 4 % 4 = omega arith in
      let d : y % 2 ^ 8 % 4 ≡ y % 4 = omega arith in
      simp (a, b, c, d)

  module _ (quad : ℕ) (q : quad ≡ quad_of (y % 2 ^ 8)) where
    first : quad % 2 ^ 8 ≡ letter_of (y / 4 ^ 3 % 4)
    first = omega (arith, q, quad_sum, letter_lt (y / 4 ^ 3 % 4))

    second : quad / 2 ^ 8 % 2 ^ 8 ≡ letter_of (y / 4 ^ 2 % 4)
    second = omega (arith, q, quad_sum, letter_lt (y / 4 ^ 3 % 4), letter_lt (y / 4 ^ 2 % 4))

    third : quad / 2 ^ 16 % 2 ^ 8 ≡ letter_of (y / 4 % 4)
    third = omega (arith, q, quad_sum, letter_lt (y / 4 ^ 3 % 4), letter_lt (y / 4 ^ 2 % 4), letter_lt (y / 4 % 4))

    fourth : quad / 2 ^ 24 % 2 ^ 8 ≡ letter_of (y % 4)
    fourth = omega (arith, q, quad_sum, letter_lt (y / 4 ^ 3 % 4), letter_lt (y / 4 ^ 2 % 4), letter_lt (y / 4 % 4), letter_lt (y % 4))

-- A base of the byte with j bytes behind it is a base of the whole number.
inner : (x j m : ℕ) → x / 2 ^ (8 * j) / 4 ^ m ≡ x / 4 ^ (4 * j + m)
inner x j m =
    let e : 2 * (4 * j) ≡ 8 * j = omega arith in
    div-div-eq-div-mul x (2 ^ (8 * j)) (4 ^ m)
    ∙ ap (λ (n : ℕ). x / (n * 4 ^ m)) (sym (four (4 * j) ∙ ap (λ (n : ℕ). 2 ^ n) e))
    ∙ ap (λ (n : ℕ). x / n) (sym (pow-add 4 (4 * j) m))

-- Four cells more.
built_four : (text s out : List ℕ) (at a b c d : ℕ) → Built text s out at → at + 4 ≤ length text → at + 4 ≤ length s →
    a ≡ get_or text at 0 → b ≡ get_or text (at + 1) 0 → c ≡ get_or text (at + 2) 0 → d ≡ get_or text (at + 3) 0 →
    Built text s (four_at out at a b c d) (at + 4)
built_four text s out at a b c d h ht hs ea eb ec ed =
    let two : at + 1 + 1 ≡ at + 2 = omega arith in
    let three : at + 2 + 1 ≡ at + 3 = omega arith in
    let four : at + 3 + 1 ≡ at + 4 = omega arith in
    let s₁ = built_more text s out at h a (omega arith) (omega arith) ea in
    let s₂ = rw two at (built_more text s (set out at a) (at + 1) s₁ b (omega arith) (omega arith) eb) in
    let s₃ = rw three at (built_more text s (set (set out at a) (at + 1) b) (at + 2) s₂ c (omega arith) (omega arith) ec) in
    rw four at
    (built_more text s (set (set (set out at a) (at + 1) b) (at + 2) c) (at + 3) s₃ d (omega arith) (omega arith) ed)

-- The quad of the byte with j bytes behind it, written at its place.
module _ (k x j at : ℕ) (e : k ≡ at + 4 + 4 * j) where
  letter_of_lem : (m p : ℕ) → m < 4 → p + m ≡ at + 3 → letter_of (x / 2 ^ (8 * j) / 4 ^ m % 4) ≡ get_or (letters k x) p 0
  letter_of_lem m p l q =
      let d : k - 1 - p ≡ 4 * j + m = omega arith in
      sym
      (letter_at k x p (omega arith) ∙ ap (λ (n : ℕ). letter_of (x / 4 ^ n % 4)) d
      ∙ ap (λ (n : ℕ). letter_of (n % 4)) (sym (inner x j m)))

  pub built_quad : (s out : List ℕ) (quad : ℕ) → quad ≡ quad_of (x / 2 ^ (8 * j) % 2 ^ 8) → k ≤ length s →
      Built (letters k x) s out at →
      Built (letters k x) s (four_at out at (quad % 2 ^ 8) (quad / 2 ^ 8 % 2 ^ 8) (quad / 2 ^ 16 % 2 ^ 8) (quad / 2 ^ 24 % 2 ^ 8)) (at + 4)
  built_quad s out quad q h b =
      let y : ℕ = x / 2 ^ (8 * j) in
      let n = length_letters k x in
      let one : y % 4 ≡ y / 4 ^ 0 % 4 = omega arith in
      built_four (letters k x) s out at _ _ _ _ b (omega arith) (omega arith)
      (first y quad q ∙ letter_of_lem 3 at (omega arith) (omega arith))
      (second y quad q ∙ letter_of_lem 2 (at + 1) (omega arith) (omega arith))
      (third y quad q ∙ letter_of_lem 1 (at + 2) (omega arith) (omega arith))
      (fourth y quad q ∙ ap letter_of one ∙ letter_of_lem 0 (at + 3) (omega arith) (omega arith))
