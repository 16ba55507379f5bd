-- The bytes of a word, the lowest last, and the word that has eight bytes of a slice. Assumes nothing.
use mathlib.Core.Path.{◌≡◌, refl, sym, ap, ◌∙◌}
use mathlib.Core.List.{List, [], ◌∷◌, ◌++◌, append-nil, append_assoc}
use Prim.Native.Nat.{ℕ, zero, suc, ◌+◌, ◌*◌, ◌/◌, ◌%◌, ◌^◌, ◌<◌, ◌≤◌}
use native.Mathlib.Nat.{add-zero, add-suc}
use native.Mathlib.Omega.{arith}
use lib.Dec.{lit<}
use lib.ListN.{length, get_or, take, drop, length-append}
use lib.Pow.{shr-shr}
use lib.Seq.{drop-cons}
use mir.Syntax.{w64}
use Rattle.std.specs.Int.{from_be_bytes, to_be_bytes}
use Rattle.std.proofs.lemmas.Nat.{be_bytes_8}
use Rattle.kmer.specs.Packing.{bytes_in}

pub length_bytes : (n x : ℕ) → length (bytes_in n x) ≡ n
unfolding bytes_in
length_bytes zero x = refl
length_bytes (suc n) x = length-append (bytes_in n (x / 256)) (x % 256 ∷ []) ∙ omega (arith, length_bytes n (x / 256))

-- The d lowest bytes stand behind the others.
pub bytes_cat : (n d x : ℕ) → bytes_in (n + d) x ≡ bytes_in n (x / 2 ^ (8 * d)) ++ bytes_in d x
unfolding bytes_in
bytes_cat n zero x =
    let e : x ≡ x / 1 = omega arith in
    ap (λ (m : ℕ). bytes_in m x) (add-zero n) ∙ ap (bytes_in n) e ∙ sym (append-nil (bytes_in n (x / 1)))
bytes_cat n (suc d) x =
    let e : 8 + 8 * d ≡ 8 * suc d = omega arith in
    ap (λ (m : ℕ). bytes_in m x) (add-suc n d)
    ∙ ap (λ (l : List ℕ). l ++ (x % 256 ∷ [])) (bytes_cat n d (x / 256))
    ∙ append_assoc (bytes_in n (x / 256 / 2 ^ (8 * d))) (bytes_in d (x / 256)) (x % 256 ∷ [])
    ∙ ap (λ (y : ℕ). bytes_in n y ++ bytes_in (suc d) x) (shr-shr x 8 (8 * d) ∙ ap (λ (y : ℕ). x / 2 ^ y) e)

-- ---- eight bytes of a slice

eight_bytes : (x : ℕ) → bytes_in 8 x ≡ to_be_bytes w64 x
unfolding bytes_in
eight_bytes x = grind arith

-- Each number of a list is a byte.
abbrev Each : List ℕ → Type 0
Each l = (i : ℕ) → get_or l i 0 < 256

module _ (s : List ℕ) (at : ℕ) where
  -- One byte, and n behind it.
  byte : (i j n : ℕ) → i < length s → j ≡ suc i → get_or s i 0 ∷ take n (drop j s) ≡ take (suc n) (drop i s)
  byte i j n h e = rw (e, drop-cons s i 0 h)

  abbrev eight : List ℕ
  eight =
      get_or s at 0 ∷ get_or s (at + 1) 0 ∷ get_or s (at + 2) 0 ∷ get_or s (at + 3) 0 ∷ get_or s (at + 4) 0
      ∷ get_or s (at + 5) 0 ∷ get_or s (at + 6) 0 ∷ get_or s (at + 7) 0 ∷ []

  eight_is : at + 8 ≤ length s → eight ≡ take 8 (drop at s)
  eight_is h =
      let b = byte at (at + 1) 7 (omega arith) (omega arith) in
      let b₁ = byte (at + 1) (at + 2) 6 (omega arith) (omega arith) in
      let b₂ = byte (at + 2) (at + 3) 5 (omega arith) (omega arith) in
      let b₃ = byte (at + 3) (at + 4) 4 (omega arith) (omega arith) in
      let b₄ = byte (at + 4) (at + 5) 3 (omega arith) (omega arith) in
      let b₅ = byte (at + 5) (at + 6) 2 (omega arith) (omega arith) in
      let b₆ = byte (at + 6) (at + 7) 1 (omega arith) (omega arith) in
      let b₇ = byte (at + 7) (at + 8) 0 (omega arith) (omega arith) in
      cc

  eight_each : Each s → Each eight
  eight_each e zero = e at
  eight_each e (suc zero) = e (at + 1)
  eight_each e (suc (suc zero)) = e (at + 2)
  eight_each e (suc (suc (suc zero))) = e (at + 3)
  eight_each e (suc (suc (suc (suc zero)))) = e (at + 4)
  eight_each e (suc (suc (suc (suc (suc zero))))) = e (at + 5)
  eight_each e (suc (suc (suc (suc (suc (suc zero)))))) = e (at + 6)
  eight_each e (suc (suc (suc (suc (suc (suc (suc zero))))))) = e (at + 7)
  eight_each e (suc (suc (suc (suc (suc (suc (suc (suc i)))))))) = lit< tt

  -- The word of the bytes at `at` and behind has them as its bytes.
  pub loaded : (x : ℕ) → at + 8 ≤ length s → Each s → x ≡ from_be_bytes w64 eight
      → bytes_in 8 x ≡ take 8 (drop at s)
  loaded x h bytes e = eight_bytes x ∙ be_bytes_8 eight x refl (eight_each bytes) e ∙ eight_is h
