-- Laws of the letters. Assumes nothing.
use mathlib.Core.Path.{◌≡◌, refl}
use mathlib.Core.Bool.{true, false, cond, ◌&&◌, false≢true}
use Prim.Native.Nat.{ℕ, zero, suc, ◌-◌, ◌/◌, ◌^◌, ◌≤◌, ◌<◌}
use native.Mathlib.Omega.{arith}
use borrow.Author.Tests.{lt-ltb, ltb-true, ltb-false}
use lib.Bits.{bit_and, bit_xor}
use lib.Dec.{eqb, ltb}
use Rattle.lemmas.proofs.Tests.{choose}
use Rattle.lemmas.proofs.Tables.{everywhere}
use Rattle.dna.specs.Text.{bytes, among, open_text}
use Rattle.dna.specs.Letters.{code_of, letter_of, complement, is_base, valid_bits, open_letters}
use Rattle.dna.proofs.Text.{at_each}

-- Every byte is a base or N.
pub code_le : (b : ℕ) → code_of b ≤ 4
unfolding code_of
code_le b =
    choose (λ c. c ≤ 4) (among b (bytes "Aa")) (λ _. omega arith)
    (λ _. choose (λ c. c ≤ 4) (among b (bytes "Cc")) (λ _. omega arith)
    (λ _. choose (λ c. c ≤ 4) (among b (bytes "Gg")) (λ _. omega arith)
    (λ _. choose (λ c. c ≤ 4) (among b (bytes "TtUu")) (λ _. omega arith) (λ _. omega arith))))

-- What is no base is N.
pub no_base : (b : ℕ) → is_base b ≡ false → code_of b ≡ 4
no_base b e = omega (arith, code_le b, ltb-false (code_of b) 4 e)

-- A code's letter reads as that code.
pub code_letter : (c : ℕ) → c ≤ 4 → code_of (letter_of c) ≡ c
unfolding open_text open_letters
code_letter zero h = refl
code_letter (suc zero) h = refl
code_letter (suc (suc zero)) h = refl
code_letter (suc (suc (suc zero))) h = refl
code_letter (suc (suc (suc (suc zero)))) h = refl
code_letter (suc (suc (suc (suc (suc c))))) h = absurd (omega arith)

-- Complement undoes itself.
pub complement_complement : (c : ℕ) → complement (complement c) ≡ c
unfolding complement
complement_complement c =
    choose (λ d. cond (ltb d 4) (3 - d) d ≡ c) (ltb c 4)
    (λ e. let h : c < 4 = ltb-true c 4 e in rw (lt-ltb (3 - c) 4 (omega arith)) (omega arith))
    (λ e. rw e)

-- The complement of a base takes both of its bits' complements.
pub xor_three : (c : ℕ) → c < 4 → bit_xor c 3 ≡ complement c
unfolding complement
xor_three zero h = refl
xor_three (suc zero) h = refl
xor_three (suc (suc zero)) h = refl
xor_three (suc (suc (suc zero))) h = refl
xor_three (suc (suc (suc (suc c)))) h = absurd (omega arith)

-- The two bits that a byte has by itself are its code exactly where it is a base.
pub valid_bits_lem : (b : ℕ) → b < 256 → eqb (valid_bits b) (code_of b) ≡ is_base b
unfolding open_text open_letters
valid_bits_lem b h = everywhere (λ x. eqb (valid_bits x) (code_of x)) (λ x. is_base x) 256 refl b h

-- So of a base, whose ten letters are tried here without a bound.
pub valid_code : (b : ℕ) → is_base b ≡ true → valid_bits b ≡ code_of b
unfolding open_text open_letters
valid_code b =
    choose (λ c. ltb c 4 ≡ true → valid_bits b ≡ c) (among b (bytes "Aa")) (λ e h. at_each valid_bits (λ x. 0) (bytes "Aa") refl b e)
    (λ _. choose (λ c. ltb c 4 ≡ true → valid_bits b ≡ c) (among b (bytes "Cc")) (λ e h. at_each valid_bits (λ x. 1) (bytes "Cc") refl b e)
    (λ _. choose (λ c. ltb c 4 ≡ true → valid_bits b ≡ c) (among b (bytes "Gg")) (λ e h. at_each valid_bits (λ x. 2) (bytes "Gg") refl b e)
    (λ _. choose (λ c. ltb c 4 ≡ true → valid_bits b ≡ c) (among b (bytes "TtUu"))
    (λ e h. at_each valid_bits (λ x. 3) (bytes "TtUu") refl b e) (λ _ h. absurd (false≢true h)))))

-- On every byte they are some base's.
pub valid_small : (b : ℕ) → valid_bits b < 4
unfolding valid_bits
valid_small b = omega arith

-- The bases are the ten letters ACGTUacgtu.
pub base_letters : (b : ℕ) → b < 256 → is_base b ≡ among b (bytes "ACGTUacgtu")
unfolding open_text open_letters
base_letters b h = everywhere (λ x. is_base x) (λ x. among x (bytes "ACGTUacgtu")) 256 refl b h

-- The bases stand from 64 to 127, at the set bits of a mask over each 32 bytes.
pub base_mask : (b : ℕ) → b < 256 → is_base b ≡ eqb (b / 64) 1 && eqb (bit_and (3145866 / 2 ^ bit_and b 31) 1) 1
unfolding open_text open_letters
base_mask b h = everywhere (λ x. is_base x) (λ x. eqb (x / 64) 1 && eqb (bit_and (3145866 / 2 ^ bit_and x 31) 1) 1) 256 refl b h

-- On N the two bits are 0.
pub valid_bits_N : valid_bits 78 ≡ 0
unfolding open_letters
valid_bits_N = refl
