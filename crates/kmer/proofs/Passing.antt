-- The quick test of a word's bytes: its bit at each byte is set only where that byte is a base. Assumes nothing.
use mathlib.Core.Path.{◌≡◌, refl, sym, ap, ap₂, ◌∙◌, subst}
use mathlib.Core.Bool.{true}
use mathlib.Core.List.{[], ◌∷◌}
use Prim.Native.Nat.{ℕ, zero, suc, ◌+◌, ◌-◌, ◌*◌, ◌/◌, ◌%◌, ◌^◌, ◌<◌, ◌≤◌}
use native.Mathlib.Omega.{arith}
use borrow.Author.Tests.{ltb-true, eq-eqb}
use lib.Bits.{bit_and, bit_or, bit_xor, and_shr, and_mod, and_le_l, and_le_r, or_shr, or_mod}
use lib.Bits.{xor_shr, xor_mod, xor_add_and}
use lib.Dec.{eqb}
use lib.Pow.{shr-shr, field}
use Rattle.lemmas.proofs.Numbers.{mod_mod}
use Rattle.lemmas.proofs.Tables.{everywhere}
use Rattle.dna.specs.Text.{open_text}
use Rattle.dna.specs.Letters.{code_of, is_base, first_bad, open_letters}
use Rattle.kmer.specs.Packing.{bytes_in}
use Rattle.kmer.proofs.Windows.{Bases, bases_append}
use Rattle.kmer.proofs.Testing.{no_bad}
use Rattle.kmer.proofs.Fields.{lows, low_field, shift_swap}

-- ---- what reads a word's bits alike at each byte

-- A word moved down a byte gives what it gave there, and bit 0 depends on the lowest byte alone.
record Bytewise (f : ℕ → ℕ) : Type 0 where
  above : (x : ℕ) → f x / 2 ^ 8 ≡ f (x / 2 ^ 8)
  lowest : (x : ℕ) → f x % 2 ^ 1 ≡ f (x % 2 ^ 8) % 2 ^ 1

-- A bit of a byte.
bit : (j : ℕ) → j ≤ 7 → Bytewise (λ x. x / 2 ^ j)
bit j h = record {
  above = λ x. shift_swap x j 8;
  lowest = λ x.
      let e : 8 - j + j ≡ 8 = omega arith in
      sym (mod_mod (x / 2 ^ j) 1 (8 - j) (omega arith))
      ∙ ap (λ (n : ℕ). n % 2 ^ 1) (sym (field x (8 - j) j) ∙ ap (λ (n : ℕ). x % 2 ^ n / 2 ^ j) e);
}

whole : Bytewise (λ x. x)
whole = record { above = λ x. refl; lowest = λ x. omega arith }

-- An operation on bits.
module _ (op : ℕ → ℕ → ℕ) (op_shr : (a b k : ℕ) → op a b / 2 ^ k ≡ op (a / 2 ^ k) (b / 2 ^ k))
    (op-mod : (a b k : ℕ) → op a b % 2 ^ k ≡ op (a % 2 ^ k) (b % 2 ^ k)) where
  with_op : {f g : ℕ → ℕ} → Bytewise f → Bytewise g → Bytewise (λ x. op (f x) (g x))
  with_op {f} {g} p q = record {
    above = λ x. op_shr (f x) (g x) 8 ∙ ap₂ op (p.above x) (q.above x);
    lowest = λ x.
        op-mod (f x) (g x) 1 ∙ ap₂ op (p.lowest x) (q.lowest x) ∙ sym (op-mod (f (x % 2 ^ 8)) (g (x % 2 ^ 8)) 1);
  }

with_and : {f g : ℕ → ℕ} → Bytewise f → Bytewise g → Bytewise (λ x. bit_and (f x) (g x))
with_and = with_op bit_and and_shr and_mod

with_or : {f g : ℕ → ℕ} → Bytewise f → Bytewise g → Bytewise (λ x. bit_or (f x) (g x))
with_or = with_op bit_or or_shr or_mod

with_xor : {f g : ℕ → ℕ} → Bytewise f → Bytewise g → Bytewise (λ x. bit_xor (f x) (g x))
with_xor = with_op bit_xor xor_shr xor_mod

-- ---- the test

-- As in the code.
abbrev pub thymine : ℕ → ℕ
thymine x = bit_xor (x / 2 ^ 2) (bit_and (x / 2 ^ 2) (x / 2 ^ 1))

abbrev pub either : ℕ → ℕ
either x = bit_or (x / 2 ^ 4) x

abbrev pub set : ℕ → ℕ
set x = bit_and (x / 2 ^ 6) (either x)

abbrev pub wrong : ℕ → ℕ
wrong x = bit_or (either x / 2 ^ 3) (bit_xor (x / 2 ^ 4) (thymine x))

abbrev pub good : ℕ → ℕ
good x = bit_xor (set x) (bit_and (set x) (wrong x))

set_bytewise : Bytewise set
set_bytewise = with_and (bit 6 (omega arith)) (with_or (bit 4 (omega arith)) whole)

wrong_bytewise : Bytewise wrong
wrong_bytewise =
    let e : (x : ℕ) → bit_or (x / 2 ^ 7) (x / 2 ^ 3) ≡ either x / 2 ^ 3 =
    λ x. sym (or_shr (x / 2 ^ 4) x 3 ∙ ap (λ (n : ℕ). bit_or n (x / 2 ^ 3)) (shr-shr x 4 3)) in
    subst Bytewise (λ i x. bit_or (e x i) (bit_xor (x / 2 ^ 4) (thymine x)))
    (with_or (with_or (bit 7 (omega arith)) (bit 3 (omega arith)))
    (with_xor (bit 4 (omega arith))
    (with_xor (bit 2 (omega arith)) (with_and (bit 2 (omega arith)) (bit 1 (omega arith))))))

good_bytewise : Bytewise good
good_bytewise = with_xor set_bytewise (with_and set_bytewise wrong_bytewise)

-- All 256 bytes are tried.
good_byte : (b : ℕ) → b < 256 → eqb (good b % 2) 1 ≡ is_base b
unfolding open_text open_letters
good_byte b h = everywhere (λ x. eqb (good x % 2) 1) (λ x. is_base x) 256 refl b h

-- The bit of each of m bytes is set.
passes : (m x : ℕ) → bit_and (good x) (lows 1 8 m) ≡ lows 1 8 m → Bases (bytes_in m x)
unfolding lows bytes_in
passes zero x h = tt
passes (suc m) x h =
    let g : ℕ = good x in
    let e : bit_and (g / 2 ^ 8) (lows 1 8 m) * 2 ^ 8 + g % 2 ≡ lows 1 8 m * 2 ^ 8 + 1 =
    sym (low_field 1 8 (good x) (lows 1 8 m) (omega arith)) ∙ h in
    let above : bit_and (g / 2 ^ 8) (lows 1 8 m) ≡ lows 1 8 m = omega arith in
    let here : g % 2 ≡ 1 = omega arith in
    let base : is_base (x % 256) ≡ true =
    sym (good_byte (x % 256) (omega arith)) ∙ eq-eqb (good (x % 256) % 2) 1 (sym (good_bytewise.lowest x) ∙ here) in
    bases_append (bytes_in m (x / 256)) (x % 256 ∷ [])
    (passes m (x / 256) (ap (λ (n : ℕ). bit_and n (lows 1 8 m)) (sym (good_bytewise.above x)) ∙ above))
    (ltb-true (code_of (x % 256)) 4 base, tt)

xor_zero : (a b : ℕ) → bit_xor a b ≡ 0 → a ≡ b
xor_zero a b h = omega (arith, xor_add_and a b, and_le_l a b, and_le_r a b)

abbrev mask : ℕ
mask = 0x0101_0101_0101_0101

-- Nothing is left of the mask only where every byte is a base.
pub passed : (x : ℕ) → bit_xor (bit_and (good x) mask) mask ≡ 0 → first_bad 0 (bytes_in 8 x) ≡ []
unfolding lows
passed x h = no_bad 0 (bytes_in 8 x) (passes 8 x (xor_zero (bit_and (good x) mask) mask h))
