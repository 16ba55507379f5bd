-- The w bits above s of a number that stands in two words, where they stand in one of the words. Assumes nothing.
use mathlib.Core.Path.{◌≡◌, sym, ap, ◌∙◌}
use mathlib.Core.Logic.{⊎_elim}
use Prim.Native.Nat.{ℕ, ◌+◌, ◌-◌, ◌/◌, ◌%◌, ◌^◌, ◌<◌, ◌≤◌}
use native.Mathlib.Omega.{arith}
use borrow.Author.Tests.{lt-ltb, le-ltb}
use lib.Bits.{bit_and, and_mask}
use lib.Pow.{shr-shr, field}
use Rattle.lemmas.proofs.Numbers.{lt_or_ge, mod_mod}
use Rattle.kmer.specs.Kmer.{joined}
use Rattle.kmer.specs.Bits.{bits_from}
use Rattle.kmer.proofs.Wide.{low_of, high_of}

module _ (w s lo hi : ℕ) (h : lo < 2 ^ 64) where
  in_low : w + s ≤ 64 → lo / 2 ^ s % 2 ^ w ≡ joined lo hi / 2 ^ s % 2 ^ w
  in_low l =
      let m : lo % 2 ^ (w + s) ≡ joined lo hi % 2 ^ (w + s) = rw (low_of lo hi h) at (mod_mod (joined lo hi) (w + s) 64 l) in
      sym (field lo w s) ∙ ap (λ (x : ℕ). x / 2 ^ s) m ∙ field (joined lo hi) w s

  in_high : 64 ≤ s → hi / 2 ^ (s - 64) ≡ joined lo hi / 2 ^ s
  in_high l =
      let e : 64 + (s - 64) ≡ s = omega arith in
      ap (λ (x : ℕ). x / 2 ^ (s - 64)) (sym (high_of lo hi h)) ∙ shr-shr (joined lo hi) 64 (s - 64)
      ∙ ap (λ (x : ℕ). joined lo hi / 2 ^ x) e

  pub field_of : (s < 64 → w + s ≤ 64) → bit_and (bits_from s lo hi) (2 ^ w - 1) ≡ joined lo hi / 2 ^ s % 2 ^ w
  field_of one =
      and_mask (bits_from s lo hi) w
      ∙ ⊎_elim (λ l. simp (lt-ltb s 64 l) (in_low (one l))) (λ l. simp (le-ltb s 64 l) (ap (λ (x : ℕ). x % 2 ^ w) (in_high l)))
      (lt_or_ge s 64)
