-- A text turned in its own cells, its ends first. Assumes nothing.
use mathlib.Core.Path.{◌≡◌, refl, sym, ap, ◌∙◌}
use mathlib.Core.List.{List}
use Prim.Native.Nat.{ℕ, ◌+◌, ◌-◌, ◌/◌, ◌≤◌, ◌<◌}
use native.Mathlib.Nat.{not-suc-le-zero}
use native.Mathlib.Decide.{ℕ_discrete}
use native.Mathlib.Omega.{arith}
use lib.ListN.{length, get_or, set, length-set}
use lib.Seq.{ext_get_or, get_or-set_same, get_or-set_other}
use Rattle.dna.specs.Letters.{complement_letter, reverse_complement}
use Rattle.dna.proofs.Reversal.{length_reverse_complement, reverse_complement_at}

-- The byte that the other strand has at place k.
abbrev pub opposite : List ℕ → ℕ → ℕ
opposite s k = complement_letter (get_or s (length s - 1 - k) 0)

-- The first i and the last i places are turned, those between are as they were.
pub record Turned (s₀ s : List ℕ) (i : ℕ) : Type 0 where
  pub long : length s ≡ length s₀
  pub ends : (k : ℕ) → k < length s₀ → (k + i < length s₀ → k < i) → get_or s k 0 ≡ opposite s₀ k
  pub between : (k : ℕ) → i ≤ k → k + i < length s₀ → get_or s k 0 ≡ get_or s₀ k 0

pub turned_none : (s : List ℕ) → Turned s s 0
turned_none s = record {
  long = refl;
  ends = λ k h f. absurd (not-suc-le-zero (f (omega arith)));
  between = λ k _ _. refl;
}

module _ {s₀ s : List ℕ} {i : ℕ} (t : Turned s₀ s i) where
  -- One place more at either end, or the middle.
  pub turned_more : (j x y : ℕ) → i ≤ j → i + j + 1 ≡ length s₀ → x ≡ complement_letter (get_or s i 0)
      → y ≡ complement_letter (get_or s j 0)
      → Turned s₀ (set (set s i y) j x) (i + 1)
  turned_more j x y h n ex ey = record {
    long = simp length-set t.long;
    ends = λ k l f. ends k l f (ℕ_discrete k j) (ℕ_discrete k i);
    between = λ k a b. other k (λ e. omega arith) (λ e. omega arith) ∙ t.between k (omega arith) (omega arith);
  }
    where
      other : (k : ℕ) → (k ≡ j → ⊥) → (k ≡ i → ⊥) → get_or (set (set s i y) j x) k 0 ≡ get_or s k 0
      other k a b = get_or-set_other (set s i y) j k x 0 a ∙ get_or-set_other s i k y 0 b

      ends : (k : ℕ) → k < length s₀ → (k + (i + 1) < length s₀ → k < i + 1) → Dec (k ≡ j) → Dec (k ≡ i)
          → get_or (set (set s i y) j x) k 0 ≡ opposite s₀ k
      ends k l f (yes e) d =
          let m : length s₀ - 1 - k ≡ i = omega arith in
          rw (m, e) (get_or-set_same (set s i y) j x 0 (simp length-set (omega (arith, t.long))) ∙ ex
          ∙ ap complement_letter (t.between i (omega arith) (omega arith)))
      ends k l f (no e) (yes d) =
          let m : length s₀ - 1 - k ≡ j = omega arith in
          get_or-set_other (set s i y) j k x 0 e
          ∙ rw (m, d) (get_or-set_same s i y 0 (omega (arith, t.long)) ∙ ey
          ∙ ap complement_letter (t.between j h (omega arith)))
      ends k l f (no e) (no d) =
          let u : k + i < length s₀ → k < i = λ v. let w : k < i + 1 = f (omega arith) in omega arith in
          other k e d ∙ t.ends k l u

  -- The ends have met.
  pub turned_all : length s₀ - length s₀ / 2 ≤ i → s ≡ reverse_complement s₀
  turned_all h =
      ext_get_or 0 s (reverse_complement s₀) (t.long ∙ sym (length_reverse_complement s₀))
      (λ k l. let m : k < length s₀ = omega (arith, t.long) in t.ends k m (λ u. omega arith)
      ∙ sym (reverse_complement_at s₀ k m))
