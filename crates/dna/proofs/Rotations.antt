-- Rotations of a text place by place, and what the least start is. Assumes nothing.
use mathlib.Core.Path.{◌≡◌, refl, ◌∙◌}
use mathlib.Core.Bool.{Bool, true, false, cond}
use mathlib.Core.List.{List, ◌++◌}
use Prim.Native.Nat.{ℕ, zero, suc, ◌+◌, ◌-◌, ◌≤◌, ◌<◌, ◌%◌}
use native.Mathlib.Nat.{not-suc-le-zero, mod-eq_of_lt, mod-eq-sub-mod, add-mod_right}
use native.Mathlib.Decide.{dec_lt, ℕ_discrete}
use native.Mathlib.Omega.{arith}
use lib.ListN.{length, get_or, take, drop, length-append, length-take, length-drop, get_or-append}
use lib.Seq.{get_or-append-add, get_or-drop, get_or-take}
use Rattle.dna.specs.Order.{before, rotation, least_to, least_start}
use Rattle.dna.proofs.Order.{before_irrefl, before_asym, before_le}

-- The byte at a place, counted round and round.
abbrev pub at : List ℕ → ℕ → ℕ
at s x = get_or s (x % length s) 0

pub at_round : (s : List ℕ) (x : ℕ) → at s (x + length s) ≡ at s x
at_round s x = rw (add-mod_right x (length s))

pub rotation_length : (s : List ℕ) (p : ℕ) → p ≤ length s → length (rotation s p) ≡ length s
rotation_length s p h = omega (arith, length-append (drop p s) (take p s), length-drop p s, length-take p s)

pub rotation_at : (s : List ℕ) (p t : ℕ) → p < length s → t < length s → get_or (rotation s p) t 0 ≡ at s (p + t)
rotation_at s p t hp ht = go (dec_lt (p + t) (length s))
  where
    go : Dec (p + t < length s) → get_or (drop p s ++ take p s) t 0 ≡ get_or s ((p + t) % length s) 0
    go (yes l) = get_or-append (drop p s) (take p s) 0 t (omega (arith, length-drop p s)) ∙ get_or-drop p s t 0 ∙ rw (mod-eq_of_lt l)
    go (no l) =
        let u : length s ≤ p + t = omega arith in
        let e : length (drop p s) + (p + t - length s) ≡ t = omega (arith, length-drop p s) in
        let v : p + t - length s < length s = omega arith in
        let g : get_or (drop p s ++ take p s) (length (drop p s) + (p + t - length s)) 0 ≡ get_or (take p s) (p + t - length s) 0 = get_or-append-add (drop p s) (take p s) (p + t - length s) 0 in
        (rw e at g) ∙ get_or-take p s (p + t - length s) 0 (omega arith) ∙ rw (mod-eq-sub-mod u, mod-eq_of_lt v)

-- Of the starts 0 to n, l is the smallest whose rotation is least.
pub record Least (s : List ℕ) (n l : ℕ) : Type 0 where
  pub within : l ≤ n
  pub least : (q : ℕ) → q ≤ n → before (rotation s q) (rotation s l) ≡ false
  pub first : (q : ℕ) → q < l → before (rotation s l) (rotation s q) ≡ true

pub least_to_lem : (s : List ℕ) (n : ℕ) → Least s n (least_to s n)
unfolding least_to
least_to_lem s zero = record {
  within = omega arith;
  least = λ q h. let e : q ≡ 0 = omega arith in rw e (before_irrefl (rotation s 0));
  first = λ q h. absurd (not-suc-le-zero h);
}
least_to_lem s (suc n) = go (least_to_lem s n) (before (rotation s (suc n)) (rotation s (least_to s n))) refl
  where
    go : Least s n (least_to s n) → (b : Bool) → before (rotation s (suc n)) (rotation s (least_to s n)) ≡ b → Least s (suc n) (cond b (suc n) (least_to s n))
    go ih true e =
        let f : (q : ℕ) → q < suc n → before (rotation s (suc n)) (rotation s q) ≡ true
        = λ q h. before_le (rotation s (suc n)) (rotation s (least_to s n)) (rotation s q) e (ih.least q (omega arith)) in
        record { within = omega arith; least = λ q h. last f q (ℕ_discrete q (suc n)) h; first = f }
      where
        last : ((q : ℕ) → q < suc n → before (rotation s (suc n)) (rotation s q) ≡ true) → (q : ℕ) → Dec (q ≡ suc n) → q ≤ suc n → before (rotation s q) (rotation s (suc n)) ≡ false
        last f q (yes u) h = rw u (before_irrefl (rotation s (suc n)))
        last f q (no u) h = before_asym (rotation s (suc n)) (rotation s q) (f q (omega arith))
    go ih false e = record { within = omega (arith, ih.within); least = λ q h. last q (ℕ_discrete q (suc n)) h; first = ih.first }
      where
        last : (q : ℕ) → Dec (q ≡ suc n) → q ≤ suc n → before (rotation s q) (rotation s (least_to s n)) ≡ false
        last q (yes u) h = rw u e
        last q (no u) h = ih.least q (omega arith)

pub least_within : (s : List ℕ) → least_start s ≤ length s
least_within s = omega (arith, (least_to_lem s (length s - 1)).within)

-- It is 0 for lengths 0 and 1.
pub short : (s : List ℕ) → length s ≤ 1 → 0 ≡ least_start s
short s h = omega (arith, (least_to_lem s (length s - 1)).within)
