-- Two starts whose comparison, byte by byte, finds the least: how each turn of the loop keeps what is known of them.
-- Assumes nothing.
use mathlib.Core.Path.{◌≡◌, sym, ap, ◌∙◌}
use mathlib.Core.Logic.{◌⊎◌, inl, inr}
use mathlib.Core.Bool.{true, false}
use mathlib.Core.List.{List}
use Prim.Native.Nat.{ℕ, ◌+◌, ◌-◌, ◌≤◌, ◌<◌, ◌%◌, min, max}
use native.Mathlib.Nat.{not-suc-le-zero, mod-lt, mod-eq_of_lt, mod-mod, mod-add-mod}
use native.Mathlib.Decide.{dec_lt}
use native.Mathlib.Omega.{arith}
use lib.ListN.{length, get_or}
use lib.Seq.{ext_get_or}
use Rattle.lemmas.proofs.Tests.{never}
use Rattle.dna.specs.Order.{before, rotation, least_start}
use Rattle.dna.proofs.Order.{before_irrefl, before_at}
use Rattle.dna.proofs.Rotations.{at, at_round, rotation_length, rotation_at, Least, least_to_lem}

-- Two rotations are alike for m bytes, and the first is smaller there.
less_at : (s : List ℕ) (p q m : ℕ) → 0 < length s → m < length s → ((u : ℕ) → u < m → at s (p + u) ≡ at s (q + u)) → at s (p + m) < at s (q + m)
    → before (rotation s (p % length s)) (rotation s (q % length s)) ≡ true
less_at s p q m long hm f h =
    let hp : p % length s < length s = mod-lt p long in
    let hq : q % length s < length s = mod-lt q long in
    let gp : (u : ℕ) → u < length s → get_or (rotation s (p % length s)) u 0 ≡ at s (p + u) = λ u l. rotation_at s (p % length s) u hp l ∙ rw (mod-add-mod p (length s) u) in
    let gq : (u : ℕ) → u < length s → get_or (rotation s (q % length s)) u 0 ≡ at s (q + u) = λ u l. rotation_at s (q % length s) u hq l ∙ rw (mod-add-mod q (length s) u) in
    before_at (rotation s (p % length s)) (rotation s (q % length s)) m
    (omega (arith, rotation_length s (p % length s) (omega arith)))
    (omega (arith, rotation_length s (q % length s) (omega arith)))
    (λ u l. gp u (omega arith) ∙ f u l ∙ sym (gq u (omega arith)))
    (rw (gp m hm, gq m hm) h)

-- A text that reads alike from two places d apart, all the way round, reads so from every place.
round : (s : List ℕ) (i d : ℕ) → i ≤ length s → ((t : ℕ) → t < length s → at s (i + t) ≡ at s (i + d + t)) → (x : ℕ) → x < length s → at s x ≡ at s (x + d)
round s i d hi f x hx = go (dec_lt x i)
  where
    go : Dec (x < i) → at s x ≡ at s (x + d)
    go (yes l) =
        let a : x + length s ≡ i + (x + length s - i) = omega arith in
        let b : i + d + (x + length s - i) ≡ x + d + length s = omega arith in
        sym (at_round s x) ∙ ap (at s) a ∙ f (x + length s - i) (omega arith) ∙ ap (at s) b ∙ at_round s (x + d)
    go (no l) =
        let a : x ≡ i + (x - i) = omega arith in
        let b : i + d + (x - i) ≡ x + d = omega arith in
        ap (at s) a ∙ f (x - i) (omega arith) ∙ ap (at s) b

module _ (s : List ℕ) (l : ℕ) (w : Least s (length s - 1) l) (long : 0 < length s) where
  -- From j on the text is smaller than from i on, after k bytes that are alike: none of the k + 1 starts from i on is
  -- least.
  pub beaten : (i j k : ℕ) → k < length s → ((t : ℕ) → t < k → at s (i + t) ≡ at s (j + t)) → at s (j + k) < at s (i + k) → (t : ℕ) → t ≤ k → i + t ≡ l → ⊥
  beaten i j k hk f h t tk e =
      let hl : i + t < length s = omega (arith, w.within) in
      let x : (y u : ℕ) → y + t + u ≡ y + (t + u) = λ y u. omega arith in
      let m : t + (k - t) ≡ k = omega arith in
      let b : before (rotation s ((j + t) % length s)) (rotation s ((i + t) % length s)) ≡ true
      = less_at s (j + t) (i + t) (k - t) long (omega arith) (λ u v. rw (x j u, x i u) (sym (f (t + u) (omega arith)))) (rw (x j (k - t), x i (k - t), m) h) in
      let hq : (j + t) % length s < length s = mod-lt (j + t) long in
      let z : before (rotation s ((j + t) % length s)) (rotation s ((i + t) % length s)) ≡ false
      = rw (mod-eq_of_lt hl, e) (w.least ((j + t) % length s) (omega arith)) in
      never (before (rotation s ((j + t) % length s)) (rotation s ((i + t) % length s))) b z

  -- Two places whose rotations are alike: the smallest start is before the second.
  pub alike : (i d : ℕ) → 0 < d → i + d < length s → ((t : ℕ) → t < length s → at s (i + t) ≡ at s (i + d + t)) → i + d ≤ l → ⊥
  alike i d hd hi f hl =
      let lw : l < length s = omega (arith, w.within) in
      let r : (t : ℕ) → t < length s → get_or (rotation s (l - d)) t 0 ≡ get_or (rotation s l) t 0
      = λ t h. rotation_at s (l - d) t (omega arith) h ∙ every (l - d + t) ∙ (let e : l - d + t + d ≡ l + t = omega arith in rw e) ∙ sym (rotation_at s l t lw h) in
      let z : rotation s (l - d) ≡ rotation s l
      = ext_get_or 0 (rotation s (l - d)) (rotation s l) (rotation_length s (l - d) (omega arith) ∙ sym (rotation_length s l (omega arith)))
      (λ t h. r t (omega (arith, rotation_length s (l - d) (omega arith)))) in
      never (before (rotation s l) (rotation s (l - d))) (w.first (l - d) (omega arith)) (rw z (before_irrefl (rotation s l)))
    where
      every : (x : ℕ) → at s x ≡ at s (x + d)
      every x =
          let h : x % length s < length s = mod-lt x long in
          let a : at s x ≡ at s (x % length s) = rw (mod-mod x (length s)) in
          let b : at s (x % length s + d) ≡ at s (x + d) = rw (mod-add-mod x (length s) d) in
          a ∙ round s i d (omega arith) f (x % length s) h ∙ b

-- Two starts i and j, and k bytes from both that are alike: the least start is before i only where it is j, and before
-- j only where it is i.
pub record Chase (s : List ℕ) (i j k : ℕ) : Type 0 where
  pub apart : i ≡ j → ⊥
  pub front : least_start s < i → least_start s ≡ j
  pub back : least_start s < j → least_start s ≡ i
  pub same : (t : ℕ) → t < k → at s (i + t) ≡ at s (j + t)

-- The two starts play the same part.
pub chase_turn : {s : List ℕ} {i j k : ℕ} → Chase s i j k → Chase s j i k
chase_turn c = record { apart = λ e. c.apart (sym e); front = c.back; back = c.front; same = λ t h. sym (c.same t h) }

-- From i on the text is the larger: i moves past what was compared, and past j.
pub chase_skip : (s : List ℕ) (i j k : ℕ) → Chase s i j k → 1 < length s → k < length s → at s (j + k) < at s (i + k)
    → Chase s (max (i + k + 1) (j + 1)) j 0
chase_skip s i j k c long hk h =
    record { apart = λ e. omega arith; front = front; back = λ v. absurd (gone v); same = λ t v. absurd (not-suc-le-zero v) }
  where
    lost : (t : ℕ) → t ≤ k → i + t ≡ least_start s → ⊥
    lost = beaten s (least_start s) (least_to_lem s (length s - 1)) (omega arith) i j k hk c.same h

    gone : least_start s < j → ⊥
    gone v = lost 0 (omega arith) (omega (arith, c.back v))

    past : least_start s ≤ i + k → least_start s ≡ j
    past v = go (dec_lt (least_start s) i)
      where
        go : Dec (least_start s < i) → least_start s ≡ j
        go (yes u) = c.front u
        go (no u) = absurd (lost (least_start s - i) (omega arith) (omega arith))

    front : least_start s < max (i + k + 1) (j + 1) → least_start s ≡ j
    front v = go (dec_lt (least_start s) j) (dec_lt (least_start s) (i + k + 1))
      where
        go : Dec (least_start s < j) → Dec (least_start s < i + k + 1) → least_start s ≡ j
        go (yes u) d = absurd (gone u)
        go (no u) (yes w) = past (omega arith)
        go (no u) (no w) = omega arith

-- A start past the end leaves the other.
pub chase_out : (s : List ℕ) (i j k : ℕ) → Chase s i j k → 1 < length s → length s ≤ i → (j < i) × (j ≡ least_start s)
chase_out s i j k c long h =
    let u : least_start s < length s = omega (arith, (least_to_lem s (length s - 1)).within) in
    let e = c.front (omega arith) in
    (omega arith, sym e)

-- Where all bytes are alike, both rotations are least.
pub chase_all : (s : List ℕ) (i j k : ℕ) → Chase s i j k → 1 < length s → i < j → j < length s → length s ≤ k → i ≡ least_start s
chase_all s i j k c long ij hj hk = go (dec_lt (least_start s) j)
  where
    go : Dec (least_start s < j) → i ≡ least_start s
    go (yes u) = sym (c.back u)
    go (no u) =
        let e : i + (j - i) ≡ j = omega arith in
        absurd (alike s (least_start s) (least_to_lem s (length s - 1)) (omega arith) i (j - i) (omega arith) (omega arith)
        (λ t h. rw e (c.same t (omega arith))) (omega arith))

-- Where a start is past the end, or all bytes are alike, the smaller start is least.
chase_ends : (s : List ℕ) (i j k : ℕ) → Chase s i j k → 1 < length s → i < j → (length s ≤ j) ⊎ (length s ≤ k)
    → i ≡ least_start s
chase_ends s i j k c long ij (inl h) = (chase_out s j i k (chase_turn c) long h).1
chase_ends s i j k c long ij (inr h) = go (dec_lt j (length s))
  where
    go : Dec (j < length s) → i ≡ least_start s
    go (yes u) = chase_all s i j k c long ij u h
    go (no u) = (chase_out s j i k (chase_turn c) long (omega arith)).1

-- At the loop's end the smaller start is the answer.
pub chase_min : (s : List ℕ) (i j k : ℕ) → Chase s i j k → 1 < length s → (length s ≤ max i j) ⊎ (length s ≤ k)
    → min i j ≡ least_start s
chase_min s i j k c long h = go (dec_lt i j)
  where
    past : (m : ℕ) → max i j ≡ m → (length s ≤ m) ⊎ (length s ≤ k)
    past m e = rw e at h

    go : Dec (i < j) → min i j ≡ least_start s
    go (yes u) = omega (arith, chase_ends s i j k c long u (past j (omega arith)))
    go (no u) = omega (arith, chase_ends s j i k (chase_turn c) long (omega (arith, c.apart)) (past i (omega arith)))
