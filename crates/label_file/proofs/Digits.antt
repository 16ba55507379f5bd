-- A number's digits put in front of a text, the last digit first. Assumes nothing.
use mathlib.Core.Path.{◌≡◌, refl, sym, ◌∙◌}
use mathlib.Core.List.{List, ◌∷◌}
use Prim.Native.Nat.{ℕ, zero, suc, ◌+◌, ◌-◌, ◌/◌, ◌%◌, ◌^◌, ◌≤◌, ◌<◌}
use native.Mathlib.Omega.{arith}
use borrow.Author.Tests.{lt-ltb, le-ltb}
use lib.ListN.{length, drop, set, length-set}
use lib.Seq.{drop-cons, drop-set-lt, get_or-set_same}
use Rattle.label_file.specs.Output.{decimal}
use Rattle.label_file.specs.Says.{Prefixes}

-- A cell stored in front of a text.
pub drop_set : (s : List ℕ) (i v : ℕ) → i < length s → drop i (set s i v) ≡ v ∷ drop (suc i) s
drop_set s i v h =
    let l : i < length (set s i v) = simp length-set h in
    drop-cons (set s i v) i 0 l ∙ rw (get_or-set_same s i v 0 h, drop-set-lt (suc i) s i v (omega arith))

module _ (m x : ℕ) (s : List ℕ) where
  pub decimal_last : x < 10 → decimal (suc m) x s ≡ (48 + x % 10) ∷ s
  unfolding decimal
  decimal_last h = rw (lt-ltb x 10 h)

  pub decimal_more : 10 ≤ x → decimal (suc m) x s ≡ decimal m (x / 10) ((48 + x % 10) ∷ s)
  unfolding decimal
  decimal_more h = rw (le-ltb x 10 h)

-- Place i has the last digit of x, and x in front of what stands behind that place is the number in front of the text.
-- At most `more` digits are to come.
pub record Digits (number : ℕ) (out₀ : List ℕ) (at : ℕ) (out : List ℕ) (x i : ℕ) : Type 0 where
  pub more : ℕ
  pub places : at + more ≡ i + 20
  pub start : 20 ≤ at
  pub low : i < at
  pub room : at ≤ length out₀
  pub long : length out ≡ length out₀
  pub small : x < 10 ^ suc more
  pub digit : drop i out ≡ (48 + x % 10) ∷ drop (suc i) out
  pub text : decimal 20 number (drop at out₀) ≡ decimal (suc more) x (drop (suc i) out)

-- The last digit of all, stored in the slice `s`.
pub digits_one : (number : ℕ) (s : List ℕ) (at : ℕ) → number < 2 ^ 64 → 20 ≤ at → at ≤ length s
    → (let out = set s (at - 1) (48 + number % 10) in Digits number out at out number (at - 1))
digits_one number s at h l r =
    let v = 48 + number % 10 in
    let e : suc (at - 1) ≡ at = omega arith in
    record {
      more = 19;
      places = omega arith;
      start = l;
      low = omega arith;
      room = simp length-set r;
      long = refl;
      small = omega arith;
      digit = drop_set s (at - 1) v (omega arith) ∙ rw (drop-set-lt (suc (at - 1)) s (at - 1) v (omega arith));
      text = rw e;
    }

module _ {number : ℕ} {out₀ : List ℕ} {at : ℕ} {out : List ℕ} {x i : ℕ} (d : Digits number out₀ at out x i) where
  -- A number of two digits has room for one more.
  pub digits_left : 10 ≤ x → 1 ≤ i
  digits_left h = go d.more d.places d.small
    where
      go : (more : ℕ) → at + more ≡ i + 20 → x < 10 ^ suc more → 1 ≤ i
      go zero e s = absurd (omega arith)
      go (suc more) e s = omega (arith, d.start)

  pub digits_next : 10 ≤ x → Digits number out₀ at (set out (i - 1) (48 + x / 10 % 10)) (x / 10) (i - 1)
  digits_next h = go d.more d.places d.small d.text
    where
      go : (more : ℕ) → at + more ≡ i + 20 → x < 10 ^ suc more
          → decimal 20 number (drop at out₀) ≡ decimal (suc more) x (drop (suc i) out)
          → Digits number out₀ at (set out (i - 1) (48 + x / 10 % 10)) (x / 10) (i - 1)
      go zero p s t = absurd (omega arith)
      go (suc more) p s t =
          let v = 48 + x / 10 % 10 in
          let out' = set out (i - 1) v in
          let b : 1 ≤ i = digits_left h in
          let e : suc (i - 1) ≡ i = omega arith in
          let kept : drop (suc (i - 1)) out'
          ≡ drop (suc (i - 1)) out = drop-set-lt (suc (i - 1)) out (i - 1) v (omega arith) in
          record {
            more = more;
            places = omega arith;
            start = d.start;
            low = omega (arith, d.low);
            room = d.room;
            long = length-set out (i - 1) v ∙ d.long;
            small = omega arith;
            digit = drop_set out (i - 1) v (omega (arith, d.low, d.room, d.long)) ∙ rw kept;
            text = t ∙ decimal_more (suc more) x (drop (suc i) out) h ∙ rw (kept, e, d.digit);
          }

  -- `s` is the slice before its last digit was stored.
  pub digits_all : x < 10 → (s : List ℕ) (v : ℕ) → out₀ ≡ set s (at - 1) v → Prefixes number s at i out
  digits_all h s v e =
      let behind : drop at out₀ ≡ drop at s = rw e (drop-set-lt at s (at - 1) v (omega (arith, d.start))) in
      record {
        text = d.digit ∙ sym (rw behind at d.text ∙ decimal_last d.more x (drop (suc i) out) h);
        lower = omega (arith, d.low);
        most = omega (arith, d.places);
      }
