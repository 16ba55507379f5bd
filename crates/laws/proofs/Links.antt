-- Two k-mers of which the second follows the first: K + 1 bases, read on either strand; and the windows of a label as such.
-- Assumes nothing.
use mathlib.Core.Path.{◌≡◌, refl, sym, ap, ◌∙◌}
use mathlib.Core.List.{List, ◌∷◌}
use Prim.Native.Nat.{ℕ, zero, suc, ◌+◌, ◌-◌, ◌*◌, ◌/◌, ◌%◌, ◌^◌, ◌≤◌, ◌<◌}
use native.Mathlib.Nat.{mul_comm, mul_left_comm, pow-succ', div-one, div-div-eq-div-mul, mul-add-div, mod-lt, div-add-mod', div-lt_iff_lt-mul}
use native.Mathlib.Numerals.{add-one}
use native.Mathlib.Omega.{arith}
use lib.Arith.{digits_mod, digits_div}
use lib.Pow.{pow-add}
use lib.ListN.{length, replicate, take, drop, get_or, length-drop}
use lib.Seq.{take-suc, drop-cons, get_or-drop, length-take-le}
use Rattle.dna.specs.Letters.{code_of, letter_of}
use Rattle.kmer.specs.Kmer.{packed, rc, forward, letters}
use Rattle.kmer.proofs.Wide.{four_pos}
use Rattle.kmer.proofs.Turned.{rc_cat, rc_low, rc_lt}
use Rattle.kmer.proofs.Windows.{Bases, bases_at, packed_cons, packed_snoc}
use Rattle.graph.specs.Sightings.{window}
use Rattle.graph.proofs.Adding.{window_lt}

-- The k-mer x and base q behind it are base p and the k-mer y.
pub record Link (K x q p y : ℕ) : Type 0 where
  pub left : x < 4 ^ K
  pub right : y < 4 ^ K
  pub next : q < 4
  pub first : p < 4
  pub same : 4 * x + q ≡ p * 4 ^ K + y

-- The reverse complement of K + 1 bases, the last one taken off, and the first.
pub rc_last : (K x q : ℕ) → q < 4 → rc (suc K) (4 * x + q) ≡ (3 - q) * 4 ^ K + rc K x
unfolding rc
rc_last K x q h =
    let m : (4 * x + q) % 4 ≡ q = omega arith in
    let d : (4 * x + q) / 4 ≡ x = omega arith in
    rw (m, d)

pub rc_one : (p : ℕ) → p < 4 → rc 1 p ≡ 3 - p
unfolding rc
rc_one p h = omega arith

pub rc_front : (K p y : ℕ) → p < 4 → y < 4 ^ K → rc (suc K) (p * 4 ^ K + y) ≡ 4 * rc K y + (3 - p)
rc_front K p y h l =
    let e : p * 4 ^ K + y ≡ y + 4 ^ K * p = omega (arith, mul_comm p (4 ^ K)) in
    let one : rc 1 ((p * 4 ^ K + y) / 4 ^ K) ≡ 3 - p = ap (rc 1) (digits_div p l) ∙ rc_one p h in
    let low : rc K (p * 4 ^ K + y) ≡ rc K y = ap (rc K) e ∙ rc_low K y p in
    ap (λ (n : ℕ). rc n (p * 4 ^ K + y)) (sym (add-one K)) ∙ rc_cat K 1 (p * 4 ^ K + y) ∙ rw (one, low) (omega arith)

module _ {K x q p y : ℕ} (k : Link K x q p y) where
  -- The first is followed by the second.
  pub link_forward : forward K x q ≡ y
  unfolding forward
  link_forward = ap (λ (n : ℕ). n % 4 ^ K) k.same ∙ digits_mod p k.right

  pub link_turned : rc (suc K) (4 * x + q) ≡ 4 * rc K y + (3 - p)
  link_turned = ap (rc (suc K)) k.same ∙ rc_front K p y k.first k.right

  -- On the other strand the second is followed by the first.
  pub link_back : forward K (rc K y) (3 - p) ≡ rc K x
  unfolding forward
  link_back =
      ap (λ (n : ℕ). n % 4 ^ K) (sym link_turned ∙ rc_last K x q k.next) ∙ digits_mod (3 - q) (rc_lt K x)

-- A k-mer and what it is followed by with a base.
pub link_of : (K x q : ℕ) → x < 4 ^ K → q < 4 → Link K x q ((4 * x + q) / 4 ^ K) (forward K x q)
unfolding forward
link_of K x q h l =
    let n : 4 * x + q < 4 * 4 ^ K = omega arith in
    record {
      left = h;
      right = mod-lt (4 * x + q) (four_pos K);
      next = l;
      first = (div-lt_iff_lt-mul (four_pos K)).1 n;
      same = sym (div-add-mod' (4 * x + q) (4 ^ K));
    }

pub four_more : (q k : ℕ) → q * 4 ^ suc k ≡ 4 * (q * 4 ^ k)
four_more q k = ap (λ (m : ℕ). q * m) (pow-succ' 4 k) ∙ mul_left_comm q 4 (4 ^ k)

-- The base by which a k-mer is followed is the last one of what comes.
last_base : (K x b : ℕ) → 1 ≤ K → b < 4 → forward K x b % 4 ≡ b
unfolding forward
last_base zero x b one h = absurd (omega arith)
last_base (suc k) x b one h =
    let n = 4 * x + b in
    let q = n / 4 ^ suc k in
    let e : q * 4 ^ suc k + n % 4 ^ suc k ≡ n = div-add-mod' n (4 ^ suc k) in
    omega (arith, four_more q k)

pub forward_inj : (K x a b : ℕ) → 1 ≤ K → a < 4 → b < 4 → forward K x a ≡ forward K x b → a ≡ b
forward_inj K x a b one ha hb e = sym (last_base K x a one ha) ∙ ap (λ (n : ℕ). n % 4) e ∙ last_base K x b one hb

-- A k-mer that is followed by itself has one base at every place.
module _ (K x b : ℕ) (h : x < 4 ^ K) (l : b < 4) (loop : forward K x b ≡ x) where
  loop_digit : (j : ℕ) → j < K → x / 4 ^ j % 4 ≡ b
  loop_digit zero lt = ap (λ (n : ℕ). n % 4) (div-one x ∙ sym loop) ∙ last_base K x b lt l
  loop_digit (suc j) lt =
      let p = (4 * x + b) / 4 ^ K in
      let i = K - suc (suc j) in
      let k = link_of K x b h l in
      let split : suc j + suc i ≡ K = omega arith in
      let power : p * 4 ^ K ≡ 4 ^ suc j * (4 * (p * 4 ^ i)) =
      ap (λ (n : ℕ). p * 4 ^ n) (sym split) ∙ ap (λ (n : ℕ). p * n) (pow-add 4 (suc j) (suc i))
      ∙ mul_left_comm p (4 ^ suc j) (4 ^ suc i)
      ∙ ap (λ (n : ℕ). 4 ^ suc j * n) (four_more p i) in
      let four : (4 * x + b) / 4 ≡ x = omega arith in
      let left : (4 * x + b) / 4 ^ suc j ≡ x / 4 ^ j =
      ap (λ (n : ℕ). (4 * x + b) / n) (pow-succ' 4 j) ∙ sym (div-div-eq-div-mul (4 * x + b) 4 (4 ^ j)) ∙ ap (λ (n : ℕ). n / 4 ^ j) four in
      let right : (4 * x + b) / 4 ^ suc j ≡ 4 * (p * 4 ^ i) + x / 4 ^ suc j =
      ap (λ (n : ℕ). n / 4 ^ suc j) (k.same ∙ ap (λ (n : ℕ). p * 4 ^ K + n) loop ∙ ap (λ (n : ℕ). n + x) power)
      ∙ mul-add-div (four_pos (suc j)) (4 * (p * 4 ^ i)) x in
      omega (arith, loop_digit j (omega arith))

  loop_spelt : (k : ℕ) → k ≤ K → letters k x ≡ replicate k (letter_of b)
  unfolding letters
  loop_spelt zero le = refl
  loop_spelt (suc k) le = rw (loop_digit k le) (ap (λ (s : List ℕ). letter_of b ∷ s) (loop_spelt k (omega arith)))

  pub loop_letters : letters K x ≡ replicate K (letter_of b)
  loop_letters = loop_spelt K (omega arith)

-- A window with the base behind it.
pub window_long : (K : ℕ) (label : List ℕ) (i : ℕ) → i + K < length label
    → window (suc K) label i ≡ 4 * window K label i + code_of (get_or label (i + K) 0)
window_long K label i h =
    let d : K < length (drop i label) = simp length-drop (omega arith) in
    rw (take-suc (drop i label) K 0 d, get_or-drop i label K 0) (packed_snoc (take K (drop i label)) (get_or label (i + K) 0))

-- A window and the one after it.
pub window_link : (K : ℕ) (label : List ℕ) (i : ℕ) → Bases label → i + K < length label
    → Link K (window K label i) (code_of (get_or label (i + K) 0)) (code_of (get_or label i 0)) (window K label (suc i))
window_link K label i b h = record {
  left = window_lt K label i b (omega arith);
  right = window_lt K label (suc i) b (omega arith);
  next = bases_at label (i + K) h b;
  first = bases_at label i (omega arith) b;
  same =
      let n : length (take K (drop (suc i) label)) ≡ K = length-take-le K (drop (suc i) label) (simp length-drop (omega arith)) in
      let c = packed_cons (get_or label i 0) (take K (drop (suc i) label)) in
      let f : packed (take (suc K) (drop i label)) ≡ code_of (get_or label i 0) * 4 ^ K + window K label (suc i) =
      ap (λ (l : List ℕ). packed (take (suc K) l)) (drop-cons label i 0 (omega arith)) ∙ (rw n at c) in
      sym (window_long K label i h) ∙ f;
}
