-- Letters and packing undo each other; the order of numbers is the byte order of their letters; the letters of the
-- reverse complement are the reverse complement of the letters. Assumes nothing.
use mathlib.Core.Path.{◌≡◌, refl, sym, ap, ap₂, ◌∙◌}
use mathlib.Core.Bool.{true, false}
use mathlib.Core.Logic.{⊎_elim}
use mathlib.Core.List.{List, [], ◌∷◌, map}
use Prim.Native.Nat.{ℕ, zero, suc, ◌+◌, ◌-◌, ◌*◌, ◌/◌, ◌%◌, ◌^◌, ◌≤◌, ◌<◌}
use native.Mathlib.Nat.{mod-lt, mod-eq_of_lt, mul-le-mul_right, suc-mul, le_of_lt}
use native.Mathlib.Omega.{arith}
use lib.Arith.{digits_div, digits_mod}
use lib.Pow.{mod-pow-add}
use lib.Dec.{ltb}
use lib.ListN.{length, get_or, take}
use lib.Seq.{take-length, ext_get_or}
use borrow.Author.Tests.{lt-ltb, le-ltb, eq-eqb, ne_eqb}
use Rattle.lemmas.proofs.Numbers.{lt_or_ge, same_test}
use Rattle.dna.specs.Answer.{gives}
use Rattle.dna.specs.Letters.{code_of, letter_of, complement, complement_letter, reverse_complement}
use Rattle.dna.specs.Order.{before}
use Rattle.dna.proofs.Letters.{code_letter}
use Rattle.dna.proofs.Reversal.{length_reverse_complement, reverse_complement_at}
use Rattle.kmer.specs.Kmer.{ok_k, packed, onto, rc, letters}
use Rattle.kmer.specs.Calls.{with_letters, pack_bases, pack_call}
use Rattle.kmer.proofs.Wide.{four, four_pos}
use Rattle.kmer.proofs.Spelling.{length_letters, letter_at}
use Rattle.kmer.proofs.Turned.{rc_short}
use Rattle.kmer.proofs.Strands.{rc_first}
use Rattle.kmer.proofs.Windows.{Bases, packed_cons, packed_lt}
use Rattle.kmer.proofs.Testing.{no_bad}

-- ---- one letter

letter_step : (c : ℕ) → c < 3 → letter_of c < letter_of (suc c)
unfolding letter_of
letter_step zero h = omega arith
letter_step (suc zero) h = omega arith
letter_step (suc (suc zero)) h = omega arith
letter_step (suc (suc (suc c))) h = absurd (omega arith)

-- A greater code has the greater letter.
letter_up : (c d : ℕ) → c < d → d < 4 → letter_of c < letter_of d
letter_up c zero h l = absurd (omega arith)
letter_up c (suc d) h l =
    let s = letter_step d (omega arith) in
    ⊎_elim (λ u. let v = letter_up c d u (omega arith) in omega arith)
    (λ u. let e : c ≡ d = omega arith in rw e s) (lt_or_ge c d)

-- ---- a number's first base, and the rest

split_mod : (k x : ℕ) → x % 4 ^ suc k ≡ x / 4 ^ k % 4 * 4 ^ k + x % 4 ^ k
split_mod k x =
    let e : 4 ^ suc k ≡ 2 ^ (2 + 2 * k) = four (suc k) ∙ ap (λ (n : ℕ). 2 ^ n) (omega arith) in
    rw (e, four k) (mod-pow-add x 2 (2 * k))

-- Letters depend on the bases alone.
letters_same : (k x y : ℕ) → x % 4 ^ k ≡ y % 4 ^ k → letters k x ≡ letters k y
unfolding letters
letters_same zero x y e = refl
letters_same (suc k) x y e =
    let p : x / 4 ^ k % 4 * 4 ^ k + x % 4 ^ k ≡ y / 4 ^ k % 4 * 4 ^ k + y % 4 ^ k = sym (split_mod k x) ∙ e ∙ split_mod k y in
    let lx = mod-lt x (four_pos k) in
    let ly = mod-lt y (four_pos k) in
    ap₂ (λ (c : ℕ) (s : List ℕ). letter_of c ∷ s)
    (sym (digits_div (x / 4 ^ k % 4) lx) ∙ ap (λ (n : ℕ). n / 4 ^ k) p ∙ digits_div (y / 4 ^ k % 4) ly)
    (letters_same k x y (sym (digits_mod (x / 4 ^ k % 4) lx) ∙ ap (λ (n : ℕ). n % 4 ^ k) p ∙ digits_mod (y / 4 ^ k % 4) ly))

-- ---- packing a k-mer's letters

packed_mod : (k x : ℕ) → packed (letters k x) ≡ x % 4 ^ k
unfolding letters onto
packed_mod zero x = omega arith
packed_mod (suc k) x =
    packed_cons (letter_of (x / 4 ^ k % 4)) (letters k x)
    ∙ ap₂ ◌+◌ (ap₂ (λ (c n : ℕ). c * 4 ^ n) (code_letter (x / 4 ^ k % 4) (omega arith)) (length_letters k x)) (packed_mod k x)
    ∙ sym (split_mod k x)

pub packed_letters : (K x : ℕ) → x < 4 ^ K → packed (letters K x) ≡ x
packed_letters K x h = packed_mod K x ∙ mod-eq_of_lt h

pub bases_letters : (K x : ℕ) → Bases (letters K x)
unfolding letters
bases_letters zero x = tt
bases_letters (suc k) x =
    let c : x / 4 ^ k % 4 < 4 = omega arith in (rw (code_letter (x / 4 ^ k % 4) (omega arith)) c, bases_letters k x)

-- The call that packs gives back the k-mer.
pub pack_letters : (K x : ℕ) → ok_k K ≡ true → x < 4 ^ K → pack_call K (letters K x) ≡ gives x
unfolding pack_call with_letters pack_bases
pack_letters K x t h =
    let n = length_letters K x in
    let whole : take K (letters K x) ≡ letters K x = ap (λ (k : ℕ). take k (letters K x)) (sym n) ∙ take-length (letters K x) in
    let room : ltb (length (letters K x)) K ≡ false = rw n (le-ltb K K (omega arith)) in
    simp (t, room, whole, no_bad 0 (letters K x) (bases_letters K x)) (ap gives (packed_letters K x h))

-- ---- the letters of a packed text: its own, in upper case and with T for U

pub letters_packed : (s : List ℕ) → Bases s → letters (length s) (packed s) ≡ map (λ (b : ℕ). letter_of (code_of b)) s
unfolding letters
letters_packed [] h = refl
letters_packed (b ∷ s) h =
    let n : ℕ = length s in
    let l = packed_lt s h.1 in
    let e = packed_cons b s in
    let c : packed (b ∷ s) / 4 ^ length s % 4 ≡ code_of b =
    ap (λ (x : ℕ). x / 4 ^ length s % 4) e ∙ ap (λ (x : ℕ). x % 4) (digits_div (code_of b) l) ∙ mod-eq_of_lt h.0 in
    let r : packed (b ∷ s) % 4 ^ length s ≡ packed s % 4 ^ length s =
    ap (λ (x : ℕ). x % 4 ^ length s) e ∙ digits_mod (code_of b) l ∙ sym (mod-eq_of_lt l) in
    ap₂ (λ (x : ℕ) (t : List ℕ). letter_of x ∷ t) c (letters_same n (packed (b ∷ s)) (packed s) r ∙ letters_packed s h.1)

-- ---- order

first_decides : (a b r s p : ℕ) → a < b → r < p → a * p + r < b * p + s
first_decides a b r s p h l = let m : suc a * p ≤ b * p = mul-le-mul_right p h in omega (arith, suc-mul a p)

before_mod : (k x y : ℕ) → before (letters k x) (letters k y) ≡ ltb (x % 4 ^ k) (y % 4 ^ k)
unfolding letters before
before_mod zero x y = sym (le-ltb (x % 1) (y % 1) (omega arith))
before_mod (suc k) x y =
    let a : ℕ = x / 4 ^ k % 4 in
    let b : ℕ = y / 4 ^ k % 4 in
    let ha : x / 4 ^ k % 4 < 4 = omega arith in
    let hb : y / 4 ^ k % 4 < 4 = omega arith in
    rw (split_mod k x, split_mod k y, before_mod k x y)
    (⊎_elim
    (λ u.
    rw (lt-ltb (letter_of a) (letter_of b) (letter_up a b u hb))
    (sym (lt-ltb _ _ (first_decides a b (x % 4 ^ k) (y % 4 ^ k) (4 ^ k) u (mod-lt x (four_pos k))))))
    (λ u. ⊎_elim
    (λ v.
    let w = letter_up b a v ha in
    rw (le-ltb (letter_of a) (letter_of b) (omega arith), ne_eqb (letter_of a) (letter_of b) (λ e. omega arith))
    (sym (le-ltb _ _ (le_of_lt (first_decides b a (y % 4 ^ k) (x % 4 ^ k) (4 ^ k) v (mod-lt y (four_pos k)))))))
    (λ v.
    let e : x / 4 ^ k % 4 ≡ y / 4 ^ k % 4 = omega arith in
    rw (e, le-ltb (letter_of b) (letter_of b) (omega arith), eq-eqb (letter_of b) (letter_of b) refl)
    (same_test (x % 4 ^ k) (y % 4 ^ k) (b * 4 ^ k + x % 4 ^ k) (b * 4 ^ k + y % 4 ^ k) (λ l. omega arith) (λ l. omega arith)))
    (lt_or_ge b a))
    (lt_or_ge a b))

-- The numeric order of k-mers is the byte order of their letters.
pub before_letters : (K x y : ℕ) → x < 4 ^ K → y < 4 ^ K → before (letters K x) (letters K y) ≡ ltb x y
before_letters K x y hx hy = before_mod K x y ∙ ap₂ ltb (mod-eq_of_lt hx) (mod-eq_of_lt hy)

-- ---- the other strand

letter_rc : (K x i : ℕ) → i < K → letter_of (rc K x / 4 ^ (K - 1 - i) % 4) ≡ complement_letter (letter_of (x / 4 ^ i % 4))
unfolding complement
letter_rc K x i h =
    let e : suc i + (K - 1 - i) ≡ K = omega arith in
    let q : rc K x / 4 ^ (K - 1 - i) ≡ rc (suc i) x = rw e at (rc_short (suc i) (K - 1 - i) x) in
    let c : x / 4 ^ i % 4 < 4 = omega arith in
    let d : rc (suc i) x % 4 ≡ 3 - x / 4 ^ i % 4 = omega (arith, rc_first i x) in
    ap (λ (n : ℕ). letter_of (n % 4)) q ∙ ap letter_of d
    ∙ sym (rw (code_letter (x / 4 ^ i % 4) (omega arith)) (simp (lt-ltb (x / 4 ^ i % 4) 4 c)))

-- The letters of the reverse complement are the reverse complement of the letters.
pub letters_rc : (K x : ℕ) → letters K (rc K x) ≡ reverse_complement (letters K x)
letters_rc K x =
    let s : List ℕ = letters K x in
    let n : length (letters K x) ≡ K = length_letters K x in
    ext_get_or 0 (letters K (rc K x)) (reverse_complement s)
    (length_letters K (rc K x) ∙ sym (length_reverse_complement s ∙ n))
    (λ i l.
    let h : i < K = rw (length_letters K (rc K x)) at l in
    let j : length (letters K x) - 1 - i ≡ K - 1 - i = omega arith in
    let b : K - 1 - (K - 1 - i) ≡ i = omega arith in
    letter_at K (rc K x) i h ∙ letter_rc K x i h
    ∙ ap complement_letter (sym (letter_at K x (K - 1 - i) (omega arith) ∙ ap (λ (m : ℕ). letter_of (x / 4 ^ m % 4)) b))
    ∙ ap (λ (m : ℕ). complement_letter (get_or s m 0)) (sym j) ∙ sym (reverse_complement_at s i (rw n h)))
