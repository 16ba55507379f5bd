-- Texts of bases as numbers, and the windows of a text: each is the one before it, rolled forward. Assumes nothing.
use mathlib.Core.Path.{◌≡◌, refl, sym, ap, ◌∙◌}
use mathlib.Core.List.{List, [], ◌∷◌, ◌++◌}
use Prim.Native.Nat.{ℕ, zero, suc, ◌+◌, ◌*◌, ◌^◌, ◌≤◌, ◌<◌}
use native.Mathlib.Nat.{pow-suc, pow-succ', mul_assoc, mul_comm, add-mul}
use native.Mathlib.Omega.{arith}
use lib.Arith.{digits_lt, digits_mod}
use lib.ListN.{length, take, drop, get_or, length-drop}
use lib.Seq.{take-suc, drop-cons, get_or-drop, length-take-le}
use Rattle.dna.specs.Letters.{code_of}
use Rattle.kmer.specs.Kmer.{onto, packed, forward}

-- Every byte is a base.
abbrev pub Bases : List ℕ → Type 0
Bases [] = Unit {0}
Bases (b ∷ s) = (code_of b < 4) × Bases s

pub bases_take : (i : ℕ) (s : List ℕ) → Bases s → Bases (take i s)
bases_take zero s h = tt
bases_take (suc i) [] h = h
bases_take (suc i) (b ∷ s) h = (h.0, bases_take i s h.1)

pub bases_drop : (i : ℕ) (s : List ℕ) → Bases s → Bases (drop i s)
bases_drop zero s h = h
bases_drop (suc i) [] h = h
bases_drop (suc i) (b ∷ s) h = bases_drop i s h.1

pub bases_append : (s t : List ℕ) → Bases s → Bases t → Bases (s ++ t)
bases_append [] t p q = q
bases_append (b ∷ s) t p q = (p.0, bases_append s t p.1 q)

pub bases_at : (s : List ℕ) (i : ℕ) → i < length s → Bases s → code_of (get_or s i 0) < 4
bases_at [] i l h = absurd (omega arith)
bases_at (b ∷ s) zero l h = h.0
bases_at (b ∷ s) (suc i) l h = bases_at s i (omega arith) h.1

-- ---- the number of a text

onto_append : (x : ℕ) (s t : List ℕ) → onto x (s ++ t) ≡ onto (onto x s) t
unfolding onto
onto_append x [] t = refl
onto_append x (b ∷ s) t = onto_append (4 * x + code_of b) s t

onto_add : (x : ℕ) (s : List ℕ) → onto x s ≡ x * 4 ^ length s + packed s
unfolding onto
onto_add x [] = omega arith
onto_add x (b ∷ s) =
    let p : ℕ = 4 ^ length s in
    let w : 4 * x * p ≡ x * 4 ^ suc (length s) =
    ap (λ (n : ℕ). n * p) (mul_comm 4 x) ∙ mul_assoc x 4 p ∙ ap (λ (n : ℕ). x * n) (sym (pow-succ' 4 (length s))) in
    let z : 4 * 0 + code_of b ≡ code_of b = omega arith in
    onto_add (4 * x + code_of b) s
    ∙ omega (arith, w, add-mul (4 * x) (code_of b) p, onto_add (code_of b) s, ap (λ (n : ℕ). onto n s) z)

pub packed_cons : (b : ℕ) (s : List ℕ) → packed (b ∷ s) ≡ code_of b * 4 ^ length s + packed s
unfolding onto
packed_cons b s = let z : 4 * 0 + code_of b ≡ code_of b = omega arith in ap (λ (n : ℕ). onto n s) z ∙ onto_add (code_of b) s

pub packed_snoc : (s : List ℕ) (b : ℕ) → packed (s ++ (b ∷ [])) ≡ 4 * packed s + code_of b
unfolding onto
packed_snoc s b = onto_append 0 s (b ∷ [])

-- A text before another: its number counts in units of 4 to the other's length.
pub packed_append : (s t : List ℕ) → packed (s ++ t) ≡ packed s * 4 ^ length t + packed t
packed_append s t = onto_append 0 s t ∙ onto_add (packed s) t

pub packed_lt : (s : List ℕ) → Bases s → packed s < 4 ^ length s
unfolding onto
packed_lt [] h = omega arith
packed_lt (b ∷ s) h = rw (packed_cons b s, pow-succ' 4 (length s)) (digits_lt {m = 4} h.0 (packed_lt s h.1))

-- ---- windows

-- The first base is dropped and one is appended.
pub packed_slide : (s : List ℕ) (b c : ℕ) → Bases s → code_of c < 4 →
    forward (suc (length s)) (packed (b ∷ s)) (code_of c) ≡ packed (s ++ (c ∷ []))
unfolding forward
packed_slide s b c h l =
    let t : code_of b * 4 ^ suc (length s) ≡ 4 * (code_of b * 4 ^ length s) =
    ap (λ (n : ℕ). code_of b * n) (pow-suc 4 (length s)) ∙ sym (mul_assoc (code_of b) (4 ^ length s) 4)
    ∙ mul_comm (code_of b * 4 ^ length s) 4 in
    let e : 4 * packed (b ∷ s) + code_of c ≡ code_of b * 4 ^ suc (length s) + (4 * packed s + code_of c) =
    omega (arith, packed_cons b s) in
    let k : 4 * packed s + code_of c < 4 ^ suc (length s) = omega (arith, packed_lt s h, pow-suc 4 (length s)) in
    rw (packed_snoc, e) (digits_mod (code_of b) k)

-- Window i + 1 is window i rolled forward by the base behind it.
pub window_next : (K i : ℕ) (s : List ℕ) → 1 ≤ K → i + K < length s → Bases s →
    packed (take K (drop (suc i) s)) ≡ forward K (packed (take K (drop i s))) (code_of (get_or s (i + K) 0))
window_next zero i s one h b = absurd (omega arith)
window_next (suc k) i s one h b =
    let m : List ℕ = take k (drop (suc i) s) in
    let d : k < length (drop (suc i) s) = simp length-drop (omega arith) in
    let n : length (take k (drop (suc i) s)) ≡ k = length-take-le k (drop (suc i) s) (omega arith) in
    let e : suc i + k ≡ i + suc k = omega arith in
    let g : get_or (drop (suc i) s) k 0 ≡ get_or s (i + suc k) 0 = rw (get_or-drop, e) in
    let f =
    packed_slide m (get_or s i 0) (get_or s (i + suc k) 0) (bases_take k _ (bases_drop (suc i) s b))
    (bases_at s (i + suc k) h b) in
    rw (take-suc (drop (suc i) s) k 0 d, g, drop-cons s i 0 (omega arith)) (sym (rw n at f))
