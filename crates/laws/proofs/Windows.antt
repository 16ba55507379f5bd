-- The windows of a text: of one put behind another, of a k-mer with bases behind it, and on the other strand. Assumes nothing.
use mathlib.Core.Path.{◌≡◌, refl, sym, ap, ap₂, ◌∙◌}
use mathlib.Core.Logic.{⊎_elim}
use mathlib.Core.List.{List, [], ◌∷◌, ◌++◌, map, reverse, append_assoc, reverse-cons, reverse-append, map-append}
use Prim.Native.Nat.{ℕ, zero, suc, ◌+◌, ◌-◌, ◌*◌, ◌^◌, ◌≤◌, ◌<◌}
use native.Mathlib.Nat.{suc-add}
use native.Mathlib.Omega.{arith}
use lib.ListN.{length, take, drop, length-append, length-drop, take-append-drop}
use lib.Seq.{take_at, drop_at, take-append-le, take_all, drop-nil, length-take-le}
use Rattle.lemmas.proofs.Numbers.{lt_or_ge}
use Rattle.dna.specs.Text.{open_text}
use Rattle.dna.specs.Letters.{code_of, letter_of, complement, complement_letter, reverse_complement, open_letters}
use Rattle.dna.proofs.Letters.{code_le, code_letter}
use Rattle.dna.proofs.Reversal.{length_reverse_complement}
use Rattle.kmer.specs.Kmer.{packed, onto, rc, forward}
use Rattle.kmer.proofs.Windows.{Bases, bases_take, bases_append, packed_cons, packed_snoc, packed_slide, packed_lt}
use Rattle.laws.specs.Windows.{windows_from, onward, Codes}
use Rattle.laws.proofs.Sides.{complement_is}
use Rattle.laws.proofs.Links.{rc_front}

-- ---- texts of bases

pub bases_codes : (cs : List ℕ) → Codes cs → Bases (map letter_of cs)
bases_codes [] h = tt
bases_codes (c ∷ cs) h = let l : c < 4 = h.0 in (rw (code_letter c (omega arith)) h.0, bases_codes cs h.1)

-- ---- the other strand

pub turn_cons : (b : ℕ) (s : List ℕ) → reverse_complement (b ∷ s) ≡ reverse_complement s ++ (complement_letter b ∷ [])
unfolding reverse_complement
turn_cons b s = reverse-cons (complement_letter b) (map complement_letter s)

pub turn_append : (s t : List ℕ) → reverse_complement (s ++ t) ≡ reverse_complement t ++ reverse_complement s
unfolding reverse_complement
turn_append s t = ap (λ (l : List ℕ). reverse l) (map-append complement_letter s t) ∙ reverse-append (map complement_letter s) (map complement_letter t)

code_complement : (b : ℕ) → code_of b < 4 → code_of (complement_letter b) ≡ 3 - code_of b
code_complement b h = rw (complement_is (code_of b) h) (code_letter (3 - code_of b) (omega arith))

pub bases_turned : (s : List ℕ) → Bases s → Bases (reverse_complement s)
bases_turned [] h = unfold reverse_complement in tt
bases_turned (b ∷ s) h =
    let l : code_of (complement_letter b) < 4 = omega (arith, code_complement b h.0) in
    rw (turn_cons b s) (bases_append (reverse_complement s) (complement_letter b ∷ []) (bases_turned s h.1) (l, tt))

-- A byte that is no base is none on the other strand.
none_turned : code_of (letter_of (complement 4)) ≡ 4
unfolding open_text open_letters
none_turned = refl

base_back : (b : ℕ) → code_of (complement_letter b) < 4 → code_of b < 4
base_back b h = ⊎_elim (λ l. l)
    (λ l.
    let e : code_of b ≡ 4 = omega (arith, code_le b) in
    let f : code_of (complement_letter b) ≡ 4 = rw e none_turned in
    omega arith)
    (lt_or_ge (code_of b) 4)

bases_parts : (s t : List ℕ) → Bases (s ++ t) → Bases s × Bases t
bases_parts [] t h = (tt, h)
bases_parts (b ∷ s) t h = let p = bases_parts s t h.1 in ((h.0, p.0), p.1)

pub bases_back : (s : List ℕ) → Bases (reverse_complement s) → Bases s
bases_back [] h = tt
bases_back (b ∷ s) h =
    let p = bases_parts (reverse_complement s) (complement_letter b ∷ []) (rw (turn_cons b s) at h) in
    (base_back b p.1.0, bases_back s p.0)

-- The number of the reverse complement is the reverse complement of the number.
pub packed_turned : (s : List ℕ) → Bases s → packed (reverse_complement s) ≡ rc (length s) (packed s)
packed_turned [] h = unfold reverse_complement in unfold onto in unfold rc in refl
packed_turned (b ∷ s) h =
    ap packed (turn_cons b s) ∙ packed_snoc (reverse_complement s) (complement_letter b)
    ∙ ap₂ (λ (x c : ℕ). 4 * x + c) (packed_turned s h.1) (code_complement b h.0)
    ∙ sym (rc_front (length s) (code_of b) (packed s) h.0 (packed_lt s h.1))
    ∙ ap (rc (suc (length s))) (sym (packed_cons b s))

-- ---- windows

module _ (K : ℕ) where
  -- Every number is that of a k-mer.
  abbrev pub Small : List ℕ → Type 0
  Small [] = Unit {0}
  Small (x ∷ xs) = (x < 4 ^ K) × Small xs

  pub windows_small : (m : ℕ) (t : List ℕ) → 1 ≤ K → m + K ≤ suc (length t) → Bases t → Small (windows_from K m t)
  unfolding windows_from
  windows_small zero t one h b = tt
  windows_small (suc m) [] one h b = absurd (omega arith)
  windows_small (suc m) (x ∷ t) one h b =
      let n : length (take K (x ∷ t)) ≡ K = length-take-le K (x ∷ t) (omega arith) in
      (rw n at (packed_lt (take K (x ∷ t)) (bases_take K (x ∷ t) b)), windows_small m t one (omega arith) b.1)

  -- Windows that begin in a first text, and those of what stands behind it.
  pub windows_behind : (s t : List ℕ) (m : ℕ) → windows_from K (length s + m) (s ++ t) ≡ windows_from K (length s) (s ++ t) ++ windows_from K m t
  unfolding windows_from
  windows_behind [] t m = let e : 0 + m ≡ m = omega arith in ap (λ (k : ℕ). windows_from K k t) e
  windows_behind (b ∷ s) t m =
      ap (λ (k : ℕ). windows_from K k (b ∷ (s ++ t))) (suc-add (length s) m)
      ∙ ap (λ (ws : List ℕ). packed (take K (b ∷ (s ++ t))) ∷ ws) (windows_behind s t m)

  pub windows_snoc : (m : ℕ) (t : List ℕ) → windows_from K (suc m) t ≡ windows_from K m t ++ (packed (take K (drop m t)) ∷ [])
  unfolding windows_from
  windows_snoc zero t = refl
  windows_snoc (suc m) [] =
      ap (λ (ws : List ℕ). packed (take K []) ∷ ws)
      (windows_snoc m [] ∙ ap (λ (t : List ℕ). windows_from K m [] ++ (packed (take K t) ∷ [])) (drop-nil m))
  windows_snoc (suc m) (b ∷ t) = ap (λ (ws : List ℕ). packed (take K (b ∷ t)) ∷ ws) (windows_snoc m t)

  module _ (one : 1 ≤ K) where
    -- What stands behind its last window does not matter.
    pub windows_within : (m : ℕ) (s t : List ℕ) → m + K ≤ suc (length s) → windows_from K m (s ++ t) ≡ windows_from K m s
    unfolding windows_from
    windows_within zero s t h = refl
    windows_within (suc m) [] t h = absurd (omega arith)
    windows_within (suc m) (b ∷ s) t h =
        ap₂ (λ (w : List ℕ) (ws : List ℕ). packed w ∷ ws) (take-append-le K (b ∷ s) t (omega arith)) (windows_within m s t (omega arith))

    -- Behind a k-mer, those that follow it by the bases that stand there.
    pub windows_onward : (w bs : List ℕ) → length w ≡ K → Bases w → Codes bs
        → windows_from K (length bs) (drop 1 (w ++ map letter_of bs)) ≡ onward K (packed w) bs
    unfolding windows_from onward
    windows_onward w [] l h c = refl
    windows_onward [] (b ∷ bs) l h c = absurd (omega arith)
    windows_onward (x ∷ w) (b ∷ bs) l h c =
        let lt : b < 4 = c.0 in
        let v = w ++ (letter_of b ∷ []) in
        let n : length (w ++ (letter_of b ∷ [])) ≡ K = length-append w (letter_of b ∷ []) ∙ omega arith in
        let code : code_of (letter_of b) ≡ b = code_letter b (omega arith) in
        let next : packed (w ++ (letter_of b ∷ [])) ≡ forward K (packed (x ∷ w)) b =
        sym (packed_slide w x (letter_of b) h.1 (omega (arith, code))) ∙ ap₂ (λ (k c : ℕ). forward k (packed (x ∷ w)) c) l code in
        let bv = bases_append w (letter_of b ∷ []) h.1 (omega (arith, code), tt) in
        ap (λ (t : List ℕ). windows_from K (suc (length bs)) t) (sym (append_assoc w (letter_of b ∷ []) (map letter_of bs)))
        ∙ ap₂ (λ (y : ℕ) (ws : List ℕ). y ∷ ws) (ap packed (take_at v (map letter_of bs) K n) ∙ next)
        (windows_onward v bs n bv c.1 ∙ ap (λ (y : ℕ). onward K y bs) next)

    -- On the other strand the windows stand turned, the last one first.
    pub windows_turned : (m : ℕ) (t : List ℕ) → suc (length t) ≡ K + m → Bases t
        → windows_from K m (reverse_complement t) ≡ reverse (map (rc K) (windows_from K m t))
    unfolding windows_from
    windows_turned zero t l h = refl
    windows_turned (suc m) [] l h = absurd (omega arith)
    windows_turned (suc m) (b ∷ t) l h =
        let first = take K (b ∷ t) in
        let rest = drop K (b ∷ t) in
        let nf : length (take K (b ∷ t)) ≡ K = length-take-le K (b ∷ t) (omega arith) in
        let nr : length (reverse_complement (drop K (b ∷ t))) ≡ m = length_reverse_complement (drop K (b ∷ t)) ∙ length-drop K (b ∷ t) ∙ omega arith in
        let split : reverse_complement (b ∷ t) ≡ reverse_complement rest ++ reverse_complement first =
        ap reverse_complement (sym (take-append-drop K (b ∷ t))) ∙ turn_append first rest in
        let last : packed (take K (drop m (reverse_complement (b ∷ t)))) ≡ rc K (packed (take K (b ∷ t))) =
        ap (λ (z : List ℕ). packed (take K (drop m z))) split
        ∙ ap (λ (z : List ℕ). packed (take K z)) (drop_at (reverse_complement rest) (reverse_complement first) m nr)
        ∙ ap packed (take_all K (reverse_complement first) (omega (arith, length_reverse_complement first)))
        ∙ packed_turned first (bases_take K (b ∷ t) h) ∙ ap (λ (k : ℕ). rc k (packed first)) nf in
        windows_snoc m (reverse_complement (b ∷ t))
        ∙ ap₂ (λ (ws : List ℕ) (y : ℕ). ws ++ (y ∷ []))
        (ap (windows_from K m) (turn_cons b t)
        ∙ windows_within m (reverse_complement t) (complement_letter b ∷ []) (omega (arith, length_reverse_complement t))
        ∙ windows_turned m t (omega arith) h.1) last
        ∙ sym (reverse-cons (rc K (packed (take K (b ∷ t)))) (map (rc K) (windows_from K m t)))

    -- Those of the other strand but its last.
    pub windows_but_last : (m : ℕ) (t : List ℕ) → length t ≡ K + m → Bases t
        → windows_from K m (reverse_complement t) ≡ reverse (map (rc K) (windows_from K m (drop 1 t)))
    windows_but_last m [] l h = absurd (omega arith)
    windows_but_last m (b ∷ t) l h =
        ap (windows_from K m) (turn_cons b t)
        ∙ windows_within m (reverse_complement t) (complement_letter b ∷ []) (omega (arith, length_reverse_complement t))
        ∙ windows_turned m t l h.1
