-- Texts of A, C, G and T: turned twice they are themselves, and the smaller strand of one is not above its reverse complement.
-- Assumes nothing.
use mathlib.Core.Path.{◌≡◌, refl, ap, ap₂, ◌∙◌}
use mathlib.Core.Bool.{true, false}
use mathlib.Core.Logic.{◌⊎◌, inl, inr}
use mathlib.Core.List.{List, [], ◌∷◌, ◌++◌, map}
use Prim.Native.Nat.{ℕ, zero, suc, ◌/◌, ◌%◌, ◌^◌, ◌<◌}
use native.Mathlib.Omega.{arith}
use lib.Dec.{ltb}
use lib.ListN.{length}
use borrow.Author.Tests.{ltb-true}
use Rattle.lemmas.proofs.Tests.{choose}
use Rattle.dna.specs.Text.{bytes, among, open_text}
use Rattle.dna.specs.Letters.{code_of, letter_of, complement_letter, reverse_complement, open_letters}
use Rattle.dna.specs.Order.{before}
use Rattle.dna.proofs.Text.{at_each}
use Rattle.dna.proofs.Order.{before_asym}
use Rattle.dna.proofs.Reversal.{length_reverse_complement}
use Rattle.kmer.specs.Kmer.{letters}
use Rattle.kmer.proofs.Windows.{Bases}
use Rattle.graph.specs.Labels.{lesser}
use Rattle.laws.specs.Windows.{Codes, Plain}
use Rattle.laws.proofs.Windows.{turn_cons, turn_append}

module _ (b : ℕ) (h : among b (bytes "ACGT") ≡ true) where
  back_again : complement_letter (complement_letter b) ≡ b
  unfolding open_text open_letters
  back_again = at_each (λ c. complement_letter (complement_letter c)) (λ c. c) (bytes "ACGT") refl b h

  plain_complement : among (complement_letter b) (bytes "ACGT") ≡ true
  unfolding open_text open_letters
  plain_complement = at_each (λ c. among (complement_letter c) (bytes "ACGT")) (λ c. true) (bytes "ACGT") refl b h

  plain_base : code_of b < 4
  unfolding open_text open_letters
  plain_base = ltb-true (code_of b) 4 (at_each (λ c. ltb (code_of c) 4) (λ c. true) (bytes "ACGT") refl b h)

plain_letter : (c : ℕ) → c < 4 → among (letter_of c) (bytes "ACGT") ≡ true
unfolding open_text open_letters
plain_letter zero h = refl
plain_letter (suc zero) h = refl
plain_letter (suc (suc zero)) h = refl
plain_letter (suc (suc (suc zero))) h = refl
plain_letter (suc (suc (suc (suc c)))) h = absurd (omega arith)

pub plain_bases : (s : List ℕ) → Plain s → Bases s
plain_bases [] h = tt
plain_bases (b ∷ s) h = (plain_base b h.0, plain_bases s h.1)

pub plain_append : (s t : List ℕ) → Plain s → Plain t → Plain (s ++ t)
plain_append [] t p q = q
plain_append (b ∷ s) t p q = (p.0, plain_append s t p.1 q)

pub plain_codes : (cs : List ℕ) → Codes cs → Plain (map letter_of cs)
plain_codes [] h = tt
plain_codes (c ∷ cs) h = (plain_letter c h.0, plain_codes cs h.1)

pub plain_letters : (K x : ℕ) → Plain (letters K x)
unfolding letters
plain_letters zero x = tt
plain_letters (suc k) x = (plain_letter (x / 4 ^ k % 4) (omega arith), plain_letters k x)

pub plain_turned : (s : List ℕ) → Plain s → Plain (reverse_complement s)
plain_turned [] h = unfold reverse_complement in tt
plain_turned (b ∷ s) h =
    rw (turn_cons b s) (plain_append (reverse_complement s) (complement_letter b ∷ []) (plain_turned s h.1) (plain_complement b h.0, tt))

turn_one : (b : ℕ) → reverse_complement (b ∷ []) ≡ complement_letter b ∷ []
unfolding reverse_complement
turn_one b = refl

-- Turned twice, a text is itself.
pub turn_turn : (s : List ℕ) → Plain s → reverse_complement (reverse_complement s) ≡ s
turn_turn [] h = unfold reverse_complement in refl
turn_turn (b ∷ s) h =
    ap reverse_complement (turn_cons b s) ∙ turn_append (reverse_complement s) (complement_letter b ∷ [])
    ∙ ap₂ (λ (x y : List ℕ). x ++ y) (turn_one (complement_letter b)) (turn_turn s h.1)
    ∙ ap (λ (c : ℕ). c ∷ s) (back_again b h.0)

-- ---- the smaller strand

pub lesser_cases : (s : List ℕ) → (lesser s ≡ s) ⊎ (lesser s ≡ reverse_complement s)
unfolding lesser
lesser_cases s = choose (λ (t : List ℕ). (t ≡ s) ⊎ (t ≡ reverse_complement s)) (before (reverse_complement s) s) (λ _. inr refl) (λ _. inl refl)

pub lesser_length : (s : List ℕ) → length (lesser s) ≡ length s
unfolding lesser
lesser_length s = choose (λ (t : List ℕ). length t ≡ length s) (before (reverse_complement s) s) (λ _. length_reverse_complement s) (λ _. refl)

-- Its reverse complement does not stand before it.
pub lesser_least : (s : List ℕ) → Plain s → before (reverse_complement (lesser s)) (lesser s) ≡ false
unfolding lesser
lesser_least s h =
    choose (λ (t : List ℕ). before (reverse_complement t) t ≡ false) (before (reverse_complement s) s)
    (λ e. ap (λ (t : List ℕ). before t (reverse_complement s)) (turn_turn s h) ∙ before_asym (reverse_complement s) s e)
    (λ e. e)
