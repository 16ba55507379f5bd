-- `decimal` puts a number's digits in front of a text, and they spell the number. Assumes nothing.
use mathlib.Core.Path.{◌≡◌, refl, sym, ap, ◌∙◌, subst}
use mathlib.Core.Logic.{⊎_elim}
use mathlib.Core.Bool.{true, ◌&&◌}
use mathlib.Core.List.{List, [], ◌∷◌, ◌++◌, append_assoc}
use Prim.Native.Nat.{ℕ, zero, suc, ◌+◌, ◌*◌, ◌-◌, ◌/◌, ◌%◌, ◌^◌, ◌<◌}
use native.Mathlib.Omega.{arith}
use borrow.Author.Tests.{le-leb}
use lib.Dec.{leb}
use lib.ListN.{length-append, get_or-append}
use Rattle.lemmas.proofs.Tests.{both}
use Rattle.lemmas.proofs.Numbers.{lt_or_ge}
use Rattle.dna.specs.Text.{bytes}
use Rattle.label_file.specs.Output.{decimal, refusal}
use Rattle.label_file.specs.Spelled.{are_digits, said, Spells}
use Rattle.label_file.proofs.Digits.{decimal_last, decimal_more}

pub decimal_front : (most x : ℕ) (s : List ℕ) → decimal most x s ≡ decimal most x [] ++ s
unfolding decimal
decimal_front zero x s = refl
decimal_front (suc most) x s =
    let d = 48 + x % 10 in
    ⊎_elim (λ h. decimal_last most x s h ∙ ap (λ (ds : List ℕ). ds ++ s) (sym (decimal_last most x [] h)))
    (λ h.
    decimal_more most x s h ∙ decimal_front most (x / 10) (d ∷ s)
    ∙ sym (append_assoc (decimal most (x / 10) []) (d ∷ []) s)
    ∙ ap (λ (ds : List ℕ). ds ++ s) (sym (decimal_more most x [] h ∙ decimal_front most (x / 10) (d ∷ []))))
    (lt_or_ge x 10)

-- ---- one digit more

digits_more : (ds : List ℕ) (d : ℕ) → are_digits ds ≡ true → d < 10 → are_digits (ds ++ ((48 + d) ∷ [])) ≡ true
unfolding are_digits
digits_more [] d h l = rw (le-leb 48 (48 + d) (omega arith), le-leb (48 + d) 57 (omega arith))
digits_more (e ∷ ds) d h l =
    let b = both (leb 48 e && leb e 57) (are_digits ds) h in
    rw (b.0, digits_more ds d b.1 l)

said_more : (x : ℕ) (ds : List ℕ) (d : ℕ) → said x (ds ++ ((48 + d) ∷ [])) ≡ 10 * said x ds + d
unfolding said
said_more x [] d = omega arith
said_more x (e ∷ ds) d = said_more (10 * x + (e - 48)) ds d

spells_more : (ds : List ℕ) (x d : ℕ) → Spells ds x → 0 < x → d < 10 → Spells (ds ++ ((48 + d) ∷ [])) (10 * x + d)
spells_more ds x d s h l = record {
  some = omega (arith, length-append ds ((48 + d) ∷ []));
  digits = digits_more ds d s.digits l;
  says = said_more 0 ds d ∙ ap (λ (n : ℕ). 10 * n + d) s.says;
  first = λ _ e. s.first h (sym (get_or-append ds ((48 + d) ∷ []) 0 0 s.some) ∙ e);
  zero_alone = λ e. absurd (omega arith);
}

spells_one : (x : ℕ) → x < 10 → Spells ((48 + x % 10) ∷ []) x
unfolding are_digits said
spells_one x h =
    let e : x % 10 ≡ x = omega arith in
    rw e (record {
      some = omega arith;
      digits = digits_more [] x refl h;
      says = omega arith;
      first = λ p q. omega arith;
      zero_alone = λ q. rw q;
    })

-- ---- all of them

-- A number of at most so many digits is spelled by them.
pub decimal_spells : (most x : ℕ) → x < 10 ^ suc most → Spells (decimal (suc most) x []) x
decimal_spells zero x h = rw (decimal_last zero x [] (omega arith)) (spells_one x (omega arith))
decimal_spells (suc most) x h =
    let q = x / 10 in
    let n : 10 * q + x % 10 ≡ x = omega arith in
    let whole = decimal_spells most q (omega arith) in
    ⊎_elim (λ l. rw (decimal_last (suc most) x [] l) (spells_one x l))
    (λ l.
    let e : decimal (suc (suc most)) x [] ≡ decimal (suc most) q [] ++ ((48 + x % 10) ∷ []) =
    decimal_more (suc most) x [] l ∙ decimal_front (suc most) q ((48 + x % 10) ∷ []) in
    subst (λ (m : ℕ). Spells (decimal (suc (suc most)) x []) m) n
    (rw e (spells_more (decimal (suc most) q []) q (x % 10) whole (omega arith) (omega arith))))
    (lt_or_ge x 10)

-- The line of a refusal is `R`, its number and the record's, a space before each, and a newline.
pub refusal_spells : (n p : ℕ) → n < 10 ^ 20 → p < 10 ^ 20 → (ds es : List ℕ) × Spells ds n × Spells es p
    × (refusal n p ≡ bytes "R " ++ (ds ++ (bytes " " ++ (es ++ bytes "\n"))))
refusal_spells n p h l = (
  decimal 20 n [],
  decimal 20 p [],
  decimal_spells 19 n h,
  decimal_spells 19 p l,
  ap (λ (s : List ℕ). bytes "R " ++ s)
      (decimal_front 20 n (bytes " " ++ decimal 20 p (bytes "\n"))
      ∙ ap (λ (s : List ℕ). decimal 20 n [] ++ (bytes " " ++ s)) (decimal_front 20 p (bytes "\n"))),
)
