-- The verdict says what it should of every list: yes exactly where the four rules hold, and else the first broken rule and the lowest
-- label concerned. Assumes nothing.
use Prim.Native.Nat.{ℕ, ◌%◌, ◌≤◌}
use mathlib.Core.Path.{◌≡◌, refl, sym, ap, ◌∙◌, subst}
use mathlib.Core.Logic.{⊎_elim}
use mathlib.Core.Bool.{true, ◌||◌}
use mathlib.Core.List.{List, []}
use native.Mathlib.Omega.{arith}
use borrow.Author.Tests.{ltb-true, ltb-false}
use lib.Dec.{ltb}
use lib.ListN.{length}
use Rattle.lemmas.proofs.Tests.{choose, never, or_first, or_second, or_cases}
use Rattle.lemmas.proofs.Numbers.{true_or_false}
use Rattle.graph.specs.Table.{fit_from}
use Rattle.graph.specs.Walks.{Ends}
use Rattle.laws.specs.Demand.{Each, Each.none, Each.more}
use Rattle.rules.specs.Listing.{Label}
use Rattle.rules.specs.Rules.{Rule1, Rule3, Passes}
use Rattle.rules.specs.Verdict.{Verdict, yes, no, first_of, breaks1, breaks2, breaks3, breaks4, lacks, verdict}
use Rattle.rules.specs.Judged.{Judged, Judged.passes, Judged.breaks_1, Judged.breaks_2, Judged.only_missing, Judged.breaks_3, Judged.breaks_4}
use Rattle.rules.proofs.Firsts.{first_le, lowest_one}
use Rattle.rules.proofs.Rising.{lowest_1, keeps_1, broken_1}
use Rattle.rules.proofs.Standing.{lowest_2, nowhere_2, keeps_2, missing_2, lacking_2, broken_2}
use Rattle.rules.proofs.Stepping.{lowest_3, keeps_3, broken_3}
use Rattle.rules.proofs.Straying.{Good}
use Rattle.rules.proofs.Meeting.{lowest_4, keeps_4, broken_4}

module _ (K : ℕ) (ks : List ℕ) (es : List Ends) (one : 1 ≤ K) (odd : K % 2 ≡ 1) (fit : fit_from K 0 ks ≡ true) where
  good : {ls : List (List ℕ)} → Each (Label K) ls → Rule3 K ks es ls → Each (Good K ks es) ls
  good none none = none
  good (more p e) (more s r) = more (record { label = p; steps = s }) (good e r)

  -- What the verdict says is so.
  pub judged : (ls : List (List ℕ)) → Each (Label K) ls → Judged K ks es ls (verdict K ks es ls)
  unfolding verdict
  judged ls e =
      choose J (ltb (first_of breaks1 [] ls) (length ls)) (λ h. breaks_1 (lowest_1 ls (ltb-true _ _ h)))
      (λ h₁.
      let r₁ = keeps_1 K ks es ls (ltb-false _ _ h₁) in
      choose J (ltb (first_of (breaks2 K ks es) [] ls) (length ls) || lacks K ks es ls) (λ h. second r₁ h)
      (λ h₂.
      let r₂ = keeps_2 K ks es fit ls (ltb-false _ _ (or_first (ltb (first_of (breaks2 K ks es) [] ls) (length ls)) (lacks K ks es ls) h₂))
      (or_second (ltb (first_of (breaks2 K ks es) [] ls) (length ls)) (lacks K ks es ls) h₂) in
      choose J (ltb (first_of (breaks3 K ks es) [] ls) (length ls))
      (λ h. breaks_3 r₁ r₂ (lowest_3 K ks es one odd fit ls e (ltb-true _ _ h)))
      (λ h₃.
      let r₃ = keeps_3 K ks es one odd fit ls e (ltb-false _ _ h₃) in
      choose J (ltb (first_of (breaks4 K ks es) [] ls) (length ls))
      (λ h. breaks_4 r₁ r₂ r₃ (lowest_4 K ks es one odd fit ls r₂ (good e r₃) (ltb-true _ _ h)))
      (λ h₄. passes (record {
        rule1 = r₁;
        rule2 = r₂;
        rule3 = r₃;
        rule4 = keeps_4 K ks es one odd fit ls r₂ (good e r₃)
            (ltb-false _ _ h₄);
      })))))
    where
      J : Verdict → Type 0
      J v = Judged K ks es ls v

      second : Rule1 K ks es ls → (ltb (first_of (breaks2 K ks es) [] ls) (length ls) || lacks K ks es ls) ≡ true
          → J (no 2 (first_of (breaks2 K ks es) [] ls))
      second r h = ⊎_elim
          (λ q. breaks_2 r (lowest_2 K ks es fit ls (ltb-true _ _ q)))
          (λ q.
          let l : length ls ≤ first_of (breaks2 K ks es) [] ls = ltb-false _ _ q in
          only_missing r (nowhere_2 K ks es fit ls l)
          (missing_2 K ks es fit ls (⊎_elim (λ z. never (ltb (first_of (breaks2 K ks es) [] ls) (length ls)) z q) (λ z. z)
          (or_cases (ltb (first_of (breaks2 K ks es) [] ls) (length ls)) (lacks K ks es ls) h)))
          (omega (arith, first_le (breaks2 K ks es) [] ls)))
          (true_or_false (ltb (first_of (breaks2 K ks es) [] ls) (length ls)))

  -- ---- there is one such verdict

  -- A list that passes breaks no rule.
  passes_yes : {ls : List (List ℕ)} → Passes K ks es ls → {v : Verdict} → Judged K ks es ls v → v ≡ yes
  passes_yes p (passes q) = refl
  passes_yes p (breaks_1 l) = absurd (broken_1 K ks es l.concerned p.rule1)
  passes_yes p (breaks_2 r l) = absurd (broken_2 K ks es l.concerned p.rule2)
  passes_yes p (only_missing r n m e) = absurd (lacking_2 K ks es m p.rule2)
  passes_yes p (breaks_3 r s l) = absurd (broken_3 K ks es l.concerned p.rule3)
  passes_yes p (breaks_4 r s t l) = absurd (broken_4 K ks es one odd fit l.concerned p.rule4)

  pub one_verdict : {ls : List (List ℕ)} {v w : Verdict} → Judged K ks es ls v → Judged K ks es ls w → v ≡ w
  one_verdict (passes p) j = sym (passes_yes p j)
  one_verdict (breaks_1 l) (passes p) = passes_yes p (breaks_1 l)
  one_verdict (breaks_1 l) (breaks_1 m) = ap (no 1) (lowest_one l m)
  one_verdict (breaks_1 l) (breaks_2 r m) = absurd (broken_1 K ks es l.concerned r)
  one_verdict (breaks_1 l) (only_missing r n m e) = absurd (broken_1 K ks es l.concerned r)
  one_verdict (breaks_1 l) (breaks_3 r s m) = absurd (broken_1 K ks es l.concerned r)
  one_verdict (breaks_1 l) (breaks_4 r s t m) = absurd (broken_1 K ks es l.concerned r)
  one_verdict (breaks_2 r l) (passes p) = passes_yes p (breaks_2 r l)
  one_verdict (breaks_2 r l) (breaks_1 m) = absurd (broken_1 K ks es m.concerned r)
  one_verdict (breaks_2 r l) (breaks_2 s m) = ap (no 2) (lowest_one l m)
  one_verdict (breaks_2 r l) (only_missing s n m e) = absurd (n _ l.concerned)
  one_verdict (breaks_2 r l) (breaks_3 s t m) = absurd (broken_2 K ks es l.concerned t)
  one_verdict (breaks_2 r l) (breaks_4 s t u m) = absurd (broken_2 K ks es l.concerned t)
  one_verdict (only_missing r n m e) (passes p) = passes_yes p (only_missing r n m e)
  one_verdict (only_missing r n m e) (breaks_1 l) = absurd (broken_1 K ks es l.concerned r)
  one_verdict (only_missing r n m e) (breaks_2 s l) = absurd (n _ l.concerned)
  one_verdict (only_missing r n m e) (only_missing s o q f) = ap (no 2) (e ∙ sym f)
  one_verdict (only_missing r n m e) (breaks_3 s t l) = absurd (lacking_2 K ks es m t)
  one_verdict (only_missing r n m e) (breaks_4 s t u l) = absurd (lacking_2 K ks es m t)
  one_verdict (breaks_3 r s l) (passes p) = passes_yes p (breaks_3 r s l)
  one_verdict (breaks_3 r s l) (breaks_1 m) = absurd (broken_1 K ks es m.concerned r)
  one_verdict (breaks_3 r s l) (breaks_2 t m) = absurd (broken_2 K ks es m.concerned s)
  one_verdict (breaks_3 r s l) (only_missing t n m e) = absurd (lacking_2 K ks es m s)
  one_verdict (breaks_3 r s l) (breaks_3 t u m) = ap (no 3) (lowest_one l m)
  one_verdict (breaks_3 r s l) (breaks_4 t u v m) = absurd (broken_3 K ks es l.concerned v)
  one_verdict (breaks_4 r s t l) (passes p) = passes_yes p (breaks_4 r s t l)
  one_verdict (breaks_4 r s t l) (breaks_1 m) = absurd (broken_1 K ks es m.concerned r)
  one_verdict (breaks_4 r s t l) (breaks_2 u m) = absurd (broken_2 K ks es m.concerned s)
  one_verdict (breaks_4 r s t l) (only_missing u n m e) = absurd (lacking_2 K ks es m s)
  one_verdict (breaks_4 r s t l) (breaks_3 u v m) = absurd (broken_3 K ks es m.concerned t)
  one_verdict (breaks_4 r s t l) (breaks_4 u v w m) = ap (no 4) (lowest_one l m)

  -- ---- yes

  pub yes_passes : {ls : List (List ℕ)} → Judged K ks es ls yes → Passes K ks es ls
  yes_passes {ls} j = kept j refl
    where
      kept : {v : Verdict} → Judged K ks es ls v → v ≡ yes → Passes K ks es ls
      kept (passes p) q = p
      kept (breaks_1 l) q = absurd (let z : ◌≡◌ {A = ℕ} 0 1 = cc in omega arith)
      kept (breaks_2 r l) q = absurd (let z : ◌≡◌ {A = ℕ} 0 1 = cc in omega arith)
      kept (only_missing r n m e) q = absurd (let z : ◌≡◌ {A = ℕ} 0 1 = cc in omega arith)
      kept (breaks_3 r s l) q = absurd (let z : ◌≡◌ {A = ℕ} 0 1 = cc in omega arith)
      kept (breaks_4 r s t l) q = absurd (let z : ◌≡◌ {A = ℕ} 0 1 = cc in omega arith)

  -- Yes exactly where the four rules hold.
  pub yes_sound : (ls : List (List ℕ)) → Each (Label K) ls → verdict K ks es ls ≡ yes → Passes K ks es ls
  yes_sound ls e h = yes_passes (subst (Judged K ks es ls) h (judged ls e))

  pub yes_complete : (ls : List (List ℕ)) → Each (Label K) ls → Passes K ks es ls → verdict K ks es ls ≡ yes
  yes_complete ls e p = passes_yes p (judged ls e)
