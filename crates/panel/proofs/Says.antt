-- The definition of the answers tells them apart, so the call's contract allows one answer and one content of the
-- slice; what each answer has to show. Assumes nothing.
use Rattle.std.proofs.Common.{◌≡◌, ℕ, ◌%◌, ◌<◌, ◌≤◌, true, false, cond, ◌&&◌, eqb, leb, List, length, sym, refl, ap, ◌∙◌, arith, le-ltb, lt-ltb, eqb-true, leb-true, Result, Ok, Err}
use Rattle.lemmas.proofs.Tests.{both}
use Rattle.dna.specs.Text.{over}
use Rattle.dna.specs.Answer.{Answer, gives, refuses, Filled}
use Rattle.label_index.specs.Entries.{within}
use Rattle.panel.specs.Probes.{between}
use Rattle.panel.specs.Panel.{in_profile, first_starts, panel}
use Rattle.panel.specs.Says.{panel_answer, Panels}
use Rattle.panel.specs.declared.PanelError.{PanelError}
use Rattle.panel.specs.declared.PanelError.TheVariants.{OutOfProfile, WrongBounds, OutOfLabels, NoRoom}
use Rattle.panel.proofs.Listed.{starts_number}

-- The case of an answer; a panel has no refusal but 26, 27, 12 and 28.
abbrev case_of : Answer ℕ → Result ℕ PanelError
case_of (gives n) = Ok n
case_of (refuses r values) =
    Err (cond (eqb r 26) OutOfProfile (cond (eqb r 27) WrongBounds (cond (eqb r 12) OutOfLabels NoRoom)))

case_back : (a : Result ℕ PanelError) → case_of (panel_answer a) ≡ a
case_back (Ok n) = refl
case_back (Err OutOfProfile) = refl
case_back (Err WrongBounds) = refl
case_back (Err OutOfLabels) = refl
case_back (Err NoRoom) = refl

panel_inj : (a b : Result ℕ PanelError) → panel_answer a ≡ panel_answer b → a ≡ b
panel_inj a b e = sym (case_back a) ∙ ap case_of e ∙ case_back b

pub panels_one : (r s : Result ℕ PanelError) {out out' : List ℕ} {f : Filled} → Panels r out f → Panels s out' f
    → (r ≡ s) × (out ≡ out')
panels_one r s p q = (panel_inj r s (p.answer ∙ sym q.answer), p.slice ∙ sym q.slice)

-- In the profile K is odd and not 0, and a probe has a base.
profile_says : (K cutoff L : ℕ) → in_profile K cutoff L ≡ true → (K % 2 ≡ 1) × (15 ≤ K) × (K ≤ L)
unfolding in_profile
profile_says K cutoff L p =
    let b = both (eqb (K % 2) 1 && between 15 K 31 && between 2 cutoff 15) (between K L 63) p in
    let a = both (eqb (K % 2) 1 && between 15 K 31) (between 2 cutoff 15) b.0 in
    let k = both (eqb (K % 2) 1) (between 15 K 31) a.0 in (
      eqb-true (K % 2) 1 k.0,
      leb-true 15 K (both (leb 15 K) (leb K 31) k.1).0,
      leb-true K L (both (leb K L) (leb L 63) b.1).0,
    )

pub profile_k : (K cutoff L : ℕ) → in_profile K cutoff L ≡ true → 1 ≤ K
profile_k K cutoff L p = omega (arith, (profile_says K cutoff L p).1)

pub profile_some : (K cutoff L : ℕ) → in_profile K cutoff L ≡ true → 0 < L
profile_some K cutoff L p = omega (arith, (profile_says K cutoff L p).1, (profile_says K cutoff L p).2)

pub profile_odd : (K cutoff L : ℕ) → in_profile K cutoff L ≡ true → K % 2 ≡ 1
profile_odd K cutoff L p = (profile_says K cutoff L p).0

pub bounds_order : (least most L : ℕ) → between least most L ≡ true → least ≤ most
bounds_order least most L b = leb-true least most (both (leb least most) (leb most L) b).0

module _ (K cutoff L least most : ℕ) (labels starts lengths : List ℕ) (count : ℕ) (slice : List ℕ) where
  abbrev result : Filled
  result = panel K cutoff L least most labels starts lengths count slice

  -- K, the cutoff or the length is outside the profile.
  pub panels_profile : in_profile K cutoff L ≡ false → Panels (Err OutOfProfile) slice result
  unfolding panel
  panels_profile p = rw p (record { answer = refl; slice = refl })

  module _ (p : in_profile K cutoff L ≡ true) where
    -- The bounds are not in order.
    pub panels_bounds : between least most L ≡ false → Panels (Err WrongBounds) slice result
    unfolding panel
    panels_bounds b = rw (p, b) (record { answer = refl; slice = refl })

    module _ (b : between least most L ≡ true) where
      -- An entry is not there or lies past the labels.
      pub panels_outside : within labels count starts lengths ≡ false → Panels (Err OutOfLabels) slice result
      unfolding panel
      panels_outside w = rw (p, b, w) (record { answer = refl; slice = refl })

      module _ (w : within labels count starts lengths ≡ true) where
        abbrev all : List ℕ
        all = first_starts L least most labels starts lengths count

        number : length all ≡ count
        number = starts_number L least most labels starts lengths count w

        -- The answers do not fit.
        pub panels_full : length slice < count → Panels (Err NoRoom) slice result
        unfolding panel
        panels_full r =
            let l : length slice < length all = rw number r in
            rw (p, b, w, lt-ltb (length slice) (length all) l) (record { answer = refl; slice = refl })

        -- They are written.
        pub panels_all : count ≤ length slice → (out : List ℕ) → out ≡ over all slice → Panels (Ok count) out result
        unfolding panel
        panels_all r out o =
            let l : length all ≤ length slice = rw number r in
            rw (p, b, w, le-ltb (length slice) (length all) l) (record { answer = rw number; slice = o })
