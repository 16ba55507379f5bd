-- What a call that was not refused has written. Assumes nothing.
use Rattle.std.proofs.Common.{◌≡◌, ℕ, ◌+◌, ◌^◌, ◌<◌, ◌≤◌, true, false, ltb, List, length, get_or, drop, sym, refl, ap, ◌∙◌, arith, length-take, Result, Ok}
use lib.ListN.{get_or-append}
use Rattle.lemmas.proofs.Tests.{choose}
use Rattle.dna.specs.Text.{over}
use Rattle.dna.specs.Answer.{gives, Filled}
use Rattle.dna.proofs.Answers.{ungiven}
use Rattle.label_index.specs.Entries.{label_at, within}
use Rattle.panel.specs.Probes.{between, none, begins, first_probe, First}
use Rattle.panel.specs.Panel.{in_profile, first_starts, panel}
use Rattle.panel.specs.Says.{panel_answer, Panels}
use Rattle.panel.specs.declared.PanelError.{PanelError}
use Rattle.panel.proofs.Listed.{starts_number, starts_at}
use Rattle.panel.proofs.Says.{profile_some}
use Rattle.panel.proofs.Firsts.{first_says, some_says, none_says, says_none}

module _ (K cutoff L least most : ℕ) (labels starts lengths : List ℕ) (count : ℕ) (slice : List ℕ) where
  -- The starts are there from the first cell on, one for each label, and the profile and the index were as they
  -- should be.
  record Written (m : ℕ) (f : Filled) : Type 0 where
    profile : in_profile K cutoff L ≡ true
    inside : within labels count starts lengths ≡ true
    slice_after : f.slice ≡ over (first_starts L least most labels starts lengths count) slice
    number : m ≡ length (first_starts L least most labels starts lengths count)

  abbrev Good : ℕ → Filled → Type 0
  Good m f = gives m ≡ f.answer → Written m f

  written : (m : ℕ) → Good m (panel K cutoff L least most labels starts lengths count slice)
  unfolding panel
  written m =
      choose (Good m) (in_profile K cutoff L)
      (λ p. choose (Good m) (between least most L)
      (λ b. choose (Good m) (within labels count starts lengths)
      (λ w. choose (Good m) (ltb (length slice) (length (first_starts L least most labels starts lengths count)))
      (λ r h. ungiven m _ _ h)
      (λ r h. record { profile = p; inside = w; slice_after = refl; number = cc }))
      (λ w h. ungiven m _ _ h))
      (λ b h. ungiven m _ _ h))
      (λ p h. ungiven m _ _ h)

  module _ {r : Result ℕ PanelError} {out : List ℕ}
      (p : Panels r out (panel K cutoff L least most labels starts lengths count slice))
      {m : ℕ} (e : r ≡ Ok m) where
    whole : Written m (panel K cutoff L least most labels starts lengths count slice)
    whole = written m (ap panel_answer (sym e) ∙ p.answer)

    pub answered_profile : in_profile K cutoff L ≡ true
    answered_profile = whole.profile

    pub answered_inside : within labels count starts lengths ≡ true
    answered_inside = whole.inside

    number : length (first_starts L least most labels starts lengths count) ≡ count
    number = starts_number L least most labels starts lengths count answered_inside

    pub answered_all : m ≡ count
    answered_all = whole.number ∙ number

    -- The cell of each label has the first start of a probe in it.
    pub answered_first : (i : ℕ) → i < count
        → get_or out i 0 ≡ first_probe L least most (label_at labels starts lengths i)
    answered_first i h =
        let all = first_starts L least most labels starts lengths count in
        let n : i < length all = omega (arith, number) in
        ap (λ (s : List ℕ). get_or s i 0) (p.slice ∙ whole.slice_after)
        ∙ get_or-append all (drop (length all) slice) 0 i n
        ∙ starts_at L least most labels starts lengths count answered_inside i h

    -- Cell i says where the first probe of label i starts, or that there is none.
    module _ (i : ℕ) (h : i < count) where
      abbrev label : List ℕ
      label = label_at labels starts lengths i

      some : 0 < L
      some = profile_some K cutoff L answered_profile

      pub answered_says : First L least most label (get_or out i 0)
      answered_says = rw (answered_first i h) (first_says L least most some label)

      short : length label ≤ get_or lengths i 0
      short = rw (length-take (get_or lengths i 0) (drop (get_or starts i 0) labels)) (omega arith)

      -- Where it is not none, a probe starts there and lies within the label;
      pub answered_probe : (get_or out i 0 ≡ none → ⊥)
          → (begins L least most (drop (get_or out i 0) label) ≡ true) × (get_or out i 0 + L ≤ get_or lengths i 0)
      answered_probe x = let t = some_says L least most some label answered_says x in (t.0, omega (arith, t.1, short))

      -- it is none exactly where no start of the label has a probe; a length is a word of 32 bits.
      pub answered_none : get_or lengths i 0 < 2 ^ 32 → get_or out i 0 ≡ none
          → (j : ℕ) → begins L least most (drop j label) ≡ false
      answered_none word e = none_says L least most some label (omega (arith, short)) answered_says e

      pub none_answered : ((j : ℕ) → begins L least most (drop j label) ≡ false) → get_or out i 0 ≡ none
      none_answered n = says_none L least most some label answered_says n
