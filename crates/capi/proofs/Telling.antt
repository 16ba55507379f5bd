-- The contract of each call allows one number, one content of the figures and one of each slice. Assumes nothing.
use mathlib.Core.Path.{◌≡◌, sym, ◌∙◌}
use mathlib.Core.List.{List}
use Prim.Native.Nat.{ℕ}
use Rattle.dna.specs.Answer.{Answer, Filled}
use Rattle.graph.specs.Adding.{Added}
use Rattle.graph.specs.Several.{Several}
use Rattle.graph.specs.Contraction.{Contracted}
use Rattle.rules.specs.Judging.{Judgement}
use Rattle.capi.specs.Says.{Tells, AddsLabel, AddsSeveral, ContractsTable, FillsOut, JudgesText}

-- Over the number and the figures of either, and the figures before.
module _ {r s : ℕ} {figures₀ figures figures' : List ℕ} where
  pub tells_one : {A : Type 0} {f : A → List ℕ} {a : Answer A} → Tells f a r figures₀ figures
      → Tells f a s figures₀ figures' → (r ≡ s) × (figures ≡ figures')
  tells_one t u = (t.number ∙ sym u.number, t.figures_after ∙ sym u.figures_after)

  pub adds_label_one : {keys keys' counts counts' : List ℕ} {a : Added}
      → AddsLabel r keys counts figures₀ figures a → AddsLabel s keys' counts' figures₀ figures' a
      → (r ≡ s) × (figures ≡ figures') × (keys ≡ keys') × (counts ≡ counts')
  adds_label_one t u = (
    t.number ∙ sym u.number,
    t.figures_after ∙ sym u.figures_after,
    t.keys_after ∙ sym u.keys_after,
    t.counts_after ∙ sym u.counts_after,
  )

  pub adds_labels_one : {keys keys' counts counts' totals₀ totals totals' : List ℕ} {a : Several}
      → AddsSeveral r keys counts totals₀ totals figures₀ figures a
      → AddsSeveral s keys' counts' totals₀ totals' figures₀ figures' a
      → (r ≡ s) × (totals ≡ totals') × (figures ≡ figures') × (keys ≡ keys') × (counts ≡ counts')
  adds_labels_one t u = (
    t.number ∙ sym u.number,
    t.totals_after ∙ sym u.totals_after,
    t.figures_after ∙ sym u.figures_after,
    t.keys_after ∙ sym u.keys_after,
    t.counts_after ∙ sym u.counts_after,
  )

  pub contracts_table_one : {labels labels' starts starts' lengths lengths' marks marks' : List ℕ} {c : Contracted}
      → ContractsTable r labels starts lengths marks figures₀ figures c
      → ContractsTable s labels' starts' lengths' marks' figures₀ figures' c
      → (r ≡ s) × (figures ≡ figures') × (labels ≡ labels')
      × (starts ≡ starts') × (lengths ≡ lengths') × (marks ≡ marks')
  contracts_table_one t u = (
    t.number ∙ sym u.number,
    t.figures_after ∙ sym u.figures_after,
    t.labels_after ∙ sym u.labels_after,
    t.starts_after ∙ sym u.starts_after,
    t.lengths_after ∙ sym u.lengths_after,
    t.marks_after ∙ sym u.marks_after,
  )

  pub fills_out_one : {out out' : List ℕ} {f : Filled} → FillsOut r out figures₀ figures f
      → FillsOut s out' figures₀ figures' f → (r ≡ s) × (figures ≡ figures') × (out ≡ out')
  fills_out_one t u =
      (t.number ∙ sym u.number, t.figures_after ∙ sym u.figures_after, t.out_after ∙ sym u.out_after)

  pub judges_text_one : {marks marks' : List ℕ} {j : Judgement} → JudgesText r marks figures₀ figures j
      → JudgesText s marks' figures₀ figures' j → (r ≡ s) × (figures ≡ figures') × (marks ≡ marks')
  judges_text_one t u =
      (t.number ∙ sym u.number, t.figures_after ∙ sym u.figures_after, t.marks_after ∙ sym u.marks_after)
