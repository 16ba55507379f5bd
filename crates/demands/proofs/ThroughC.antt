-- A call through C is one of the Rattle function whose answer it tells in numbers, so that what is proved of runs of
-- the calls holds of runs through C, in which the caller reads the figures. Assumes nothing.
use mathlib.Core.Path.{◌≡◌, refl, sym, ap, ap₂, ◌∙◌}
use mathlib.Core.List.{List, [], ◌∷◌}
use Prim.Native.Nat.{ℕ, ◌*◌, ◌≤◌}
use native.Mathlib.Omega.{arith}
use lib.ListN.{length, get_or, take}
use borrow.Author.Tests.{ne_eqb}
use Rattle.dna.specs.Answer.{Filled}
use Rattle.state.specs.declared.EdgeKind.TheVariants as kinds
use Rattle.state.specs.Says.{kind_of}
use Rattle.label_index.specs.Entries.{listed}
use Rattle.graph.specs.Table.{table_of, keys_of}
use Rattle.graph.specs.Adding.{add_label}
use Rattle.graph.specs.Several.{add_labels}
use Rattle.graph.specs.Contraction.{Contracted, ends_in, contract}
use Rattle.adding.specs.declared.Addition.{Addition}
use Rattle.adding.specs.declared.AddError.{AddError}
use Rattle.adding.specs.declared.AddError.TheVariants as one
use Rattle.adding.specs.declared.Additions.{Additions}
use Rattle.adding.specs.declared.OutOfText.{OutOfText}
use Rattle.adding.specs.declared.Mode.{Mode}
use Rattle.adding.specs.declared.Mode.TheVariants as modes
use Rattle.adding.specs.Says.{add_answer, rule_of, Adds, AddsLabels}
use Rattle.contraction.specs.declared.Unitigs.{Unitigs}
use Rattle.contraction.specs.declared.ContractError.{ContractError}
use Rattle.contraction.specs.declared.ContractError.TheVariants as all
use Rattle.contraction.specs.Says.{contract_answer, Contracts}
use Rattle.rules.specs.Judging.{judge}
use Rattle.judging.specs.declared.Broken.{Broken}
use Rattle.judging.specs.declared.JudgeError.{JudgeError}
use Rattle.judging.specs.Answers.{judge_answer, Judges}
use Rattle.panel.specs.Panel.{panel}
use Rattle.panel.specs.Says.{panel_answer, Panels}
use Rattle.panel.specs.declared.PanelError.{PanelError}
use Rattle.panel.specs.declared.PanelError.TheVariants as panels
use Rattle.panel.proofs.Outcomes.{answered_all}
use Rattle.capi.specs.Says.{
  edge_kind_of,
  mode_of,
  number_of,
  figures,
  noted,
  of_edges,
  of_totals,
  of_verdict,
  of_number,
  AddsLabel,
  AddsSeveral,
  ContractsTable,
  JudgesText,
  FillsOut,
}
use Rattle.laws.specs.Demand.{Demand3}
use Rattle.demands.specs.Calls.{excepted, Called, Called.adds, Called.adds_many, onto}
use Rattle.demands.specs.Probes.{Unshared}
use Rattle.demands.proofs.Told.{add_told, labels_told, contract_told, judge_told, panel_told}
use Rattle.demands.proofs.Meets.{called_refused, call_meets, call_fits}
use Rattle.demands.proofs.Panels.{panel_unshared}
use Rattle.std.specs.Prelude.{Option, Result, Ok, Err}

-- Two figures in a slice that has room for them.
two_noted : (a b : ℕ) (slice : List ℕ) → 2 ≤ length slice
    → (get_or (noted (a ∷ b ∷ []) slice) 0 0 ≡ a) × (get_or (noted (a ∷ b ∷ []) slice) 1 0 ≡ b)
unfolding noted
two_noted a b [] h = absurd (omega arith)
two_noted a b (x ∷ []) h = absurd (omega arith)
two_noted a b (x ∷ y ∷ slice) h = (refl, refl)

-- Any number but 0 names the mode of document 02.
pub c_reversed : (mode : ℕ) → (mode ≡ 0 → ⊥) → mode_of mode ≡ modes.Reversed
c_reversed mode h = rw (ne_eqb mode 0 h)

-- Any number but 0 names presence bits.
pub c_presence : (kind : ℕ) → (kind ≡ 0 → ⊥) → edge_kind_of kind ≡ kinds.Presence
c_presence kind h = rw (ne_eqb kind 0 h)

-- ---- `lash_add_label`

module _ (kind mode K n : ℕ) (keys counts l : List ℕ) {r : ℕ} {keys' counts' figures₀ figures' : List ℕ}
    (c : AddsLabel r keys' counts' figures₀ figures' (add_label (kind_of (edge_kind_of kind)) (rule_of (mode_of mode)) K n keys counts l)) where
  -- The call of `add_label` that it is.
  pub c_adds : (a : Result Addition AddError) × Adds a keys' counts' (add_label (kind_of (edge_kind_of kind)) (rule_of (mode_of mode)) K n keys counts l)
      × (r ≡ number_of (add_answer a)) × (figures' ≡ noted (figures of_edges (add_answer a)) figures₀)
  c_adds =
      let t = add_told (kind_of (edge_kind_of kind)) (rule_of (mode_of mode)) K n keys counts l in (
        t.0,
        record { answer = t.1; keys_after = c.keys_after; counts_after = c.counts_after },
        c.number ∙ ap number_of (sym t.1),
        c.figures_after ∙ ap (λ a. noted (figures of_edges a) figures₀) (sym t.1),
      )

  -- Where 0 is returned, the label was added and the second figure is the number stored afterwards;
  pub c_called : {ls : List (List ℕ)} → Called (edge_kind_of kind) (mode_of mode) K ls n keys counts → r ≡ 0 → 2 ≤ length figures₀
      → Called (edge_kind_of kind) (mode_of mode) K (l ∷ ls) (get_or figures' 1 0) keys' counts'
  c_called {ls} g z room = go c_adds.0 c_adds.1 c_adds.2 c_adds.3
    where
      go : (a : Result Addition AddError) → Adds a keys' counts' (add_label (kind_of (edge_kind_of kind)) (rule_of (mode_of mode)) K n keys counts l) → r ≡ number_of (add_answer a)
          → figures' ≡ noted (figures of_edges (add_answer a)) figures₀ → Called (edge_kind_of kind) (mode_of mode) K (l ∷ ls) (get_or figures' 1 0) keys' counts'
      go (Ok x) a q f = rw (f, (two_noted x.edges x.stored figures₀ room).1) (adds g l a {edges = x.edges} {stored = x.stored} refl)
      go (Err (one.UnsupportedK k)) a q f = absurd (omega arith)
      go (Err (one.InvalidBase place byte)) a q f = absurd (omega arith)
      go (Err (one.TooLong m)) a q f = absurd (omega arith)
      go (Err one.Unfit) a q f = absurd (omega arith)
      go (Err one.Full) a q f = absurd (omega arith)

  -- where another number is, the table is as it was.
  pub c_refused : {ls : List (List ℕ)} → Called (edge_kind_of kind) (mode_of mode) K ls n keys counts → (r ≡ 0 → ⊥) → Called (edge_kind_of kind) (mode_of mode) K ls n keys' counts'
  c_refused {ls} g z = go c_adds.0 c_adds.1 c_adds.2
    where
      go : (a : Result Addition AddError) → Adds a keys' counts' (add_label (kind_of (edge_kind_of kind)) (rule_of (mode_of mode)) K n keys counts l) → r ≡ number_of (add_answer a)
          → Called (edge_kind_of kind) (mode_of mode) K ls n keys' counts'
      go (Ok x) a q = absurd (z q)
      go (Err (one.UnsupportedK k)) a q = called_refused g l a 1 (k ∷ []) refl
      go (Err (one.InvalidBase place byte)) a q = called_refused g l a 3 (place ∷ byte ∷ []) refl
      go (Err (one.TooLong m)) a q = called_refused g l a 4 (m ∷ []) refl
      go (Err one.Unfit) a q = called_refused g l a 5 [] refl
      go (Err one.Full) a q = called_refused g l a 6 [] refl

-- ---- `lash_add_labels`

module _ (kind mode K n : ℕ) (keys counts text starts lengths : List ℕ) (count : ℕ) {r : ℕ} {keys' counts' totals₀ totals' figures₀ figures' : List ℕ}
    (c : AddsSeveral r keys' counts' totals₀ totals' figures₀ figures' (add_labels (kind_of (edge_kind_of kind)) (rule_of (mode_of mode)) K n keys counts text starts lengths count)) where
  -- The call of `add_labels` that it is.
  pub c_adds_labels : (a : Result Additions OutOfText) × AddsLabels n a keys' counts' (add_labels (kind_of (edge_kind_of kind)) (rule_of (mode_of mode)) K n keys counts text starts lengths count)
  c_adds_labels =
      let t = labels_told (kind_of (edge_kind_of kind)) (rule_of (mode_of mode)) K n keys counts text starts lengths count in
      (t.0, record { says = t.1; keys_after = c.keys_after; counts_after = c.counts_after })

  -- Whatever is returned, the totals are the labels that were added and the number stored after them.
  pub c_called_many : {ls : List (List ℕ)} → Called (edge_kind_of kind) (mode_of mode) K ls n keys counts → 2 ≤ length totals₀
      → Called (edge_kind_of kind) (mode_of mode) K (onto (take (get_or totals' 0 0) (listed count text starts lengths)) ls) (get_or totals' 1 0) keys' counts'
  c_called_many {ls} g room = go c_adds_labels.0 c_adds_labels.1
    where
      told : {m stored m' stored' : ℕ} → m ≡ m' → stored ≡ stored' → noted (m' ∷ stored' ∷ []) totals₀ ≡ noted (m ∷ stored ∷ []) totals₀
      told p q = ap₂ (λ (x y : ℕ). noted (x ∷ y ∷ []) totals₀) (sym p) (sym q)

      go : (a : Result Additions OutOfText) → AddsLabels n a keys' counts' (add_labels (kind_of (edge_kind_of kind)) (rule_of (mode_of mode)) K n keys counts text starts lengths count)
          → Called (edge_kind_of kind) (mode_of mode) K (onto (take (get_or totals' 0 0) (listed count text starts lengths)) ls) (get_or totals' 1 0) keys' counts'
      go (Ok x) a =
          let t = two_noted x.labels x.stored totals₀ room in
          rw (c.totals_after ∙ told a.says.0 a.says.1, t.0, t.1) (adds_many g text starts lengths count a)
      go (Err e) a =
          let t = two_noted 0 n totals₀ room in
          rw (c.totals_after ∙ told a.says.0 a.says.1, t.0, t.1) (adds_many g text starts lengths count a)

-- ---- `lash_contract`

module _ (kind K cutoff n : ℕ) (keys counts labels starts lengths marks : List ℕ) {r : ℕ} {labels' starts' lengths' marks' figures₀ figures' : List ℕ}
    (c : ContractsTable r labels' starts' lengths' marks' figures₀ figures' (contract (kind_of (edge_kind_of kind)) K cutoff n keys counts labels starts lengths marks)) where
  -- The call of `contract` that it is; `call_always` and all that follows it in Meets.antt speak of that.
  pub c_contracts : (a : Result Unitigs ContractError) × Contracts a labels' starts' lengths' marks' (contract (kind_of (edge_kind_of kind)) K cutoff n keys counts labels starts lengths marks)
      × (r ≡ number_of (contract_answer a)) × (figures' ≡ noted (figures of_totals (contract_answer a)) figures₀)
  c_contracts =
      let t = contract_told (kind_of (edge_kind_of kind)) K cutoff n keys counts labels starts lengths marks in (
        t.0,
        record {
          answer = t.1;
          labels_after = c.labels_after;
          starts_after = c.starts_after;
          lengths_after = c.lengths_after;
          marks_after = c.marks_after;
        },
        c.number ∙ ap number_of (sym t.1),
        c.figures_after ∙ ap (λ a. noted (figures of_totals a) figures₀) (sym t.1),
      )

  abbrev result : Contracted
  result = contract (kind_of (edge_kind_of kind)) K cutoff n keys counts labels starts lengths marks

  -- Where 0 is returned, it is a call that was not refused, and the first figure is the number of labels.
  pub c_contracted : r ≡ 0 → 2 ≤ length figures₀
      → (bases : ℕ) × Contracts (Ok (record { labels = get_or figures' 0 0; bases = bases })) labels' starts' lengths' marks' result
  c_contracted z room = go c_contracts.0 c_contracts.1 c_contracts.2 c_contracts.3
    where
      go : (a : Result Unitigs ContractError) → Contracts a labels' starts' lengths' marks' result → r ≡ number_of (contract_answer a)
          → figures' ≡ noted (figures of_totals (contract_answer a)) figures₀
          → (bases : ℕ) × Contracts (Ok (record { labels = get_or figures' 0 0; bases = bases })) labels' starts' lengths' marks' result
      go (Ok x) a q f = rw (f, (two_noted x.labels x.bases figures₀ room).0) (x.bases, a)
      go (Err (all.UnsupportedK k)) a q f = absurd (omega arith)
      go (Err all.Unfit) a q f = absurd (omega arith)
      go (Err all.WrongCutoff) a q f = absurd (omega arith)
      go (Err all.FewMarks) a q f = absurd (omega arith)
      go (Err all.MissingVertex) a q f = absurd (omega arith)
      go (Err all.NoRoom) a q f = absurd (omega arith)

  -- Over a table that calls have made, the labels that the index then lists meet demand 3.
  pub c_meets : {m : Mode} {ls : List (List ℕ)} → Called (edge_kind_of kind) m K ls n keys counts → r ≡ 0 → 2 ≤ length figures₀
      → Demand3 K (keys_of n keys) (ends_in (kind_of (edge_kind_of kind)) cutoff (table_of n keys counts)) (excepted m K) (listed (get_or figures' 0 0) labels' starts' lengths')
  c_meets g z room =
      call_meets (edge_kind_of kind) K cutoff n keys counts labels starts lengths marks (c_contracted z room).1 refl g

  -- With room for n times K bases and n entries 9 is never returned.
  pub c_fits : K * n ≤ length labels → n ≤ length starts → n ≤ length lengths → r ≡ 9 → ⊥
  c_fits b s l e = go c_contracts.0 c_contracts.1 c_contracts.2
    where
      go : (a : Result Unitigs ContractError)
          → Contracts a labels' starts' lengths' marks' (contract (kind_of (edge_kind_of kind)) K cutoff n keys counts labels starts lengths marks)
          → r ≡ number_of (contract_answer a) → ⊥
      go (Ok x) a q = omega arith
      go (Err (all.UnsupportedK k)) a q = omega arith
      go (Err all.Unfit) a q = omega arith
      go (Err all.WrongCutoff) a q = omega arith
      go (Err all.FewMarks) a q = omega arith
      go (Err all.MissingVertex) a q = omega arith
      go (Err all.NoRoom) a q = call_fits (edge_kind_of kind) K cutoff n keys counts labels starts lengths marks a b s l refl

-- ---- `lash_judge`

-- The call of `judge` that it is; `call_yes`, `call_no` and `call_judged` of Judged.antt speak of that.
pub c_judges : (kind K cutoff n : ℕ) (keys counts text marks : List ℕ) {r : ℕ} {marks' figures₀ figures' : List ℕ}
    → JudgesText r marks' figures₀ figures' (judge (kind_of (edge_kind_of kind)) K cutoff n keys counts text marks)
    → (a : Result (Option Broken) JudgeError) × Judges a marks' (judge (kind_of (edge_kind_of kind)) K cutoff n keys counts text marks)
    × (r ≡ number_of (judge_answer a)) × (figures' ≡ noted (figures of_verdict (judge_answer a)) figures₀)
c_judges kind K cutoff n keys counts text marks {figures₀ = figures₀} c =
    let t = judge_told (kind_of (edge_kind_of kind)) K cutoff n keys counts text marks in (
      t.0,
      record { answer = t.1; marks_after = c.marks_after },
      c.number ∙ ap number_of (sym t.1),
      c.figures_after ∙ ap (λ a. noted (figures of_verdict a) figures₀) (sym t.1),
    )

-- ---- `lash_panel`

module _ (K cutoff L least most : ℕ) (labels starts lengths : List ℕ) (count : ℕ) (out : List ℕ)
    {r : ℕ} {out' figures₀ figures' : List ℕ}
    (c : FillsOut r out' figures₀ figures' (panel K cutoff L least most labels starts lengths count out)) where
  abbrev asked : Filled
  asked = panel K cutoff L least most labels starts lengths count out

  -- The call of `panel` that it is; `answered_says` of panel/proofs/Outcomes.antt and `answers_unshared` of
  -- Panels.antt speak of that.
  pub c_panels : (a : Result ℕ PanelError) × Panels a out' asked × (r ≡ number_of (panel_answer a))
      × (figures' ≡ noted (figures of_number (panel_answer a)) figures₀)
  c_panels =
      let t = panel_told K cutoff L least most labels starts lengths count out in (
        t.0,
        record { answer = t.1; slice = c.out_after },
        c.number ∙ ap number_of (sym t.1),
        c.figures_after ∙ ap (λ a. noted (figures of_number a) figures₀) (sym t.1),
      )

  -- Where 0 is returned, all labels were answered.
  pub c_answered : r ≡ 0 → Panels (Ok count) out' asked
  c_answered z = go c_panels.0 c_panels.1 c_panels.2
    where
      go : (a : Result ℕ PanelError) → Panels a out' asked → r ≡ number_of (panel_answer a)
          → Panels (Ok count) out' asked
      go (Ok m) a q = rw (answered_all K cutoff L least most labels starts lengths count out a refl) at a
      go (Err panels.OutOfProfile) a q = absurd (omega arith)
      go (Err panels.WrongBounds) a q = absurd (omega arith)
      go (Err panels.OutOfLabels) a q = absurd (omega arith)
      go (Err panels.NoRoom) a q = absurd (omega arith)

-- A call of `lash_contract` and one of `lash_panel` over its list at the same K, as many labels as the first figure
-- says: where both return 0, the answers share no k-mer.
module _ (kind K cutoff n : ℕ) (keys counts labels starts lengths marks : List ℕ)
    {r : ℕ} {labels' starts' lengths' marks' figures₀ figures' : List ℕ}
    (c : ContractsTable r labels' starts' lengths' marks' figures₀ figures'
    (contract (kind_of (edge_kind_of kind)) K cutoff n keys counts labels starts lengths marks))
    (said L least most : ℕ) (out : List ℕ) {s : ℕ} {out' figures₁ figures'' : List ℕ}
    (p : FillsOut s out' figures₁ figures''
    (panel K said L least most labels' starts' lengths' (get_or figures' 0 0) out)) where
  pub c_unshared : r ≡ 0 → 2 ≤ length figures₀ → s ≡ 0 → Unshared K L labels' starts' lengths' (get_or figures' 0 0) out'
  c_unshared z room y =
      panel_unshared (edge_kind_of kind) K cutoff n keys counts labels starts lengths marks
      (c_contracted kind K cutoff n keys counts labels starts lengths marks c z room).1 refl said L least most out
      (c_answered K said L least most labels' starts' lengths' (get_or figures' 0 0) out p y) refl
