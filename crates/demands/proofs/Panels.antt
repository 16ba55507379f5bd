-- Runs of `panel`: over a list in which no k-mer stands twice no two answers use a common one, and no answer uses one
-- twice. Such are the lists that `contract` gives, and those that `judge` has passed. Assumes nothing.
use mathlib.Core.Path.{◌≡◌, refl, sym, ap, ◌∙◌}
use mathlib.Core.Logic.{⊎_elim}
use mathlib.Core.Bool.{true}
use mathlib.Core.List.{List, []}
use Prim.Native.Nat.{ℕ, ◌≤◌, ◌<◌}
use native.Mathlib.Omega.{arith}
use lib.ListN.{length, get_or}
use Rattle.lemmas.proofs.Numbers.{lt_or_ge}
use Rattle.state.specs.declared.EdgeKind.{EdgeKind}
use Rattle.state.specs.Says.{kind_of}
use Rattle.label_index.specs.Entries.{label_at, listed, within}
use Rattle.label_index.proofs.Entries.{length_listed, listed_at, within_long}
use Rattle.graph.specs.Table.{table_of, keys_of}
use Rattle.graph.specs.Contraction.{Totals, ends_in, contract}
use Rattle.contraction.specs.declared.Unitigs.{Unitigs}
use Rattle.contraction.specs.declared.ContractError.{ContractError}
use Rattle.contraction.specs.Says.{contract_answer, Contracts}
use Rattle.laws.specs.Windows.{occurs, occurrences}
use Rattle.laws.proofs.Listed.{contract_within}
use Rattle.laws.proofs.Shares.{occurs_part, one_of, two_of}
use Rattle.rules.specs.Listing.{Lists as Holds}
use Rattle.rules.specs.Judging.{judge}
use Rattle.rules.proofs.Listing.{one_list}
use Rattle.rules.proofs.Standing.{once_2}
use Rattle.judging.specs.declared.Broken.{Broken}
use Rattle.judging.specs.declared.JudgeError.{JudgeError}
use Rattle.judging.specs.Answers.{Judges}
use Rattle.panel.specs.Probes.{between}
use Rattle.panel.specs.Panel.{in_profile, panel}
use Rattle.panel.specs.Says.{Panels}
use Rattle.panel.specs.declared.PanelError.{PanelError}
use Rattle.panel.proofs.Says.{panels_one, panels_all, profile_k}
use Rattle.panel.proofs.Outcomes.{answered_profile, answered_inside}
use Rattle.demands.specs.Probes.{probe_at, Unshared}
use Rattle.demands.proofs.Meets.{call_always}
use Rattle.demands.proofs.Judged.{call_yes}
use Rattle.std.specs.Prelude.{Option, None, Result, Ok}

-- ---- any list in which no k-mer stands twice, and any answers

module _ (K L : ℕ) (one : 1 ≤ K) (labels starts lengths : List ℕ) (count : ℕ) (answers : List ℕ)
    (inside : within labels count starts lengths ≡ true)
    (never_twice : (x : ℕ) → occurrences K x (listed count labels starts lengths) ≤ 1) where
  abbrev ls : List (List ℕ)
  ls = listed count labels starts lengths

  many : length ls ≡ count
  many =
      let t = within_long labels count starts lengths inside in
      length_listed labels count starts lengths t.0 t.1

  -- A probe has no k-mer more often than its label.
  less : (x i : ℕ) → i < count → occurs K x (probe_at L labels starts lengths answers i) ≤ occurs K x (get_or ls i [])
  less x i h =
      let t = within_long labels count starts lengths inside in
      rw (listed_at labels count starts lengths t.0 t.1 i h)
      (occurs_part K x one (label_at labels starts lengths i) (get_or answers i 0) L)

  meet : (x i j : ℕ) → i < j → j < count → 1 ≤ occurs K x (probe_at L labels starts lengths answers i)
      → 1 ≤ occurs K x (probe_at L labels starts lengths answers j) → ⊥
  meet x i j k h p q =
      omega (arith, p, q, less x i (omega arith), less x j h, two_of K x ls i j k (omega (arith, many)), never_twice x)

  pub list_unshared : Unshared K L labels starts lengths count answers
  list_unshared = record {
    once = λ x i h. omega (arith, less x i h, one_of K x ls i (omega (arith, many)), never_twice x);
    apart = λ x i j h g d p q. ⊎_elim (λ k. meet x i j k g p q)
        (λ k. ⊎_elim (λ m. meet x j i m h q p) (λ m. d (omega arith)) (lt_or_ge j i)) (lt_or_ge i j);
  }

-- ---- a call of `panel` that was answered, known by its contract

module _ (K cutoff L least most : ℕ) (labels starts lengths : List ℕ) (count : ℕ) (out : List ℕ)
    {r : Result ℕ PanelError} {out' : List ℕ} (p : Panels r out' (panel K cutoff L least most labels starts lengths count out))
    {m : ℕ} (e : r ≡ Ok m) where
  pub answers_unshared : ((x : ℕ) → occurrences K x (listed count labels starts lengths) ≤ 1)
      → Unshared K L labels starts lengths count out'
  answers_unshared never_twice =
      let profile = answered_profile K cutoff L least most labels starts lengths count out p e in
      let inside = answered_inside K cutoff L least most labels starts lengths count out p e in
      list_unshared K L (profile_k K cutoff L profile) labels starts lengths count out' inside never_twice

-- ---- over what `contract` lists: a call of it that was not refused, and a call of `panel` over its list at the same
-- K; `said` is the cutoff that the panel is told, which need not be the list's

module _ (kind : EdgeKind) (K cutoff n : ℕ) (keys counts labels starts lengths marks : List ℕ)
    {r : Result Unitigs ContractError} {labels' starts' lengths' marks' : List ℕ}
    (c : Contracts r labels' starts' lengths' marks'
    (contract (kind_of kind) K cutoff n keys counts labels starts lengths marks))
    {number bases : ℕ} (e : r ≡ Ok (record { labels = number; bases = bases }))
    (said L least most : ℕ) (out : List ℕ) {s : Result ℕ PanelError} {out' : List ℕ}
    (p : Panels s out' (panel K said L least most labels' starts' lengths' number out)) where
  -- It is answered in the profile where the bounds are in order and the answers have room: the list itself is never
  -- refused.
  pub panel_answers : in_profile K said L ≡ true → between least most L ≡ true → number ≤ length out
      → s ≡ Ok number
  panel_answers profile ordered room =
      let t : Totals = record { labels = number; bases = bases } in
      let given = sym c.answer ∙ ap contract_answer e in
      let w : within labels' number starts' lengths' ≡ true =
      rw (c.labels_after, c.starts_after, c.lengths_after)
      (contract_within (kind_of kind) K cutoff n keys counts labels starts lengths marks t given) in
      (panels_one s (Ok number) p
      (panels_all K said L least most labels' starts' lengths' number out profile ordered w room _ refl)).0

  -- Where it is answered, the answers share no k-mer: by demand 3, whose clause `never_twice` holds over every fit
  -- table.
  pub panel_unshared : {m : ℕ} → s ≡ Ok m → Unshared K L labels' starts' lengths' number out'
  panel_unshared f =
      answers_unshared K said L least most labels' starts' lengths' number out p f
      (call_always kind K cutoff n keys counts labels starts lengths marks c e).never_twice

-- ---- over a list that `judge` has passed, and any index that lists its labels

module _ (kind : EdgeKind) (K cutoff n : ℕ) (keys counts text marks : List ℕ) {v : Result (Option Broken) JudgeError} {marks' : List ℕ}
    (j : Judges v marks' (judge (kind_of kind) K cutoff n keys counts text marks)) (yes : v ≡ Ok None)
    (said L least most : ℕ) (labels starts lengths : List ℕ) (count : ℕ) (out : List ℕ)
    {s : Result ℕ PanelError} {out' : List ℕ} (p : Panels s out' (panel K said L least most labels starts lengths count out)) where
  pub judged_unshared : Holds K text (listed count labels starts lengths) → {m : ℕ} → s ≡ Ok m
      → Unshared K L labels starts lengths count out'
  judged_unshared h f =
      let y = call_yes kind K cutoff n keys counts text marks j yes in
      let same = one_list K h y.1 in
      answers_unshared K said L least most labels starts lengths count out p f
      (λ x. rw same (once_2 K (keys_of n keys) (ends_in (kind_of kind) cutoff (table_of n keys counts)) y.2.rule2 x))
