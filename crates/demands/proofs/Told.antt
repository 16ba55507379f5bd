-- Each answer of the definitions of adding, of contraction, of the judgement and of a panel is told by one of the
-- calls' results. Assumes nothing.
use mathlib.Core.Path.{◌≡◌, refl}
use mathlib.Core.Bool.{not, ◌||◌}
use mathlib.Core.List.{List, [], ◌∷◌}
use Prim.Native.Nat.{ℕ, suc, ◌%◌}
use lib.Dec.{ltb, eqb}
use lib.ListN.{length}
use Rattle.lemmas.proofs.Tests.{choose}
use Rattle.dna.specs.Letters.{is_base, first_bad}
use Rattle.dna.specs.Answer.{Answer, gives, refuses, Filled}
use Rattle.dna.proofs.Answers.{either}
use Rattle.kmer.specs.Kmer.{ok_k}
use Rattle.state.specs.Counted.{Kind, answers_for}
use Rattle.label_index.specs.Entries.{listed, within}
use Rattle.graph.specs.Table.{table_of, keys_of, capacity, fit_for}
use Rattle.graph.specs.Sightings.{Rule}
use Rattle.graph.specs.Adding.{Edges, Added, added, add_bases, add_label}
use Rattle.graph.specs.Several.{Several, untried, add_next, add_each, add_labels}
use Rattle.graph.specs.Labels.{Run, run}
use Rattle.graph.specs.Contraction.{Contracted, end_to_end, ends_in, written, finish, contract}
use Rattle.adding.specs.declared.Addition.{Addition}
use Rattle.adding.specs.declared.AddError.{AddError}
use Rattle.adding.specs.declared.AddError.TheVariants as one
use Rattle.adding.specs.declared.Additions.{Additions}
use Rattle.adding.specs.declared.OutOfText.{OutOfText}
use Rattle.adding.specs.Says.{add_answer, labels_say}
use Rattle.contraction.specs.declared.Unitigs.{Unitigs}
use Rattle.contraction.specs.declared.ContractError.{ContractError}
use Rattle.contraction.specs.declared.ContractError.TheVariants as all
use Rattle.contraction.specs.Says.{contract_answer}
use Rattle.rules.specs.Listing.{Listing, holds, no_list, listing}
use Rattle.rules.specs.Verdict.{Verdict, yes, no, verdict}
use Rattle.rules.specs.Judging.{Judgement, on_list, judge}
use Rattle.judging.specs.declared.Broken.{Broken}
use Rattle.judging.specs.declared.JudgeError.{JudgeError}
use Rattle.judging.specs.declared.JudgeError.TheVariants as judged
use Rattle.judging.specs.Answers.{judge_answer}
use Rattle.panel.specs.Probes.{between}
use Rattle.panel.specs.Panel.{in_profile, first_starts, panel}
use Rattle.panel.specs.Says.{panel_answer}
use Rattle.panel.specs.declared.PanelError.{PanelError}
use Rattle.panel.specs.declared.PanelError.TheVariants as panels
use Rattle.std.specs.Prelude.{Option, Some, None, Result, Ok, Err}

-- ---- adding

abbrev Told : Answer Edges → Type 0
Told a = (x : Result Addition AddError) × (add_answer x ≡ a)

abbrev ToldIn : Added → Type 0
ToldIn a = Told a.answer

-- A bad place comes with its byte and nothing else.
bad_told : (P : List ℕ → Type 0) → P [] → ((place byte : ℕ) → P (place ∷ byte ∷ [])) → (i : ℕ) (s : List ℕ) → P (first_bad i s)
unfolding first_bad
bad_told P none at i [] = none
bad_told P none at i (b ∷ s) = choose P (is_base b) (λ _. bad_told P none at (suc i) s) (λ _. at i b)

pub add_told : (κ : Kind) (rule : Rule) (K n : ℕ) (keys counts label : List ℕ) → Told (add_label κ rule K n keys counts label).answer
unfolding add_label add_bases
add_told κ rule K n keys counts label =
    choose ToldIn (not (ok_k K)) (λ _. (Err (one.UnsupportedK K), refl))
    (λ _. choose ToldIn (not (fit_for κ K n keys counts)) (λ _. (Err one.Unfit, refl))
    (λ _. choose ToldIn (ltb 4096 (length label)) (λ _. (Err (one.TooLong (length label)), refl))
    (λ _. choose ToldIn (ltb (length label) K) (λ _. (Ok (record { edges = 0; stored = n }), refl))
    (λ _. bad_told (λ (bad : List ℕ). ToldIn (add_bases κ rule K n keys counts label bad)) bases bad_place 0 label))))
  where
    bases : ToldIn (add_bases κ rule K n keys counts label [])
    bases =
        let t = added κ rule K label (table_of n keys counts) in
        choose ToldIn (ltb (capacity keys counts) (length t.keys)) (λ _. (Err one.Full, refl)) (λ _. (Ok (record { edges = _; stored = _ }), refl))

    bad_place : (place byte : ℕ) → ToldIn (add_bases κ rule K n keys counts label (place ∷ byte ∷ []))
    bad_place place byte = (Err (one.InvalidBase place byte), refl)

-- ---- many labels

module _ (κ : Kind) (rule : Rule) (K : ℕ) where
  each_told : (s : Several) (ls : List (List ℕ)) → Told s.answer → Told (add_each κ rule K s ls).answer
  unfolding add_each add_next
  each_told s [] h = h
  each_told s (l ∷ ls) h =
      let a = add_label κ rule K s.stored s.keys s.counts l in
      either (λ (t : Several). Told t.answer) s.answer
      (λ _ _. either (λ (t : Several). Told (add_each κ rule K t ls).answer) a.answer
      (λ e _.
      let t : Several = record { answer = gives e; labels = suc s.labels; stored = e.stored; keys = a.keys; counts = a.counts } in
      each_told t ls (Ok (record { edges = e.edges; stored = e.stored }), refl))
      (λ r vs q.
      let t : Several =
      record { answer = refuses r vs; labels = s.labels; stored = s.stored; keys = a.keys; counts = a.counts } in
      each_told t ls (rw q at (add_told κ rule K s.stored s.keys s.counts l))))
      (λ r vs q. h)

  pub labels_told : (n : ℕ) (keys counts text starts lengths : List ℕ) (count : ℕ)
      → (x : Result Additions OutOfText) × labels_say n x (add_labels κ rule K n keys counts text starts lengths count)
  unfolding add_labels
  labels_told n keys counts text starts lengths count =
      let s = add_each κ rule K (untried n keys counts) (listed count text starts lengths) in
      let last = each_told (untried n keys counts) (listed count text starts lengths) (Ok (record { edges = 0; stored = n }), refl) in
      choose (λ (t : Several). (x : Result Additions OutOfText) × labels_say n x t) (within text count starts lengths)
      (λ _. (Ok (record { labels = s.labels; stored = s.stored; last = last.0 }), (refl, refl, last.1)))
      (λ _. (Err (record {}), (refl, refl, refl)))

-- ---- contraction

module _ (κ : Kind) (K cutoff n : ℕ) (keys counts labels starts lengths marks : List ℕ) where
  abbrev ToldAll : Contracted → Type 0
  ToldAll c = (x : Result Unitigs ContractError) × (contract_answer x ≡ c.answer)

  finish_told : (r : Run) → ToldAll (finish κ K cutoff n keys counts labels starts lengths marks r)
  unfolding finish written
  finish_told r =
      choose ToldAll r.missed (λ _. (Err all.MissingVertex, refl))
      (λ _. choose ToldAll (ltb (length labels) (length (end_to_end r.labels)) || ltb (length starts) (length r.labels)
      || ltb (length lengths) (length r.labels))
      (λ _. (Err all.NoRoom, refl)) (λ _. (Ok (record { labels = _; bases = _ }), refl)))

  pub contract_told : ToldAll (contract κ K cutoff n keys counts labels starts lengths marks)
  unfolding contract
  contract_told =
      choose ToldAll (not (ok_k K)) (λ _. (Err (all.UnsupportedK K), refl))
      (λ _. choose ToldAll (not (fit_for κ K n keys counts)) (λ _. (Err all.Unfit, refl))
      (λ _. choose ToldAll (not (answers_for κ cutoff)) (λ _. (Err all.WrongCutoff, refl))
      (λ _. choose ToldAll (ltb (length marks) n) (λ _. (Err all.FewMarks, refl))
      (λ _. finish_told (run K (keys_of n keys) (ends_in κ cutoff (table_of n keys counts)) n)))))

-- ---- the judgement

module _ (κ : Kind) (K cutoff n : ℕ) (keys counts text marks : List ℕ) where
  abbrev ToldOf : Judgement → Type 0
  ToldOf j = (x : Result (Option Broken) JudgeError) × (judge_answer x ≡ j.answer)

  verdict_told : (v : Verdict) → (x : Result (Option Broken) JudgeError) × (judge_answer x ≡ gives v)
  verdict_told yes = (Ok None, refl)
  verdict_told (no rule label) = (Ok (Some (record { rule = rule; label = label })), refl)

  list_told : (l : Listing) → ToldOf (on_list κ K cutoff n keys counts text marks l)
  unfolding on_list
  list_told (holds ls) = verdict_told (verdict K (keys_of n keys) (ends_in κ cutoff (table_of n keys counts)) ls)
  list_told no_list = (Err judged.NoList, refl)

  pub judge_told : ToldOf (judge κ K cutoff n keys counts text marks)
  unfolding judge
  judge_told =
      choose ToldOf (not (ok_k K)) (λ _. (Err (judged.UnsupportedK K), refl))
      (λ _. choose ToldOf (not (fit_for κ K n keys counts)) (λ _. (Err judged.Unfit, refl))
      (λ _. choose ToldOf (not (answers_for κ cutoff)) (λ _. (Err judged.WrongCutoff, refl))
      (λ _. choose ToldOf (ltb (length marks) n) (λ _. (Err judged.FewMarks, refl))
      (λ _. choose ToldOf (eqb (K % 2) 0) (λ _. (Err judged.EvenK, refl)) (λ _. list_told (listing K text))))))

-- ---- a panel

abbrev ToldFor : Filled → Type 0
ToldFor f = (x : Result ℕ PanelError) × (panel_answer x ≡ f.answer)

pub panel_told : (K cutoff L least most : ℕ) (labels starts lengths : List ℕ) (count : ℕ) (out : List ℕ)
    → ToldFor (panel K cutoff L least most labels starts lengths count out)
unfolding panel
panel_told K cutoff L least most labels starts lengths count out =
    choose ToldFor (in_profile K cutoff L)
    (λ _. choose ToldFor (between least most L)
    (λ _. choose ToldFor (within labels count starts lengths)
    (λ _. choose ToldFor (ltb (length out) (length (first_starts L least most labels starts lengths count)))
    (λ _. (Err panels.NoRoom, refl)) (λ _. (Ok _, refl)))
    (λ _. (Err panels.OutOfLabels, refl)))
    (λ _. (Err panels.WrongBounds, refl)))
    (λ _. (Err panels.OutOfProfile, refl))
