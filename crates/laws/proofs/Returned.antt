-- What a contraction returns besides the labels of demand 3: a k-mer that is not isolated in each, marks, two figures; and that it has room. Assumes nothing.
use mathlib.Core.Path.{◌≡◌, sym, ap, ◌∙◌, subst}
use mathlib.Core.Bool.{not, ◌||◌}
use mathlib.Core.List.{List, [], ◌∷◌}
use Prim.Native.Nat.{ℕ, zero, suc, ◌*◌, ◌≤◌, ◌<◌}
use native.Mathlib.Omega.{arith}
use borrow.Author.Tests.{le-ltb, not-false}
use lib.Dec.{ltb}
use lib.ListN.{length, get_or, drop, replicate, length-append, get_or-append}
use Rattle.lemmas.proofs.Tests.{choose}
use Rattle.dna.specs.Text.{over}
use Rattle.dna.specs.Answer.{gives, refuses}
use Rattle.kmer.specs.Kmer.{ok_k}
use Rattle.state.specs.declared.Side.TheVariants.{Front, Back}
use Rattle.state.specs.Counted.{Kind, answers_for}
use Rattle.label_index.specs.Entries.{listed}
use Rattle.graph.specs.Table.{table_of, keys_of, fit_for}
use Rattle.graph.specs.Walks.{Ends, walk, visited, isolated}
use Rattle.graph.specs.Labels.{Run, label_of, extract, run}
use Rattle.graph.specs.Contraction.{Totals, Contracted, refused, end_to_end, ends_in, finish, written, contract}
use Rattle.graph.proofs.Accepted.{fit_for_both, fit_length}
use Rattle.laws.specs.Windows.{occurrences}
use Rattle.laws.specs.Demand.{Each, HoldsLive}
use Rattle.laws.proofs.Runs.{run_toured}
use Rattle.laws.proofs.Indexed.{in_order_each}
use Rattle.laws.proofs.Fits.{fit_bases, fit_marks, fit_live}
use Rattle.laws.proofs.Listed.{accepted, contract_listed, contract_occurrences}

-- An anchor has one label.
extract_number : (K : ℕ) (ks : List ℕ) (es : List Ends) (r : Run) (a : ℕ) → length (extract K ks es r a).labels ≡ suc (length r.labels)
unfolding extract
extract_number K ks es r a =
    let back = walk K ks es a Back r.marks in
    let front = walk K ks es a Front back.marks in
    omega (arith, length-append r.labels (label_of K ks es (get_or ks a 0) back front ∷ []))

-- There are at most as many labels as anchors.
pub run_number : (K : ℕ) (ks : List ℕ) (es : List Ends) (a : ℕ) → length (run K ks es a).labels ≤ a
unfolding run
run_number K ks es zero = omega arith
run_number K ks es (suc a) =
    let r = run K ks es a in
    choose (λ (q : Run). length q.labels ≤ suc a) (visited r.marks a || isolated es a) (λ _. omega (arith, run_number K ks es a))
    (λ _. omega (arith, run_number K ks es a, extract_number K ks es r a))

module _ (κ : Kind) (K cutoff n : ℕ) (keys counts labels starts lengths marks : List ℕ) where
  abbrev ks : List ℕ
  ks = keys_of n keys

  abbrev es : List Ends
  es = ends_in κ cutoff (table_of n keys counts)

  abbrev result : Contracted
  result = contract κ K cutoff n keys counts labels starts lengths marks

  module _ (t : Totals) (h : result.answer ≡ gives t) where
    abbrev list : List (List ℕ)
    list = listed t.labels result.labels result.starts result.lengths

    -- Every label holds a k-mer that is not isolated.
    pub contract_live : Each (HoldsLive K ks es) list
    contract_live =
        let a = accepted κ K cutoff n keys counts labels starts lengths marks t h in
        subst (Each (HoldsLive K ks es)) (sym (contract_listed κ K cutoff n keys counts labels starts lengths marks t h))
        (in_order_each (HoldsLive K ks es) (fit_live κ K cutoff n keys counts a.fits a.ok))

    -- There are at most n labels, and they hold at most n times K bases.
    pub contract_few : (t.labels ≤ n) × (t.bases ≤ K * n)
    contract_few =
        let a = accepted κ K cutoff n keys counts labels starts lengths marks t h in (
          omega (arith, a.number, run_number K ks es n),
          omega (arith, a.bases, fit_bases κ K cutoff n keys counts a.fits a.ok),
        )

    marks_over : (r : Run) (v : ℕ) → v < length r.marks → get_or (over r.marks marks) v 0 ≡ get_or r.marks v 0
    marks_over r v l = get_or-append r.marks (drop (length r.marks) marks) 0 v l

    -- A mark is 1 where its k-mer stands in a label, and else 0: it is how often the k-mer occurs.
    pub contract_marks : (v : ℕ) → v < n → get_or result.marks v 0 ≡ occurrences K (get_or ks v 0) list
    unfolding written
    contract_marks v l =
        let a = accepted κ K cutoff n keys counts labels starts lengths marks t h in
        let r = run K ks es n in
        let k = fit_length K n keys counts a.fits in
        let long : length r.marks ≡ n = (run_toured K ks es n (omega (arith, k))).long ∙ k in
        ap (λ (c : Contracted). get_or c.marks v 0) a.is ∙ marks_over r v (omega (arith, long))
        ∙ fit_marks κ K cutoff n keys counts a.fits a.ok v l
        ∙ sym (contract_occurrences κ K cutoff n keys counts labels starts lengths marks t h (get_or ks v 0))

module _ (κ : Kind) (K cutoff n : ℕ) (keys counts labels starts lengths marks : List ℕ)
    (bases_fit : K * n ≤ length labels) (starts_fit : n ≤ length starts) (lengths_fit : n ≤ length lengths) where
  abbrev Not9 : Contracted → Type 0
  Not9 c = (beside : List ℕ) → c.answer ≡ refuses 9 beside → ⊥

  other : (r : ℕ) (vs m : List ℕ) → (r ≡ 9 → ⊥) → Not9 (refused κ K cutoff n keys counts labels starts lengths marks r vs m)
  other r vs m ne beside h = ne (cc)

  written_not : (r : Run) → Not9 (written κ K cutoff n keys counts labels starts lengths marks r)
  unfolding written
  written_not r beside h = let z : ◌≡◌ {A = ℕ} 0 1 = cc in omega arith

  finish_fits : (r : Run) → length (end_to_end r.labels) ≤ length labels → length r.labels ≤ n
      → Not9 (finish κ K cutoff n keys counts labels starts lengths marks r)
  unfolding finish
  finish_fits r b l =
      choose Not9 r.missed (λ _. other 8 [] (over (replicate n 0) marks) (λ e. omega arith))
      (λ _.
      rw (
        le-ltb (length labels) (length (end_to_end r.labels)) b,
        le-ltb (length starts) (length r.labels) (omega arith),
        le-ltb (length lengths) (length r.labels) (omega arith),
      ) (written_not r))

  -- Room for n times K bases and n entries is always enough: there is no 9.
  pub contract_fits : Not9 (contract κ K cutoff n keys counts labels starts lengths marks)
  unfolding contract
  contract_fits =
      let es = ends_in κ cutoff (table_of n keys counts) in
      choose Not9 (not (ok_k K)) (λ _. other 1 (K ∷ []) marks (λ e. omega arith))
      (λ ok. choose Not9 (not (fit_for κ K n keys counts)) (λ _. other 5 [] marks (λ e. omega arith))
      (λ f. choose Not9 (not (answers_for κ cutoff)) (λ _. other 15 [] marks (λ e. omega arith))
      (λ _. choose Not9 (ltb (length marks) n) (λ _. other 7 [] marks (λ e. omega arith))
      (λ _.
      let fits = (fit_for_both κ K n keys counts (not-false (fit_for κ K n keys counts) f)).0 in
      finish_fits (run K (keys_of n keys) es n) (omega (arith, fit_bases κ K cutoff n keys counts fits (not-false (ok_k K) ok)))
      (run_number K (keys_of n keys) es n)))))
