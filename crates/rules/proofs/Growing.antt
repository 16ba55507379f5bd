-- Contraction's own list over a grown table passes, for odd K. Assumes nothing.
use Prim.Native.Nat.{ℕ, ◌%◌, ◌≤◌, ◌<◌}
use mathlib.Core.Path.{◌≡◌, sym, ◌∙◌, subst}
use mathlib.Core.Logic.{⊎_elim}
use mathlib.Core.Bool.{true}
use mathlib.Core.List.{List}
use native.Mathlib.Omega.{arith}
use lib.ListN.{length, get_or}
use Rattle.dna.specs.Answer.{gives}
use Rattle.kmer.specs.Kmer.{canon}
use Rattle.state.specs.declared.Side.{Side}
use Rattle.state.specs.Counted.{Kind, slot_of, count, edge_at}
use Rattle.state.proofs.Edges.{edge_base}
use Rattle.label_index.specs.Entries.{listed}
use Rattle.graph.specs.Table.{table_of, keys_of, fit_from, rank}
use Rattle.graph.specs.Sightings.{Rule}
use Rattle.graph.specs.Walks.{Ends, edge, entrance}
use Rattle.graph.specs.Labels.{run}
use Rattle.graph.specs.Contraction.{Totals, Contracted, ends_in, contract}
use Rattle.graph.proofs.Rank.{stored_lt}
use Rattle.graph.proofs.Accepted.{fit_length, fit_sound}
use Rattle.laws.specs.Grown.{Grown, Joins}
use Rattle.laws.specs.Tours.{Piece, reading}
use Rattle.laws.specs.Windows.{Plain}
use Rattle.laws.specs.Demand.{Each, OneBase, Maximal, Always, in_order}
use Rattle.laws.proofs.Keys.{grown_fit}
use Rattle.laws.proofs.Steps.{ahead}
use Rattle.laws.proofs.Closed.{grown_closed}
use Rattle.laws.proofs.Symmetry.{Lawful}
use Rattle.laws.proofs.Edges.{other_end, grown_symmetric}
use Rattle.laws.proofs.Found.{edge_counted}
use Rattle.laws.proofs.Fits.{edge_at_lem, edges_known}
use Rattle.laws.proofs.Isolated.{edge_some}
use Rattle.laws.proofs.Plain.{plain_turned, lesser_cases}
use Rattle.laws.proofs.Labelled.{Labelled, run_labelled, label_text, reading_plain, label_length}
use Rattle.laws.proofs.Always.{paired_each, always}
use Rattle.laws.proofs.Indexed.{in_order_each}
use Rattle.laws.proofs.Listed.{contract_listed}
use Rattle.laws.proofs.Maximal.{grown_maximal}
use Rattle.rules.specs.Listing.{Label}
use Rattle.rules.specs.Rules.{Passes}
use Rattle.rules.specs.Verdict.{yes, verdict}
use Rattle.rules.proofs.Ours.{Answers, demand_passes}
use Rattle.rules.proofs.Verdicts.{yes_complete}

-- ---- the labels of every fit table are such that a list may hold them

module _ (K : ℕ) (ks : List ℕ) (es : List Ends) (one : 1 ≤ K) (fit : fit_from K 0 ks ≡ true)
    (known : (v : ℕ) (s : Side) → v < length ks → edge es v s ≤ 5) where
  is_label : (l : List ℕ) (p : Piece) → Labelled K ks es l p → Label K l
  is_label l p g =
      let plain = reading_plain K ks es g one fit known in
      let e = label_text K ks es g one fit known in (
        ⊎_elim (λ q. subst Plain (sym (e ∙ q)) plain) (λ q. subst Plain (sym (e ∙ q)) (plain_turned (reading K ks p) plain))
            (lesser_cases (reading K ks p)),
        omega (arith, label_length K ks es g one fit known),
      )

  pub run_labels : Each (Label K) (in_order (run K ks es (length ks)))
  run_labels = in_order_each (Label K) (paired_each is_label (run_labelled K ks es (length ks) (omega arith)))

-- ---- a grown table

module _ {κ : Kind} {rule : Rule} {K : ℕ} {ls : List (List ℕ)} {n : ℕ} {keys counts : List ℕ} (g : Grown κ rule K ls n keys counts)
    (cutoff : ℕ) (odd : K % 2 ≡ 1) where
  abbrev ks : List ℕ
  ks = keys_of n keys

  abbrev es : List Ends
  es = ends_in κ cutoff (table_of n keys counts)

  -- The counters of an edge between two different k-mers are the same at both ends.
  abbrev pub Symmetric : Type 0
  Symmetric = (u : ℕ) (s : Side) (b : ℕ) (v : ℕ) (t : Side) (c : ℕ) → u < n → v < n → b < 4 → c < 4 → Joins K ks u s b v t c → (u ≡ v → ⊥)
      → count κ (get_or counts u 0) (slot_of s b) ≡ count κ (get_or counts v 0) (slot_of t c)

  size : length ks ≡ n
  size = fit_length K n keys counts (grown_fit g)

  fits : fit_from K 0 ks ≡ true
  fits = (fit_sound K n keys counts (grown_fit g)).fits

  edge_here : (v : ℕ) (s : Side) → v < length ks → edge es v s ≡ edge_at κ cutoff (get_or counts v 0) s
  edge_here = edge_at_lem κ K cutoff n keys counts (grown_fit g)

  known : (v : ℕ) (s : Side) → v < length ks → edge es v s ≤ 5
  known = edges_known κ K cutoff n keys counts (grown_fit g)

  module _ (symmetric : Symmetric) where
    grown_answers : Answers K ks es odd fits
    grown_answers u s hu lt =
        let b = edge es u s in
        let here = edge_here u s hu in
        let at : edge_at κ cutoff (get_or counts u 0) s < 4 = omega (arith, here) in
        let some : 0 < count κ (get_or counts u 0) (slot_of s (edge es u s)) =
        subst (λ (e : ℕ). 0 < count κ (get_or counts u 0) (slot_of s e)) (sym here) (edge_counted κ cutoff (get_or counts u 0) s at) in
        let kept = ((edge_base κ cutoff (get_or counts u 0) s at (edge es u s)).1 here).1 in
        let y = ahead K ks es u s in
        let st = grown_closed g u s b (omega (arith, size)) lt some in
        let oe = other_end K ks fits u s b hu lt st in
        let v = rank ks (canon K (ahead K ks es u s)) in
        let t = entrance K (ahead K ks es u s) in
        let hv : v < length ks = stored_lt ks (canon K y) st in (
          v,
          t,
          hv,
          oe.2.there,
          λ differ few.
              let same = symmetric u s b v t oe.0 (omega (arith, size)) (omega (arith, size)) lt oe.1 oe.2 differ in
              let there = edge_here v t hv in
              let not_none : edge es v t ≡ 5 → ⊥ = λ q. edge_some κ cutoff (get_or counts v 0) t oe.0 oe.1 (omega arith)
              (sym there ∙ q) in
              let lv : edge es v t < 4 = omega (arith, known v t hv, not_none, few) in
              let av : edge_at κ cutoff (get_or counts v 0) t < 4 = omega (arith, there) in
              let is : oe.0 ≡ edge es v t = (edge_base κ cutoff (get_or counts v 0) t av oe.0).0 (oe.1, omega arith) ∙ sym there in
              record { at_u = lt; at_v = lv; joins = subst (Joins K ks u s b v t) is oe.2 },
        )

    -- Where also two k-mers joined singly stand together, the list passes.
    pub list_passes : Maximal K ks es (OneBase K) (in_order (run K ks es n)) → Passes K ks es (in_order (run K ks es n))
    list_passes m =
        let l : 1 ≤ K = omega arith in
        demand_passes K ks es odd fits grown_answers l
        (subst (λ (k : ℕ). Each (Label K) (in_order (run K ks es k))) size (run_labels K ks es l fits known))
        (subst (λ (k : ℕ). Always K ks es (in_order (run K ks es k))) size (always K ks es l fits known)) m

  -- The labels that a contraction which is not refused lists.
  module _ (labels starts lengths marks : List ℕ) where
    abbrev result : Contracted
    result = contract κ K cutoff n keys counts labels starts lengths marks

    pub own_labels : (t : Totals) → result.answer ≡ gives t
        → Each (Label K) (listed t.labels result.labels result.starts result.lengths)
    own_labels t h =
        subst (Each (Label K)) (sym (contract_listed κ K cutoff n keys counts labels starts lengths marks t h))
        (subst (λ (k : ℕ). Each (Label K) (in_order (run K ks es k))) size (run_labels K ks es (omega arith) fits known))

    pub own_passes : Symmetric → Maximal K ks es (OneBase K) (in_order (run K ks es n)) → (t : Totals) → result.answer ≡ gives t
        → verdict K ks es (listed t.labels result.labels result.starts result.lengths) ≡ yes
    own_passes sy m t h =
        yes_complete K ks es (omega arith) odd fits (listed t.labels result.labels result.starts result.lengths)
        (own_labels t h)
        (subst (Passes K ks es) (sym (contract_listed κ K cutoff n keys counts labels starts lengths marks t h)) (list_passes sy m))

-- A rule for equal neighbours that is lawful and excepts no k-mer but those of one repeated base.
module _ {Excepted : ℕ → Type 0} {κ : Kind} {rule : Rule} {K : ℕ} {ls : List (List ℕ)} {n : ℕ} {keys counts : List ℕ}
    (lawful : Lawful Excepted rule K) (only : (x : ℕ) → Excepted x → OneBase K x) (g : Grown κ rule K ls n keys counts)
    (cutoff : ℕ) (odd : K % 2 ≡ 1) (labels starts lengths marks : List ℕ) where
  abbrev own : Contracted
  own = contract κ K cutoff n keys counts labels starts lengths marks

  pub own_list : (t : Totals) → own.answer ≡ gives t
      → verdict K (keys_of n keys) (ends_in κ cutoff (table_of n keys counts))
      (listed t.labels own.labels own.starts own.lengths) ≡ yes
  own_list t h =
      own_passes g cutoff odd labels starts lengths marks
      (λ u s b v w c hu hv hb hc j d. grown_symmetric g lawful odd u s b v w c hu hv hb hc j (λ q _ _. d q))
      (λ u v s w hu hv o d nu nv. grown_maximal lawful g cutoff odd u v s w hu hv o d (λ x. nu (only _ x)) (λ x. nv (only _ x))) t h
