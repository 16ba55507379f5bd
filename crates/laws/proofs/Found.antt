-- No walk in a grown table comes to a k-mer that is not stored, so contracting one is never refused with 8. Assumes nothing.
use mathlib.Core.Path.{◌≡◌, refl, ap, ◌∙◌}
use mathlib.Core.Bool.{Bool, true, false, not, ◌||◌}
use mathlib.Core.List.{List, [], ◌∷◌, map}
use Prim.Native.Nat.{ℕ, zero, suc, ◌≤◌, ◌<◌}
use native.Mathlib.Omega.{arith}
use lib.Dec.{ltb, eqb}
use lib.ListN.{length, get_or, set, take, replicate, length-take}
use lib.Seq.{get_or-take}
use borrow.Author.Tests.{eqb-false}
use Rattle.lemmas.proofs.Tests.{choose, never}
use Rattle.dna.specs.Text.{over}
use Rattle.dna.specs.Answer.{refuses}
use Rattle.kmer.specs.Kmer.{ok_k, canon, forward}
use Rattle.state.specs.declared.Side.{Side}
use Rattle.state.specs.declared.Side.TheVariants.{Front, Back}
use Rattle.state.specs.Counted.{Kind, answers_for, slot_of, count, edge_at}
use Rattle.state.proofs.Edges.{edge_le, edge_base, cutoff_zero}
use Rattle.graph.specs.declared.Step.{Step}
use Rattle.graph.specs.declared.Step.TheVariants.{Next, Stop, Missing}
use Rattle.graph.specs.Table.{table_of, keys_of, rank, stored, fit_for}
use Rattle.graph.specs.Sightings.{Rule}
use Rattle.graph.specs.Walks.{Ends, ends_of, end_on, edge, seen, leaving, entrance}
use Rattle.graph.specs.Walks.{visited, isolated, missing, closed, enter, arrive, step, follow, walk}
use Rattle.graph.specs.Labels.{Run, extract, run}
use Rattle.graph.specs.Contraction.{Contracted, refused, end_to_end, ends_in, finish, written, contract}
use Rattle.graph.proofs.Rank.{stored_lt}
use Rattle.graph.proofs.Accepted.{fit_room, fit_length}
use Rattle.laws.specs.Grown.{Grown}
use Rattle.laws.proofs.Keys.{grown_fit}
use Rattle.laws.proofs.Closed.{grown_closed}

-- ---- a graph whose edges all lead to stored k-mers

module _ (K : ℕ) (ks : List ℕ) (es : List Ends)
    (known : (v : ℕ) (s : Side) → v < length ks → edge es v s ≤ 5)
    (leads : (v : ℕ) (s : Side) → v < length ks → edge es v s < 4
    → stored ks (canon K (forward K (seen K ks v s) (leaving s (edge es v s)))) ≡ true) where
  -- A step that comes to a vertex or stops.
  abbrev Finds : Step → Type 0
  Finds (Next v s b) = v < length ks
  Finds (Stop r) = Unit {0}
  Finds Missing = ⊥

  not_missing : (st : Step) → Finds st → missing st ≡ false
  not_missing (Next v s b) f = refl
  not_missing (Stop r) f = refl
  not_missing Missing f = absurd f

  module _ (a : ℕ) (start : Side) where
    enter_finds : (marks : List ℕ) (w : ℕ) (t : Side) (b : ℕ) → w < length ks → Finds (enter K ks es a start marks w t b)
    unfolding enter
    enter_finds marks w t b h =
        choose Finds (eqb (edge es w t) 4) (λ _. tt) (λ _. choose Finds (visited marks w) (λ _. tt) (λ _. h))

    step_finds : (marks : List ℕ) (v : ℕ) (s : Side) → v < length ks → Finds (step K ks es a start marks v s)
    unfolding step arrive
    step_finds marks v s h =
        let e = edge es v s in
        let y = forward K (seen K ks v s) (leaving s e) in
        choose Finds (eqb e 5) (λ _. tt)
        (λ p. choose Finds (eqb e 4) (λ _. tt)
        (λ q.
        let l : e < 4 = omega (arith, known v s h, eqb-false e 5 p, eqb-false e 4 q) in
        let st = leads v s h l in
        rw st (enter_finds marks (rank ks (canon K y)) (entrance K y) (leaving s e) (stored_lt ks (canon K y) st))))

    follow_finds : (most : ℕ) (st : Step) (marks : List ℕ) → Finds st → missing (follow K ks es a start most st marks).last ≡ false
    unfolding follow
    follow_finds zero st marks f = not_missing st f
    follow_finds (suc most) (Next v s b) marks f =
        follow_finds most (step K ks es a start (set marks v 1) v s) (set marks v 1) (step_finds (set marks v 1) v s f)
    follow_finds (suc most) (Stop why) marks f = refl
    follow_finds (suc most) Missing marks f = absurd f

    walk_finds : (marks : List ℕ) → a < length ks → missing (walk K ks es a start marks).last ≡ false
    unfolding walk
    walk_finds marks h =
        follow_finds (length ks) (step K ks es a start (set marks a 1) a start) (set marks a 1) (step_finds (set marks a 1) a start h)

  extract_finds : (r : Run) (a : ℕ) → a < length ks → r.missed ≡ false → (extract K ks es r a).missed ≡ false
  unfolding extract
  extract_finds r a h m =
      let back = walk K ks es a Back r.marks in
      rw (m, walk_finds a Back r.marks h, walk_finds a Front back.marks h)
      (choose (λ (t : Bool). t ≡ false) (closed back.last) (λ _. refl) (λ _. refl))

  pub run_finds : (n : ℕ) → n ≤ length ks → (run K ks es n).missed ≡ false
  unfolding run
  run_finds zero h = refl
  run_finds (suc a) h =
      let r = run K ks es a in
      let m = run_finds a (omega arith) in
      choose (λ (q : Run). q.missed ≡ false) (visited r.marks a || isolated es a) (λ _. m) (λ _. extract_finds r a h m)

-- ---- a grown table

get_d_ends : (f : ℕ → Ends) (l : List ℕ) (i : ℕ) (d : Ends) → i < length l → get_or (map f l) i d ≡ f (get_or l i 0)
get_d_ends f [] i d h = absurd (omega arith)
get_d_ends f (x ∷ l) zero d h = refl
get_d_ends f (x ∷ l) (suc i) d h = get_d_ends f l i d (omega arith)

ends_edge : (κ : Kind) (cutoff w : ℕ) (s : Side) → end_on s (ends_of κ cutoff w) ≡ edge_at κ cutoff w s
ends_edge κ cutoff w Front = refl
ends_edge κ cutoff w Back = refl

-- A vertex's edge by its word of counters.
pub edge_is : (κ : Kind) (cutoff n : ℕ) (keys counts : List ℕ) (v : ℕ) (s : Side) → v < n → n ≤ length counts
    → edge (ends_in κ cutoff (table_of n keys counts)) v s ≡ edge_at κ cutoff (get_or counts v 0) s
unfolding ends_in
edge_is κ cutoff n keys counts v s h l =
    ap (end_on s) (get_d_ends (ends_of κ cutoff) (take n counts) v _ (omega (arith, length-take n counts)))
    ∙ ends_edge κ cutoff (get_or (take n counts) v 0) s ∙ ap (λ (w : ℕ). edge_at κ cutoff w s) (get_or-take n counts v 0 h)

-- A single retained edge was counted.
pub edge_counted : (κ : Kind) (cutoff w : ℕ) (s : Side) → edge_at κ cutoff w s < 4 → 0 < count κ w (slot_of s (edge_at κ cutoff w s))
edge_counted κ zero w s h = absurd (omega (arith, cutoff_zero κ w s))
edge_counted κ (suc c) w s h = omega (arith, ((edge_base κ (suc c) w s h (edge_at κ (suc c) w s)).1 refl).1)

module _ {κ : Kind} {rule : Rule} {K : ℕ} {ls : List (List ℕ)} {n : ℕ} {keys counts : List ℕ} (g : Grown κ rule K ls n keys counts)
    (cutoff : ℕ) where
  pub grown_finds : (run K (keys_of n keys) (ends_in κ cutoff (table_of n keys counts)) n).missed ≡ false
  grown_finds = run_finds K (keys_of n keys) (ends_in κ cutoff (table_of n keys counts)) known leads n (omega (arith, size))
    where
      size : length (keys_of n keys) ≡ n
      size = fit_length K n keys counts (grown_fit g)

      is : (v : ℕ) (s : Side) → v < length (keys_of n keys) → edge (ends_in κ cutoff (table_of n keys counts)) v s ≡ edge_at κ cutoff (get_or counts v 0) s
      is v s h = edge_is κ cutoff n keys counts v s (omega (arith, size)) (omega (arith, fit_room K n keys counts (grown_fit g)))

      known : (v : ℕ) (s : Side) → v < length (keys_of n keys) → edge (ends_in κ cutoff (table_of n keys counts)) v s ≤ 5
      known v s h = rw (is v s h) (edge_le κ cutoff (get_or counts v 0) s)

      leads : (v : ℕ) (s : Side) → v < length (keys_of n keys) → edge (ends_in κ cutoff (table_of n keys counts)) v s < 4
          → stored (keys_of n keys) (canon K (forward K (seen K (keys_of n keys) v s) (leaving s (edge (ends_in κ cutoff (table_of n keys counts)) v s))))
          ≡ true
      leads v s h l =
          let e : edge_at κ cutoff (get_or counts v 0) s < 4 = rw (is v s h) at l in
          rw (is v s h) (grown_closed g v s (edge_at κ cutoff (get_or counts v 0) s) (omega (arith, size)) e
          (edge_counted κ cutoff (get_or counts v 0) s e))

  -- Contracting a grown table is never refused with 8.
  module _ (labels starts lengths marks : List ℕ) where
    abbrev Not8 : Contracted → Type 0
    Not8 c = (beside : List ℕ) → c.answer ≡ refuses 8 beside → ⊥

    other : (r : ℕ) (vs m : List ℕ) → (r ≡ 8 → ⊥) → Not8 (refused κ K cutoff n keys counts labels starts lengths marks r vs m)
    other r vs m ne beside h = ne (cc)

    written_not : (r : Run) → Not8 (written κ K cutoff n keys counts labels starts lengths marks r)
    unfolding written
    written_not r beside h = let z : ◌≡◌ {A = ℕ} 0 1 = cc in omega arith

    pub grown_contract : (beside : List ℕ) → (contract κ K cutoff n keys counts labels starts lengths marks).answer ≡ refuses 8 beside → ⊥
    unfolding contract finish
    grown_contract =
        let r = run K (keys_of n keys) (ends_in κ cutoff (table_of n keys counts)) n in
        choose Not8 (not (ok_k K)) (λ _. other 1 (K ∷ []) marks (λ e. omega arith))
        (λ _. choose Not8 (not (fit_for κ K n keys counts)) (λ _. other 5 [] marks (λ e. omega arith))
        (λ _. choose Not8 (not (answers_for κ cutoff)) (λ _. other 15 [] marks (λ e. omega arith))
        (λ _. choose Not8 (ltb (length marks) n) (λ _. other 7 [] marks (λ e. omega arith))
        (λ _. choose Not8 r.missed (λ m. never r.missed m grown_finds)
        (λ _. choose Not8 (ltb (length labels) (length (end_to_end r.labels)) || ltb (length starts) (length r.labels)
        || ltb (length lengths) (length r.labels))
        (λ _. other 9 [] (over (replicate n 0) marks) (λ e. omega arith)) (λ _. written_not r))))))
