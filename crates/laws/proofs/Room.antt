-- The labels of a run together hold at most K bases for each vertex: each place adds one base, and is one mark more.
-- Assumes nothing.
use mathlib.Core.Path.{◌≡◌, refl, ap, ◌∙◌}
use mathlib.Core.Bool.{true, false}
use mathlib.Core.List.{List, [], ◌∷◌, ◌++◌}
use Prim.Native.Nat.{ℕ, zero, suc, ◌+◌, ◌*◌, ◌≤◌, ◌<◌}
use native.Mathlib.Nat.{mul-suc, mul-add, mul-zero, mul-le-mul_left}
use native.Mathlib.Omega.{arith}
use lib.ListN.{length, get_or, set, replicate, length-append, length-set}
use Rattle.lemmas.proofs.Tests.{or_first}
use Rattle.state.specs.declared.Side.{Side}
use Rattle.state.specs.declared.Side.TheVariants.{Back}
use Rattle.graph.specs.declared.Step.{Step}
use Rattle.graph.specs.Table.{fit_from}
use Rattle.graph.specs.Walks.{Ends, edge, visited, isolated}
use Rattle.graph.specs.Labels.{run}
use Rattle.graph.specs.Contraction.{end_to_end}
use Rattle.laws.specs.Trails.{Place, Trail, Trail.ends, Trail.goes}
use Rattle.laws.specs.Tours.{Piece, Taken, Taken.round, Taken.straight, Tour, Tour.none, Tour.passes, Tour.takes}
use Rattle.laws.proofs.Steps.{came, came_lt}
use Rattle.laws.proofs.Marks.{Bits, unmarked, set_same, set_bits, trail_marked}
use Rattle.laws.proofs.Tours.{tour_toured}
use Rattle.laws.proofs.Runs.{run_tour, run_toured}
use Rattle.laws.proofs.Labelled.{label_length, labelled}

-- The sum of the marks.
unfoldable total : List ℕ → ℕ
total [] = 0
total (x ∷ marks) = x + total marks

total_le : (marks : List ℕ) → Bits marks → total marks ≤ length marks
unfolding total
total_le [] b = omega arith
total_le (x ∷ marks) b = omega (arith, b 0, total_le marks (λ i. b (suc i)))

total_set : (marks : List ℕ) (u : ℕ) → u < length marks → get_or marks u 0 + total (set marks u 1) ≡ suc (total marks)
unfolding total
total_set [] u l = absurd (omega arith)
total_set (x ∷ marks) zero l = omega arith
total_set (x ∷ marks) (suc u) l = omega (arith, total_set marks u (omega arith))

total_zeros : (n : ℕ) → total (replicate n 0) ≡ 0
unfolding total
total_zeros zero = refl
total_zeros (suc n) = omega (arith, total_zeros n)

pub total_snoc : (ls : List (List ℕ)) (l : List ℕ) → length (end_to_end (ls ++ (l ∷ []))) ≡ length (end_to_end ls) + length l
unfolding end_to_end
total_snoc [] l = length-append l [] ∙ omega arith
total_snoc (m ∷ ls) l =
    omega (arith, length-append m (end_to_end (ls ++ (l ∷ []))), length-append m (end_to_end ls), total_snoc ls l)

at_least : (K m : ℕ) → 1 ≤ K → K + m ≤ K * suc m
at_least K zero h = omega (arith, mul-suc K 0, mul-zero K)
at_least K (suc m) h = omega (arith, mul-suc K (suc m), at_least K m h)

module _ (K : ℕ) (ks : List ℕ) (es : List Ends) where
  trail_total : {a : ℕ} {start : Side} {marks after : List ℕ} {v : ℕ} {s : Side} {ps : List Place} {st : Step}
      → Trail K ks es a start marks v s ps after st
      → length marks ≡ length ks → Bits marks → total after ≡ total marks + length ps
  trail_total (ends e h) l b = omega arith
  trail_total {a} {start} (goes {marks = marks} {v = v} {u = u} {s = s} e t) l b =
      let c = came K ks es a start marks v s e in
      let lu : u < length marks = omega (arith, came_lt K ks es c) in
      let n : length (set marks u 1) ≡ length ks = length-set marks u 1 ∙ l in
      omega (arith, unmarked marks u b c.fresh, total_set marks u lu, trail_total t n (set_bits marks u lu b))

  taken_total : {marks after l : List ℕ} {p : Piece} → Taken K ks es marks p after l → p.anchor < length ks → length marks ≡ length ks → Bits marks
      → visited marks p.anchor ≡ false → total after ≡ total marks + suc (length p.front + length p.back)
  taken_total (round {marks = marks} {a = a} t c e) h l b f =
      let la : a < length marks = omega arith in
      let n : length (set marks a 1) ≡ length ks = length-set marks a 1 ∙ l in
      omega (arith, unmarked marks a b f, total_set marks a la, trail_total t n (set_bits marks a la b))
  taken_total (straight {marks = marks} {between = m} {a = a} t c t₂ e) h l b f =
      let la : a < length marks = omega arith in
      let n : length (set marks a 1) ≡ length ks = length-set marks a 1 ∙ l in
      let r = trail_marked K ks es a Back t n (set_bits marks a la b) in
      let lm : a < length m = omega (arith, r.long) in
      let o : get_or m a 0 ≡ 1 = omega (arith, r.bits a, r.counted a, set_same marks a a la refl) in
      let n₂ : length (set m a 1) ≡ length ks = length-set m a 1 ∙ r.long ∙ n in
      omega (
        arith,
        unmarked marks a b f,
        total_set marks a la,
        trail_total t n (set_bits marks a la b),
        total_set m a lm,
        trail_total t₂ n₂ (set_bits m a lm r.bits),
      )

module _ (K : ℕ) (ks : List ℕ) (es : List Ends) (one : 1 ≤ K) (fit : fit_from K 0 ks ≡ true)
    (known : (v : ℕ) (s : Side) → v < length ks → edge es v s ≤ 5) where
  tour_room : {a : ℕ} {marks : List ℕ} {ps : List Piece} {ls : List (List ℕ)} → Tour K ks es a marks ps ls → a ≤ length ks
      → length (end_to_end ls) ≤ K * total marks
  unfolding end_to_end
  tour_room none h = omega arith
  tour_room (passes t q) h = tour_room t (omega arith)
  tour_room (takes {a = a} {marks = marks} {after = after} {ls = ls} {back = back} {front = front} {l = l} t q k) h =
      let r = tour_toured K ks es t (omega arith) in
      let f = or_first (visited marks a) (isolated es a) q in
      let sum : total after ≡ total marks + suc (length front + length back) = taken_total K ks es k h r.long r.bits f in
      omega (
        arith,
        total_snoc ls l,
        label_length K ks es (labelled K ks es t q k h) one fit known,
        tour_room t (omega arith),
        at_least K (length front + length back) one,
        mul-add K (total marks) (suc (length front + length back)),
        ap (λ (n : ℕ). K * n) sum,
      )

  -- The labels of a run have at most K letters for each key.
  pub run_room : (a : ℕ) → a ≤ length ks → length (end_to_end (run K ks es a).labels) ≤ K * length ks
  run_room a h =
      let r = run_toured K ks es a h in
      omega (
        arith,
        tour_room (run_tour K ks es a h).tour h,
        mul-le-mul_left K (total_le (run K ks es a).marks r.bits),
        ap (λ (n : ℕ). K * n) r.long,
      )
