-- Each label of a run with the piece that it spells: its text, its length and its windows. Assumes nothing.
use mathlib.Core.Path.{◌≡◌, ap, ◌∙◌}
use mathlib.Core.Bool.{true, false, ◌||◌}
use mathlib.Core.Logic.{◌⊎◌, inl, inr, ⊎_elim}
use mathlib.Core.List.{List, [], ◌∷◌, ◌++◌, map, reverse}
use Prim.Native.Nat.{ℕ, suc, ◌+◌, ◌-◌, ◌^◌, ◌≤◌, ◌<◌}
use native.Mathlib.Omega.{arith}
use lib.ListN.{length, get_or}
use Rattle.lemmas.proofs.Tests.{or_first, or_second}
use Rattle.lemmas.proofs.Numbers.{lt_or_ge}
use Rattle.dna.specs.Letters.{reverse_complement}
use Rattle.dna.proofs.Reversal.{length_reverse_complement}
use Rattle.kmer.specs.Kmer.{rc, letters}
use Rattle.state.specs.declared.Side.{Side}
use Rattle.graph.specs.declared.Step.{Step}
use Rattle.graph.specs.Table.{fit_from}
use Rattle.graph.specs.Sightings.{windows}
use Rattle.graph.specs.Walks.{Ends, edge, visited, isolated}
use Rattle.graph.specs.Labels.{lesser, run}
use Rattle.graph.proofs.Lookup.{key_at_lem}
use Rattle.laws.specs.Trails.{Place, Trail, Trail.ends, Trail.goes}
use Rattle.laws.specs.Tours.{Piece, in_piece, appended, reading, read_kmers}
use Rattle.laws.specs.Tours.{Taken, Taken.round, Taken.straight, Tour, Tour.none, Tour.passes, Tour.takes}
use Rattle.laws.specs.Windows.{windows_from, windows_of, Plain}
use Rattle.laws.proofs.Steps.{came, came_lt}
use Rattle.laws.proofs.Tours.{taken_marked, tour_toured}
use Rattle.laws.proofs.Runs.{run_tour}
use Rattle.laws.proofs.Windows.{windows_turned}
use Rattle.laws.proofs.Readings.{Spelt, taken_spelt, taken_label, reading_length, reading_windows}
use Rattle.laws.proofs.Plain.{plain_append, plain_codes, plain_letters, plain_turned, plain_bases, lesser_cases, lesser_length}

-- Two lists whose elements are related, one by one.
pub data Paired {A B : Type 0} (R : A → B → Type 0) : List A → List B → Type 0 where
  nothing : Paired R [] []
  pair : {x : A} {y : B} {xs : List A} {ys : List B} → R x y → Paired R xs ys → Paired R (x ∷ xs) (y ∷ ys)

paired_snoc : {A B : Type 0} {R : A → B → Type 0} {xs : List A} {ys : List B} {x : A} {y : B}
    → Paired R xs ys → R x y → Paired R (xs ++ (x ∷ [])) (ys ++ (y ∷ []))
paired_snoc nothing r = pair r nothing
paired_snoc (pair q p) r = pair q (paired_snoc p r)

-- Every place is at a key.
abbrev pub Inside : ℕ → List Place → Type 0
Inside n [] = Unit {0}
Inside n (p ∷ ps) = (p.vertex < n) × Inside n ps

module _ (K : ℕ) (ks : List ℕ) (es : List Ends) where
  trail_inside : {a : ℕ} {start : Side} {marks after : List ℕ} {v : ℕ} {s : Side} {ps : List Place} {st : Step}
      → Trail K ks es a start marks v s ps after st → Inside (length ks) ps
  trail_inside (ends e h) = tt
  trail_inside {a} {start} (goes {marks = marks} {v = v} {s = s} e t) = (came_lt K ks es (came K ks es a start marks v s e), trail_inside t)

  -- A label of the run and its piece: the anchor is a key with an edge, the smallest such in the piece.
  pub record Labelled (l : List ℕ) (p : Piece) : Type 0 where
    pub marks : List ℕ
    pub after : List ℕ
    pub taken : Taken K ks es marks p after l
    pub stored_one : p.anchor < length ks
    pub live : isolated es p.anchor ≡ false
    pub least : (j : ℕ) → isolated es j ≡ false → 1 ≤ in_piece j p → p.anchor ≤ j

  pub labelled : {a : ℕ} {marks after : List ℕ} {ps : List Piece} {ls : List (List ℕ)} {back front : List Place} {l : List ℕ}
      → Tour K ks es a marks ps ls
      → (visited marks a || isolated es a) ≡ false → Taken K ks es marks (record { anchor = a; back = back; front = front }) after l
      → suc a ≤ length ks → Labelled l (record { anchor = a; back = back; front = front })
  labelled {a} {marks} {after} t q k h =
      let r = tour_toured K ks es t (omega arith) in
      let m = taken_marked K ks es k h r.long r.bits (or_first (visited marks a) (isolated es a) q) in
      record {
        marks = marks;
        after = after;
        taken = k;
        stored_one = h;
        live = or_second (visited marks a) (isolated es a) q;
        least = λ j i o.
            ⊎_elim (λ lt. absurd (omega (arith, r.passed j lt i, m.counted j, m.bits j))) (λ ge. ge) (lt_or_ge j a);
      }

  pub tour_labelled : {a : ℕ} {marks : List ℕ} {ps : List Piece} {ls : List (List ℕ)}
      → Tour K ks es a marks ps ls → a ≤ length ks → Paired Labelled ls ps
  tour_labelled none h = nothing
  tour_labelled (passes t q) h = tour_labelled t (omega arith)
  tour_labelled (takes t q k) h = paired_snoc (tour_labelled t (omega arith)) (labelled t q k h)

  -- The labels of a run and their pieces.
  pub run_labelled : (a : ℕ) (h : a ≤ length ks) → Paired Labelled (run K ks es a).labels (run_tour K ks es a h).pieces
  run_labelled a h = tour_labelled (run_tour K ks es a h).tour h

  module _ {l : List ℕ} {p : Piece} (g : Labelled l p) where
    go_inside : {marks after m : List ℕ} {q : Piece} → Taken K ks es marks q after m → Inside (length ks) q.back × Inside (length ks) q.front
    go_inside (round t c e) = (trail_inside t, tt)
    go_inside (straight t c t₂ e) = (trail_inside t, trail_inside t₂)

    pub back_inside : Inside (length ks) p.back
    back_inside = (go_inside g.taken).0

    pub front_inside : Inside (length ks) p.front
    front_inside = (go_inside g.taken).1

    module _ (one : 1 ≤ K) (fit : fit_from K 0 ks ≡ true) (known : (v : ℕ) (s : Side) → v < length ks → edge es v s ≤ 5) where
      spelt : Spelt K ks p
      spelt = taken_spelt K ks es fit known g.taken g.stored_one

      small : get_or ks p.anchor 0 < 4 ^ K
      small = (key_at_lem K ks fit p.anchor g.stored_one).below

      -- The label is the smaller strand of its piece's text.
      pub label_text : l ≡ lesser (reading K ks p)
      label_text = taken_label K ks es fit known g.taken g.stored_one

      -- The text's letters are A, C, G and T, and its windows the piece's k-mers.
      pub reading_plain : Plain (reading K ks p)
      unfolding reading
      reading_plain =
          plain_append (reverse_complement (appended p.front)) (letters K (get_or ks p.anchor 0) ++ appended p.back)
          (plain_turned (appended p.front) (plain_codes (map (λ (q : Place). q.base) p.front) spelt.front_codes))
          (plain_append (letters K (get_or ks p.anchor 0)) (appended p.back) (plain_letters K (get_or ks p.anchor 0))
          (plain_codes (map (λ (q : Place). q.base) p.back) spelt.back_codes))

      pub text_windows : windows_of K (reading K ks p) ≡ read_kmers K ks p
      text_windows = reading_windows K ks p small one spelt

      -- The label has K letters, and one for each base that its walks appended.
      pub label_length : length l ≡ length p.front + (K + length p.back)
      label_length = ap length label_text ∙ lesser_length (reading K ks p) ∙ reading_length K ks p small

      -- Its windows are its walks' k-mers, on one strand, or all turned round.
      pub label_windows : (windows_of K l ≡ read_kmers K ks p) ⊎ (windows_of K l ≡ reverse (map (rc K) (read_kmers K ks p)))
      label_windows = ⊎_elim
          (λ e. inl (ap (windows_of K) (label_text ∙ e) ∙ text_windows))
          (λ e.
          let t = reading K ks p in
          let n : windows K (reverse_complement (reading K ks p)) ≡ windows K (reading K ks p) =
          ap (λ (m : ℕ). suc m - K) (length_reverse_complement (reading K ks p)) in
          inr (ap (windows_of K) (label_text ∙ e) ∙ ap (λ (m : ℕ). windows_from K m (reverse_complement t)) n
          ∙ windows_turned K one (windows K t) t (omega (arith, reading_length K ks p small)) (plain_bases t reading_plain)
          ∙ ap (λ (ws : List ℕ). reverse (map (rc K) ws)) text_windows))
          (lesser_cases (reading K ks p))
