-- How often a k-mer occurs in the labels of a run: as often as its vertex stands in their pieces, which its mark tells.
-- Assumes nothing.
use mathlib.Core.Path.{◌≡◌, refl, sym, ap, ap₂, ◌∙◌, subst}
use mathlib.Core.Bool.{true, false, cond}
use mathlib.Core.Logic.{⊎_elim}
use mathlib.Core.List.{List, [], ◌∷◌, ◌++◌, map, reverse, reverse-cons, map-append}
use Prim.Native.Nat.{ℕ, ◌+◌, ◌^◌, ◌≤◌, ◌<◌}
use native.Mathlib.Omega.{arith}
use lib.Dec.{eqb}
use lib.ListN.{length, get_or}
use borrow.Author.Tests.{eqb-true, eqb-false, eq-eqb, ne_eqb}
use Rattle.lemmas.proofs.Tests.{never}
use Rattle.lemmas.proofs.Numbers.{true_or_false}
use Rattle.kmer.specs.Kmer.{rc, canon}
use Rattle.kmer.proofs.Strands.{canon_rc, canon_of_canonical}
use Rattle.state.specs.declared.Side.{Side}
use Rattle.graph.specs.Table.{fit_from, rank, stored}
use Rattle.graph.specs.Walks.{Ends, edge, seen, isolated}
use Rattle.graph.specs.Labels.{run}
use Rattle.graph.specs.Sightings.{windows}
use Rattle.graph.proofs.Rank.{stored_lt, stored_at}
use Rattle.graph.proofs.Lookup.{key_at_lem, at_stored, key_inj}
use Rattle.laws.specs.Trails.{Place, occ}
use Rattle.laws.specs.Tours.{Piece, in_piece, in_pieces, kmers, reading, read_kmers}
use Rattle.laws.specs.Windows.{tally, occurs, occurrences}
use Rattle.laws.proofs.Sides.{seen_is}
use Rattle.laws.proofs.Windows.{Small, windows_small}
use Rattle.laws.proofs.Odd as odd
use Rattle.laws.proofs.Readings.{reading_length}
use Rattle.laws.proofs.Runs.{run_toured, run_at_most_once}
use Rattle.laws.proofs.Labelled.{Paired, Paired.nothing, Paired.pair, Inside, Labelled}
use Rattle.laws.proofs.Labelled.{run_labelled, back_inside, front_inside, reading_plain, text_windows, label_windows}
use Rattle.laws.proofs.Plain.{plain_bases}

-- ---- counting in lists

pub tally_append : (x : ℕ) (s t : List ℕ) → tally x (s ++ t) ≡ tally x s + tally x t
unfolding tally
tally_append x [] t = omega arith
tally_append x (y ∷ s) t = omega (arith, tally_append x s t)

pub tally_reverse : (x : ℕ) (f : ℕ → ℕ) (s : List ℕ) → tally x (map f (reverse s)) ≡ tally x (map f s)
unfolding tally
tally_reverse x f [] = refl
tally_reverse x f (y ∷ s) =
    ap (λ (z : List ℕ). tally x (map f z)) (reverse-cons y s) ∙ ap (tally x) (map-append f (reverse s) (y ∷ []))
    ∙ tally_append x (map f (reverse s)) (f y ∷ []) ∙ omega (arith, tally_reverse x f s)

-- ---- k-mers

module _ (K : ℕ) where
  pub canon_turned : (xs : List ℕ) → Small K xs → map (canon K) (map (rc K) xs) ≡ map (canon K) xs
  canon_turned [] h = refl
  canon_turned (x ∷ xs) h = ap₂ (λ (y : ℕ) (ys : List ℕ). y ∷ ys) (canon_rc K x h.0) (canon_turned xs h.1)

module _ (K : ℕ) (ks : List ℕ) (fit : fit_from K 0 ks ≡ true) where
  -- The keys of a walk's places.
  abbrev pub keys_at : List Place → List ℕ
  keys_at ps = map (λ (p : Place). get_or ks p.vertex 0) ps

  pub canon_key : (v : ℕ) → v < length ks → canon K (get_or ks v 0) ≡ get_or ks v 0
  canon_key v h = canon_of_canonical K (get_or ks v 0) (key_at_lem K ks fit v h).canonical

  pub canon_seen : (v : ℕ) (s : Side) → v < length ks → canon K (seen K ks v s) ≡ get_or ks v 0
  canon_seen v s h = ap (canon K) (seen_is K ks v s) ∙ odd.canon_seen K (get_or ks v 0) s (key_at_lem K ks fit v h)

  pub seen_lt : (v : ℕ) (s : Side) → v < length ks → seen K ks v s < 4 ^ K
  seen_lt v s h = rw (seen_is K ks v s) (odd.seen_lt K (get_or ks v 0) s (key_at_lem K ks fit v h))

  pub canon_kmers : (ps : List Place) → Inside (length ks) ps → map (canon K) (kmers K ks ps) ≡ keys_at ps
  canon_kmers [] i = refl
  canon_kmers (p ∷ ps) i = ap₂ (λ (y : ℕ) (ys : List ℕ). y ∷ ys) (canon_seen p.vertex p.exit i.0) (canon_kmers ps i.1)

  pub kmers_small : (ps : List Place) → Inside (length ks) ps → Small K (kmers K ks ps)
  kmers_small [] i = tt
  kmers_small (p ∷ ps) i = (seen_lt p.vertex p.exit i.0, kmers_small ps i.1)

  -- Two keys are the same where their vertices are.
  key_test : (u v : ℕ) → u < length ks → v < length ks → eqb (get_or ks u 0) (get_or ks v 0) ≡ eqb u v
  key_test u v hu hv =
      ⊎_elim (λ e. eq-eqb _ _ (ap (λ (i : ℕ). get_or ks i 0) (eqb-true u v e)) ∙ sym e)
      (λ e. ne_eqb _ _ (λ q. eqb-false u v e (key_inj K ks fit u v hu hv q)) ∙ sym e) (true_or_false (eqb u v))

  tally_keys : (v : ℕ) → v < length ks → (ps : List Place) → Inside (length ks) ps → tally (get_or ks v 0) (keys_at ps) ≡ occ v ps
  unfolding tally occ
  tally_keys v h [] i = refl
  tally_keys v h (p ∷ ps) i = rw (key_test p.vertex v i.0 h, tally_keys v h ps i.1)

  apart : (x : ℕ) → stored ks x ≡ false → (u : ℕ) → u < length ks → eqb (get_or ks u 0) x ≡ false
  apart x s u h = ne_eqb _ x (λ e. never (stored ks x) (ap (stored ks) (sym e) ∙ at_stored K ks fit u h) s)

  tally_none : (x : ℕ) → stored ks x ≡ false → (ps : List Place) → Inside (length ks) ps → tally x (keys_at ps) ≡ 0
  unfolding tally
  tally_none x s [] i = refl
  tally_none x s (p ∷ ps) i = rw (apart x s p.vertex i.0) (omega (arith, tally_none x s ps i.1))

module _ (K : ℕ) (ks : List ℕ) (es : List Ends) (one : 1 ≤ K) (fit : fit_from K 0 ks ≡ true)
    (known : (v : ℕ) (s : Side) → v < length ks → edge es v s ≤ 5) where
  module _ {l : List ℕ} {p : Piece} (g : Labelled K ks es l p) where
    abbrev key : ℕ
    key = get_or ks p.anchor 0

    pub text_small : Small K (read_kmers K ks p)
    text_small =
        subst (Small K) (text_windows K ks es g one fit known)
        (windows_small K (windows K (reading K ks p)) (reading K ks p) one
        (omega (arith, reading_length K ks p (key_at_lem K ks fit p.anchor g.stored_one).below))
        (plain_bases (reading K ks p) (reading_plain K ks es g one fit known)))

    -- Either strand counts alike.
    label_tally : (x : ℕ) → occurs K x l ≡ tally x (map (canon K) (read_kmers K ks p))
    label_tally x = ⊎_elim
        (λ e. ap (λ (ws : List ℕ). tally x (map (canon K) ws)) e)
        (λ e. ap (λ (ws : List ℕ). tally x (map (canon K) ws)) e ∙ tally_reverse x (canon K) (map (rc K) (read_kmers K ks p))
        ∙ ap (tally x) (canon_turned K (read_kmers K ks p) text_small))
        (label_windows K ks es g one fit known)

    piece_tally : (x : ℕ) → tally x (map (canon K) (read_kmers K ks p))
        ≡ tally x (keys_at K ks fit p.front) + (cond (eqb (get_or ks p.anchor 0) x) 1 0 + tally x (keys_at K ks fit p.back))
    unfolding tally
    piece_tally x =
        let f = kmers K ks p.front in
        ap (tally x) (map-append (canon K) (reverse (map (rc K) f)) (key ∷ kmers K ks p.back))
        ∙ tally_append x (map (canon K) (reverse (map (rc K) f))) (map (canon K) (key ∷ kmers K ks p.back))
        ∙ ap₂ ◌+◌
        (tally_reverse x (canon K) (map (rc K) f)
        ∙ ap (tally x) (canon_turned K f (kmers_small K ks fit p.front (front_inside K ks es g))
        ∙ canon_kmers K ks fit p.front (front_inside K ks es g)))
        (ap₂ (λ (y : ℕ) (ys : List ℕ). tally x (y ∷ ys)) (canon_key K ks fit p.anchor g.stored_one)
        (canon_kmers K ks fit p.back (back_inside K ks es g)))

    -- A key occurs in a label as often as its vertex stands in the piece.
    pub label_occurs : (v : ℕ) → v < length ks → occurs K (get_or ks v 0) l ≡ in_piece v p
    unfolding in_piece
    label_occurs v h =
        label_tally (get_or ks v 0) ∙ piece_tally (get_or ks v 0)
        ∙ rw (key_test K ks fit p.anchor v g.stored_one h)
        (omega (arith, tally_keys K ks fit v h p.front (front_inside K ks es g), tally_keys K ks fit v h p.back (back_inside K ks es g)))

    label_none : (x : ℕ) → stored ks x ≡ false → occurs K x l ≡ 0
    label_none x s =
        label_tally x ∙ piece_tally x ∙ rw (apart K ks fit x s p.anchor g.stored_one)
        (omega (arith, tally_none K ks fit x s p.front (front_inside K ks es g), tally_none K ks fit x s p.back (back_inside K ks es g)))

  labels_occurs : {ls : List (List ℕ)} {ps : List Piece} → Paired (Labelled K ks es) ls ps → (v : ℕ) → v < length ks
      → occurrences K (get_or ks v 0) ls ≡ in_pieces v ps
  unfolding occurrences in_pieces
  labels_occurs nothing v h = refl
  labels_occurs (pair g q) v h = ap₂ ◌+◌ (label_occurs g v h) (labels_occurs q v h)

  labels_none : {ls : List (List ℕ)} {ps : List Piece} → Paired (Labelled K ks es) ls ps → (x : ℕ) → stored ks x ≡ false → occurrences K x ls ≡ 0
  unfolding occurrences
  labels_none nothing x s = refl
  labels_none (pair g q) x s = ap₂ ◌+◌ (label_none g x s) (labels_none q x s)

  -- ---- of a run

  -- A vertex's mark is how often its k-mer occurs in the labels.
  pub mark_occurs : (a : ℕ) → a ≤ length ks → (v : ℕ) → v < length ks
      → get_or (run K ks es a).marks v 0 ≡ occurrences K (get_or ks v 0) (run K ks es a).labels
  mark_occurs a h v l = (run_toured K ks es a h).counted v ∙ sym (labels_occurs (run_labelled K ks es a h) v l)

  -- Every k-mer with an edge occurs exactly once.
  pub exactly_once : (v : ℕ) → v < length ks → isolated es v ≡ false
      → occurrences K (get_or ks v 0) (run K ks es (length ks)).labels ≡ 1
  exactly_once v l i = sym (mark_occurs (length ks) (omega arith) v l) ∙ (run_toured K ks es (length ks) (omega arith)).passed v l i

  -- No k-mer occurs twice.
  pub never_twice : (a : ℕ) → a ≤ length ks → (x : ℕ) → occurrences K x (run K ks es a).labels ≤ 1
  never_twice a h x = ⊎_elim
      (λ s. omega (
        arith,
        ap (λ (y : ℕ). occurrences K y (run K ks es a).labels) (stored_at ks x s),
        labels_occurs (run_labelled K ks es a h) (rank ks x) (stored_lt ks x s),
        run_at_most_once K ks es a h (rank ks x),
      ))
      (λ s. omega (arith, labels_none (run_labelled K ks es a h) x s)) (true_or_false (stored ks x))
