-- Two vertices whose edge is the only one at both ends are neighbours in a label of the run, or its two ends. Assumes nothing.
use mathlib.Core.Path.{◌≡◌, refl, sym, ap, ap₂, ◌∙◌, subst}
use mathlib.Core.Bool.{true, false, and-false}
use mathlib.Core.Logic.{⊎_elim}
use mathlib.Core.List.{List, [], ◌∷◌, ◌++◌, map, reverse, reverse-cons, reverse-append, map-append, map-map}
use Prim.Native.Nat.{ℕ, ◌+◌, ◌≤◌, ◌<◌}
use native.Mathlib.Omega.{arith}
use lib.Dec.{eqb}
use lib.ListN.{length, get_or}
use Rattle.lemmas.proofs.Tests.{choose, or_first}
use Rattle.lemmas.proofs.Numbers.{lt_or_ge}
use Rattle.dna.specs.Order.{before}
use Rattle.kmer.specs.Kmer.{rc, canon}
use Rattle.state.specs.declared.Side.{Side}
use Rattle.state.specs.declared.Side.TheVariants.{Front, Back}
use Rattle.graph.specs.Table.{fit_from}
use Rattle.graph.specs.Walks.{Ends, edge, visited, isolated}
use Rattle.graph.specs.Labels.{run}
use Rattle.graph.specs.Contraction.{Entry, entries, put_in, sorted}
use Rattle.graph.proofs.Rank.{stored_lt}
use Rattle.laws.specs.Trails.{Place}
use Rattle.laws.specs.Tours.{Piece, in_pieces, kmers, read_kmers, Tour, Tour.none, Tour.passes, Tour.takes}
use Rattle.laws.specs.Windows.{windows_of}
use Rattle.laws.specs.Demand.{Some, Some.here, Some.there, in_order}
use Rattle.laws.specs.Neighbours.{Next, Next.now, Next.later}
use Rattle.laws.specs.Neighbours.{Together, Together.follows, Together.precedes, Together.two_ends, Together.ends_two}
use Rattle.laws.proofs.Steps.{ahead}
use Rattle.laws.proofs.Tours.{taken_marked, tour_toured}
use Rattle.laws.proofs.Runs.{run_tour, run_toured}
use Rattle.laws.proofs.Labelled.{Labelled, labelled, back_inside, front_inside, label_windows}
use Rattle.laws.proofs.Occurrences.{keys_at, canon_turned, canon_key, canon_kmers, kmers_small, text_small}
use Rattle.laws.proofs.Indexed.{labels_of}
use Rattle.laws.proofs.Leads.{vertices, Joined}
use Rattle.laws.proofs.Pieces.{path, next_reverse, taken_join}

-- ---- lists that are mapped or turned round

pub map_reverse : (f : ℕ → ℕ) (l : List ℕ) → map f (reverse l) ≡ reverse (map f l)
map_reverse f [] = refl
map_reverse f (x ∷ l) =
    ap (map f) (reverse-cons x l) ∙ map-append f (reverse l) (x ∷ []) ∙ ap (λ (z : List ℕ). z ++ (f x ∷ [])) (map_reverse f l)
    ∙ sym (reverse-cons (f x) (map f l))

next_map : (f : ℕ → ℕ) {x y : ℕ} {l : List ℕ} → Next x y l → Next (f x) (f y) (map f l)
next_map f now = now
next_map f (later n) = later (next_map f n)

together_map : (f : ℕ → ℕ) {x y : ℕ} {l : List ℕ} → Together x y l → Together (f x) (f y) (map f l)
together_map f (follows n) = follows (next_map f n)
together_map f (precedes n) = precedes (next_map f n)
together_map f {x} {y} (two_ends ms) = subst (λ (z : List ℕ). Together (f x) (f y) (f x ∷ z)) (sym (map-append f ms (y ∷ []))) (two_ends (map f ms))
together_map f {x} {y} (ends_two ms) = subst (λ (z : List ℕ). Together (f x) (f y) (f y ∷ z)) (sym (map-append f ms (x ∷ []))) (ends_two (map f ms))

ends_turned : (x y : ℕ) (ms : List ℕ) → reverse (x ∷ (ms ++ (y ∷ []))) ≡ y ∷ (reverse ms ++ (x ∷ []))
ends_turned x y ms = reverse-cons x (ms ++ (y ∷ [])) ∙ ap (λ (z : List ℕ). z ++ (x ∷ [])) (reverse-append ms (y ∷ []))

pub together_turned : {x y : ℕ} {l : List ℕ} → Together x y l → Together x y (reverse l)
together_turned (follows n) = precedes (next_reverse n)
together_turned (precedes n) = follows (next_reverse n)
together_turned {x} {y} (two_ends ms) = subst (Together x y) (sym (ends_turned x y ms)) (ends_two (reverse ms))
together_turned {x} {y} (ends_two ms) = subst (Together x y) (sym (ends_turned y x ms)) (two_ends (reverse ms))

module _ {A : Type 0} (P : A → Type 0) where
  some_left : {xs : List A} (ys : List A) → Some P xs → Some P (xs ++ ys)
  some_left ys (here p) = here p
  some_left ys (there s) = there (some_left ys s)

  some_last : (xs : List A) {x : A} → P x → Some P (xs ++ (x ∷ []))
  some_last [] p = here p
  some_last (y ∷ xs) p = there (some_last xs p)

-- One of some labels is one of those in the order of the index.
module _ (P : List ℕ → Type 0) where
  put_here : (e : Entry) (es : List Entry) → P e.label → Some P (labels_of (put_in e es))
  unfolding put_in
  put_here e [] p = here p
  put_here e (m ∷ es) p =
      let ih = put_here e es p in
      choose (λ (z : List Entry). Some P (labels_of z)) (before m.label e.label) (λ _. there ih) (λ _. here p)

  put_there : (e : Entry) (es : List Entry) → Some P (labels_of es) → Some P (labels_of (put_in e es))
  unfolding put_in
  put_there e [] s = elim s [ ]
  put_there e (m ∷ es) (here p) =
      choose (λ (z : List Entry). Some P (labels_of z)) (before m.label e.label) (λ _. here p) (λ _. there (here p))
  put_there e (m ∷ es) (there s) =
      let ih = put_there e es s in
      choose (λ (z : List Entry). Some P (labels_of z)) (before m.label e.label) (λ _. there ih) (λ _. there (there s))

  in_order_some : (at : ℕ) {ls : List (List ℕ)} → Some P ls → Some P (labels_of (sorted (entries at ls)))
  unfolding sorted entries
  in_order_some at (here {x = l} {xs = ls} p) = put_here (record { start = at; label = l }) (sorted (entries (at + length l) ls)) p
  in_order_some at (there {x = l} {xs = ls} s) =
      put_there (record { start = at; label = l }) (sorted (entries (at + length l) ls)) (in_order_some (at + length l) s)

-- ---- labels

module _ (K : ℕ) (ks : List ℕ) (es : List Ends) (one : 1 ≤ K) (fit : fit_from K 0 ks ≡ true)
    (known : (v : ℕ) (s : Side) → v < length ks → edge es v s ≤ 5) where
  abbrev key : ℕ → ℕ
  key v = get_or ks v 0

  -- The canonical forms of a piece's k-mers are the keys of its vertices.
  canon_path : {l : List ℕ} {p : Piece} → Labelled K ks es l p → map (canon K) (read_kmers K ks p) ≡ map key (path p)
  canon_path {p = p} g =
      let f = kmers K ks p.front in
      let flat : (ps : List Place) → keys_at K ks fit ps ≡ map key (vertices ps) = λ ps. sym (map-map key (λ (q : Place). q.vertex) ps) in
      let i = front_inside K ks es g in
      map-append (canon K) (reverse (map (rc K) f)) (key p.anchor ∷ kmers K ks p.back)
      ∙ ap₂ (λ (x y : List ℕ). x ++ y)
      (map_reverse (canon K) (map (rc K) f)
      ∙ ap (λ (z : List ℕ). reverse z) (canon_turned K f (kmers_small K ks fit p.front i) ∙ canon_kmers K ks fit p.front i ∙ flat p.front)
      ∙ sym (map_reverse key (vertices p.front)))
      (ap₂ (λ (y : ℕ) (ys : List ℕ). y ∷ ys) (canon_key K ks fit p.anchor g.stored_one)
      (canon_kmers K ks fit p.back (back_inside K ks es g) ∙ flat p.back))
      ∙ sym (map-append key (reverse (vertices p.front)) (p.anchor ∷ vertices p.back))

  -- u and v stand together in a label.
  abbrev pub Beside : ℕ → ℕ → List ℕ → Type 0
  Beside u v l = Together (get_or ks u 0) (get_or ks v 0) (map (canon K) (windows_of K l))

  label_together : {l : List ℕ} {p : Piece} → Labelled K ks es l p → (u v : ℕ) → Together u v (path p) → Beside u v l
  label_together {p = p} g u v t =
      let k : Together (key u) (key v) (map (canon K) (read_kmers K ks p)) =
      subst (Together (key u) (key v)) (sym (canon_path g)) (together_map key t) in
      ⊎_elim
      (λ q. subst (λ (ws : List ℕ). Together (key u) (key v) (map (canon K) ws)) (sym q) k)
      (λ q. subst (Together (key u) (key v))
      (sym (ap (map (canon K)) q ∙ map_reverse (canon K) (map (rc K) (read_kmers K ks p))
      ∙ ap (λ (z : List ℕ). reverse z) (canon_turned K (read_kmers K ks p) (text_small K ks es one fit known g))))
      (together_turned k))
      (label_windows K ks es g one fit known)

  module _ {u v : ℕ} {s e : Side} (j : Joined K ks es u s v e) where
    tour_join : {a : ℕ} {marks : List ℕ} {ps : List Piece} {ls : List (List ℕ)} → Tour K ks es a marks ps ls → a ≤ length ks
        → 1 ≤ get_or marks u 0 + get_or marks v 0 → Some (Beside u v) ls
    unfolding in_pieces
    tour_join none h o = let r = tour_toured K ks es none h in absurd (omega (arith, r.counted u, r.counted v))
    tour_join (passes t q) h o = tour_join t (omega arith) o
    tour_join (takes {a = a} {marks = marks} {ls = ls} {l = l} t q k) h o =
        let r = tour_toured K ks es t (omega arith) in
        let m = taken_marked K ks es k h r.long r.bits (or_first (visited marks a) (isolated es a) q) in
        ⊎_elim
        (λ lt.
        let zu : get_or marks u 0 ≡ 0 = omega arith in
        let zv : get_or marks v 0 ≡ 0 = omega arith in
        some_last (Beside u v) ls
        (label_together (labelled K ks es t q k h) u v
        (taken_join K ks es j k h r.long r.bits zu zv (omega (arith, m.counted u, m.counted v)))))
        (λ ge. some_left (Beside u v) (l ∷ []) (tour_join t (omega arith) ge))
        (lt_or_ge (get_or marks u 0 + get_or marks v 0) 1)

    joined_live : isolated es u ≡ false
    joined_live = side s j.out.some
      where
        side : (t : Side) → eqb (edge es u t) 5 ≡ false → isolated es u ≡ false
        side Front q = rw q
        side Back q = rw q (and-false (eqb (edge es u Front) 5))

    pub run_joined : Some (Beside u v) (in_order (run K ks es (length ks)))
    run_joined =
        let l : length ks ≤ length ks = omega arith in
        let lu : u < length ks = rw j.home.vertex at (stored_lt ks (canon K (ahead K ks es v e)) j.home.found) in
        in_order_some (Beside u v) 0
        (tour_join (run_tour K ks es (length ks) l).tour l (omega (arith, (run_toured K ks es (length ks) l).passed u lu joined_live)))
