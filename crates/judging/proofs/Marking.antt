-- A k-mer that stands is marked, and its edges are told. Assumes nothing.
use Prim.Native.Nat.{ℕ, ◌+◌, ◌%◌}
use mathlib.Core.Path.{◌≡◌, refl, sym, ap, ap₂, ◌∙◌, subst}
use mathlib.Core.Bool.{Bool, true, false, not, ◌&&◌, ◌||◌}
use mathlib.Core.List.{List}
use native.Mathlib.Omega.{arith}
use borrow.Author.Tests.{ltb-true, ltb-false, le-leb, lt-leb, not-false}
use lib.Dec.{ltb}
use lib.ListN.{get_or, set}
use Rattle.lemmas.proofs.Tests.{both, never, or_first}
use Rattle.kmer.specs.Kmer.{rc, canon, is_canon}
use Rattle.kmer.specs.Says.{value_of}
use Rattle.kmer.specs.declared.Kmer.{Kmer}
use Rattle.state.specs.declared.Side.{Side}
use Rattle.state.specs.declared.Side.TheVariants.{Front, Back}
use Rattle.state.specs.Counted.{opposite}
use Rattle.graph.specs.Table.{rank, stored}
use Rattle.graph.specs.Sightings.{window}
use Rattle.graph.specs.Walks.{Ends, edge, isolated, visited, leaving}
use Rattle.std.proofs.Common.{Result, Ok, Err}
use Rattle.directory.specs.Directory.{find_by}
use Rattle.marks.specs.Marks.{end_in, ends, visits}
use Rattle.marks.proofs.Marking.{edge_is, visits_marking, ends_marking}
use Rattle.laws.specs.Demand.{retained}
use Rattle.rules.specs.Verdict.{is_live, exit}
use Rattle.marks.specs.Ready.{keys_for, Ready}
use Rattle.judging.proofs.Finding.{at_is, gap_is, at_lt}
use Rattle.judging.specs.declared.Tested.{Tested}
use Rattle.judging.specs.declared.Tested.TheVariants as tested
use Rattle.judging.specs.Standing.{followed, preceded, joined_by, is_misplaced, Marked, TestsKmer, TestsWindow}

module _ {K : ℕ} {keys ms : List ℕ} (r : Ready K keys ms) (cells : List ℕ) (c : ℕ) {f : Result ℕ ℕ}
    (ended : f ≡ find_by K (keys_for ms keys) cells c) where
  abbrev ks : List ℕ
  ks = keys_for ms keys

  marked_gap : {w : ℕ} → f ≡ Err w → Marked K keys ms c true ms
  unfolding is_live
  marked_gap e = record {
    told = sym (rw
        (gap_is r cells c ended e));
    ends_kept = refl;
    marked = λ h. never true refl h;
  }

  module _ {w : ℕ} (e : f ≡ Ok w) {s : Bool} (q : s ≡ (visited (visits ms) w || isolated (ends ms) w)) where
    wrong_is : (not (is_live K ks (ends ms) c) || visited (visits ms) (rank ks c))
        ≡ (not (not (isolated (ends ms) w)) || visited (visits ms) w)
    unfolding is_live
    wrong_is = let p = at_is r cells c ended e in rw (p.0, p.1)

    turn : (a b : Bool) → (not (not a) || b) ≡ (b || a)
    turn true true = refl
    turn true false = refl
    turn false true = refl
    turn false false = refl

    told_is : s ≡ (not (is_live K ks (ends ms) c) || visited (visits ms) (rank ks c))
    told_is = q ∙ sym (wrong_is ∙ turn (isolated (ends ms) w) (visited (visits ms) w))

    marked_skipped : s ≡ true → Marked K keys ms c true ms
    marked_skipped h = record { told = sym h ∙ told_is; ends_kept = refl; marked = λ z. never true refl z }

    marked_now : s ≡ false → Marked K keys ms c false (set ms w (get_or ms w 0 % 64 + 64))
    marked_now h = record {
      told = sym h ∙ told_is;
      ends_kept = ends_marking ms w;
      marked = λ _. visits_marking ms w ∙ ap (λ (v : ℕ). set (visits ms) v 1) (sym (at_is r cells c ended e).1);
    }

-- ---- with its edges

joined_alike : (K : ℕ) (label : List ℕ) (o : ℕ) (s : Side) (f g : Side → ℕ) → ((t : Side) → f t ≡ g t)
    → joined_by K label o s f
    ≡ joined_by K label o s g
joined_alike K label o s f g h =
    ap₂ (λ (a b : ℕ). followed K label o (leaving s a) && preceded label o (leaving (opposite s) b)) (h s)
    (h (opposite s))

module _ {K : ℕ} {keys ms : List ℕ} (r : Ready K keys ms) (cells label : List ℕ) (o c : ℕ) (side : Side)
    {f : Result ℕ ℕ}
    (ended : f ≡ find_by K (keys_for ms keys) cells c) where
  pub kmer_gap : {w : ℕ} → f ≡ Err w → TestsKmer K keys ms label o c side tested.Misplaced ms
  kmer_gap e = record { placed = marked_gap r cells c ended e; joined = λ h. never true refl h }

  module _ {w : ℕ} (e : f ≡ Ok w) {s : Bool} (q : s ≡ (visited (visits ms) w || isolated (ends ms) w)) where
    pub kmer_skipped : s ≡ true → TestsKmer K keys ms label o c side tested.Misplaced ms
    kmer_skipped h = record { placed = marked_skipped r cells c ended e q h; joined = λ z. never true refl z }

    module _ (n : s ≡ false) {t : Bool} (told : t ≡ joined_by K label o side (end_in (get_or ms w 0))) where
      edges_are : t ≡ joined_by K label o side (edge (ends ms) (rank (keys_for ms keys) c))
      edges_are =
          told ∙ joined_alike K label o side (end_in (get_or ms w 0)) (edge (ends ms) (rank (keys_for ms keys) c))
          (λ u. sym (ap (λ (v : ℕ). edge (ends ms) v u) (at_is r cells c ended e).1
          ∙ edge_is ms w (at_lt r cells c ended e) u))

      pub kmer_fine : t ≡ true → TestsKmer K keys ms label o c side tested.Fine (set ms w (get_or ms w 0 % 64 + 64))
      kmer_fine h = record { placed = marked_now r cells c ended e q n; joined = λ _. ap not (sym h ∙ edges_are) }

      pub kmer_bad : t ≡ false → TestsKmer K keys ms label o c side tested.BadStep (set ms w (get_or ms w 0 % 64 + 64))
      kmer_bad h = record { placed = marked_now r cells c ended e q n; joined = λ _. ap not (sym h ∙ edges_are) }

-- The canonical form of a window, and the side by which it is left, by the order of its strands.
module _ (K : ℕ) (ks : List ℕ) (es : List Ends) (x : ℕ) where
  turned_smaller : ltb (rc K x) x ≡ true → (rc K x ≡ canon K x) × (Front ≡ exit K ks es x)
  unfolding canon is_canon
  turned_smaller h = let l = ltb-true (rc K x) x h in (omega arith, rw (lt-leb x (rc K x) l))

  here_smaller : ltb (rc K x) x ≡ false → (x ≡ canon K x) × (Back ≡ exit K ks es x)
  unfolding canon is_canon
  here_smaller h = let l = ltb-false (rc K x) x h in (omega arith, rw (le-leb x (rc K x) l))

window_tested : (K : ℕ) (keys ms label : List ℕ) (o : ℕ) {c : ℕ} {s : Side} {r : Tested} {after : List ℕ}
    → TestsKmer K keys ms label o c s r after
    → c ≡ canon K (window K label o) → s ≡ exit K (keys_for ms keys) (ends ms) (window K label o)
    → TestsWindow K keys ms label o r after
unfolding is_live retained
window_tested K keys ms label o {c} {s} {r} {after} t ec es =
    let ks = keys_for ms keys in
    let x = window K label o in
    record {
      placed = subst (λ (z : ℕ). Marked K keys ms z (is_misplaced r) after) ec t.placed;
      joined = λ h.
          let live = not-false (is_live K ks (ends ms) c)
          (or_first (not (is_live K ks (ends ms) c)) (visited (visits ms) (rank ks c)) (sym t.placed.told ∙ h)) in
          let st : stored ks (canon K x) ≡ true = ap (stored ks) (sym ec)
          ∙ (both (stored ks c) (not (isolated (ends ms) (rank ks c))) live).0 in
          t.joined h
          ∙ ap (λ (u : Side). not (joined_by K label o u (edge (ends ms) (rank ks c)))) es
          ∙ ap not (joined_alike K label o (exit K ks (ends ms) x) (edge (ends ms) (rank ks c))
          (retained K ks (ends ms) x)
          (λ u. ap (λ (z : ℕ). edge (ends ms) (rank ks z) u) ec ∙ sym (rw st)));
    }

-- A window that was read, turned and compared with its other strand, of which the smaller was tested.
module _ (K : ℕ) (keys ms label : List ℕ) (o : ℕ) (x y : Kmer) (here : value_of x ≡ window K label o)
    (turned : value_of y ≡ rc K (value_of x)) {less : Bool} (compared : less ≡ ltb (value_of y) (value_of x)) where
  other : value_of y ≡ rc K (window K label o)
  other = turned ∙ ap (rc K) here

  by_strands : ltb (rc K (window K label o)) (window K label o) ≡ less
  by_strands = sym (compared ∙ ap₂ ltb other here)

  pub turned_tested : less ≡ true → {r : Tested} {after : List ℕ}
      → TestsKmer K keys ms label o (value_of y) Front r after
      → TestsWindow K keys ms label o r after
  turned_tested q t =
      let told = turned_smaller K (keys_for ms keys) (ends ms) (window K label o) (by_strands ∙ q) in
      window_tested K keys ms label o t (other ∙ told.0) told.1

  pub here_tested : less ≡ false → {r : Tested} {after : List ℕ} → TestsKmer K keys ms label o (value_of x) Back r after
      → TestsWindow K keys ms label o r after
  here_tested q t =
      let told = here_smaller K (keys_for ms keys) (ends ms) (window K label o) (by_strands ∙ q) in
      window_tested K keys ms label o t (here ∙ told.0) told.1
