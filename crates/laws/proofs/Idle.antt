-- Three tests of the Rust that change nothing, over every fit table, hand-made ones too: `extend` compares the k-mer that a walk goes
-- on to with its anchor, and `normalize_unitigs` canonicalises each label again and drops duplicates. Assumes nothing.
use mathlib.Core.Path.{◌≡◌, refl, sym, ap, ◌∙◌}
use mathlib.Core.Bool.{true}
use mathlib.Core.List.{List, [], ◌∷◌}
use Prim.Native.Nat.{ℕ, ◌≤◌, ◌<◌}
use native.Mathlib.Omega.{arith}
use lib.ListN.{length, get_or, set}
use Rattle.lemmas.proofs.Tests.{never}
use Rattle.dna.specs.Text.{bytes, open_text}
use Rattle.dna.specs.Letters.{open_letters}
use Rattle.dna.specs.Order.{open_order}
use Rattle.kmer.specs.Kmer.{ok_k}
use Rattle.kmer.proofs.Bounds.{ok_bounds}
use Rattle.state.specs.declared.Side.{Side}
use Rattle.state.specs.Counted.{Kind}
use Rattle.graph.specs.declared.Step.{Step}
use Rattle.graph.specs.Table.{table_of, keys_of, fit_from, fit}
use Rattle.graph.specs.Walks.{Ends, edge, visited, walk}
use Rattle.graph.specs.Labels.{lesser, run, open_labels}
use Rattle.graph.specs.Contraction.{ends_in}
use Rattle.graph.proofs.Lookup.{key_inj}
use Rattle.graph.proofs.Labels.{lesser_kept}
use Rattle.graph.proofs.Accepted.{fit_length}
use Rattle.laws.specs.Trails.{Place, Trail, Trail.ends, Trail.goes}
use Rattle.laws.specs.Windows.{occurs, occurrences, Plain}
use Rattle.laws.specs.Demand.{Each, Each.none, Each.more}
use Rattle.laws.proofs.Steps.{came, came_lt}
use Rattle.laws.proofs.Marks.{visited_now, visited_still}
use Rattle.laws.proofs.Fuel.{Went, walk_went}
use Rattle.laws.proofs.Plain.{lesser_least}
use Rattle.laws.proofs.Occurrences.{never_twice}
use Rattle.laws.proofs.Indexed.{Some-kmer}
use Rattle.laws.proofs.Apart.{Apart, Apart.alone, Apart.beside, each_map, apart_at}
use Rattle.laws.proofs.Always.{run_least, run_live}
use Rattle.laws.proofs.Fits.{keys_fit, edges_known}

-- ---- a walk whose anchor is visited: a step leads on only to a vertex that is not

module _ (K : ℕ) (ks : List ℕ) (es : List Ends) (sound : fit_from K 0 ks ≡ true) (a : ℕ) (start : Side) (h : a < length ks) where
  trail_elsewhere : {marks after : List ℕ} {v : ℕ} {s : Side} {ps : List Place} {st : Step} → Trail K ks es a start marks v s ps after st
      → visited marks a ≡ true → Each (λ (p : Place). get_or ks p.vertex 0 ≡ get_or ks a 0 → ⊥) ps
  trail_elsewhere (ends e n) i = none
  trail_elsewhere (goes {marks = marks} {v = v} {u = u} {s = s} e t) i =
      let c = came K ks es a start marks v s e in
      more
      (λ q. never (visited marks a) i (ap (visited marks) (sym (key_inj K ks sound u a (came_lt K ks es c) h q)) ∙ c.fresh))
      (trail_elsewhere t (visited_still marks u a i))

-- ---- the smaller strand, canonicalised again

-- A text of A, C, G and T: that changes nothing.
pub lesser_again : (l : List ℕ) → Plain l → lesser (lesser l) ≡ lesser l
lesser_again l p = sym (lesser_kept (lesser l) (lesser_least l p))

-- A text of other letters may change: the reverse complement of a is T, and that of T is A.
pub again_not_plain : (lesser (bytes "a") ≡ bytes "T") × (lesser (bytes "T") ≡ bytes "A")
unfolding open_text open_letters open_order open_labels
again_not_plain = (refl, refl)

-- ---- labels that each have a k-mer, of which none occurs twice

absent : (K x : ℕ) (ls : List (List ℕ)) → occurrences K x ls ≡ 0 → Each (λ l. occurs K x l ≡ 0) ls
unfolding occurrences
absent K x [] h = none
absent K x (l ∷ ls) h = let z : occurs K x l ≡ 0 = omega arith in more z (absent K x ls (omega arith))

all_apart : (K : ℕ) {ls : List (List ℕ)} → ((x : ℕ) → occurrences K x ls ≤ 1) → Each (Some-kmer K) ls → Apart (λ l. l) ls
unfolding occurrences
all_apart K t none = alone
all_apart K t (more {x = l} {xs = ls} s e) =
    beside {x = l}
    (each_map (λ m h q. omega (arith, s.1, ap (occurs K s.0) q)) (absent K s.0 ls (omega (arith, t s.0, s.1))))
    (all_apart K (λ x. omega (arith, t x)) e)

module _ (K : ℕ) (ks : List ℕ) (es : List Ends) (one : 1 ≤ K) (sound : fit_from K 0 ks ≡ true)
    (known : (v : ℕ) (s : Side) → v < length ks → edge es v s ≤ 5) where
  pub run_apart : (a : ℕ) → a ≤ length ks → Apart (λ l. l) (run K ks es a).labels
  run_apart a h = all_apart K (never_twice K ks es one sound known a h) (each_map (λ l g. (_, g.holds)) (run_live K ks es one sound known a h))

-- ---- every fit table, for any K from 1 to 63, any kind of counter and any cutoff

module _ (κ : Kind) (K cutoff n : ℕ) (keys counts : List ℕ) (ok : ok_k K ≡ true) (f : fit K n keys counts ≡ true) where
  abbrev ks : List ℕ
  ks = keys_of n keys

  abbrev es : List Ends
  es = ends_in κ cutoff (table_of n keys counts)

  abbrev labels : List (List ℕ)
  labels = (run K ks es n).labels

  size : length ks ≡ n
  size = fit_length K n keys counts f

  one : 1 ≤ K
  one = (ok_bounds K ok).0

  -- Whatever is marked when a walk from anchor a begins, its steps that lead on lead to k-mers other than the anchor's.
  pub never_to_anchor : (a : ℕ) (start : Side) (marks : List ℕ) → a < n → length marks ≡ n
      → (w : Went K ks es a start (set marks a 1) a start (walk K ks es a start marks))
      × Each (λ (p : Place). get_or ks p.vertex 0 ≡ get_or ks a 0 → ⊥) w.places
  never_to_anchor a start marks h l =
      let w = walk_went K ks es a start marks (l ∙ sym size) in
      (w, trail_elsewhere K ks es (keys_fit κ K cutoff n keys counts f) a start (omega (arith, size)) w.trail (visited_now marks a (omega arith)))

  -- Each label of the run is the smaller of its strands already,
  pub labels_lesser : Each (λ (l : List ℕ). lesser l ≡ l) labels
  labels_lesser =
      each_map (λ l h. sym (lesser_kept l h))
      (run_least K ks es one (keys_fit κ K cutoff n keys counts f) (edges_known κ K cutoff n keys counts f) n (omega (arith, size)))

  -- and no two are the same.
  pub labels_differ : (i j : ℕ) → i < j → j < length labels → get_or labels i [] ≡ get_or labels j [] → ⊥
  labels_differ i j l h e =
      let a = run_apart K ks es one (keys_fit κ K cutoff n keys counts f) (edges_known κ K cutoff n keys counts f) n (omega (arith, size)) in
      omega (arith, apart_at a [] i j (omega arith) h e)
