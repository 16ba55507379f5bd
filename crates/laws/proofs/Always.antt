-- All of demand 3 but its last sentence holds of the labels of every fit table. Assumes nothing.
use mathlib.Core.Path.{◌≡◌, refl, sym, ◌∙◌, subst}
use mathlib.Core.Bool.{true, false}
use mathlib.Core.Logic.{⊎_elim, inl, inr}
use mathlib.Core.List.{List, ◌∷◌}
use Prim.Native.Nat.{ℕ, ◌≤◌, ◌<◌}
use native.Mathlib.Omega.{arith}
use lib.ListN.{length, get_or}
use borrow.Author.Tests.{ltb-false}
use Rattle.dna.specs.Letters.{reverse_complement}
use Rattle.dna.specs.Order.{before}
use Rattle.kmer.specs.Kmer.{rc}
use Rattle.state.specs.declared.Side.{Side}
use Rattle.state.specs.declared.Side.TheVariants.{Front, Back}
use Rattle.graph.specs.Table.{fit_from}
use Rattle.graph.specs.Walks.{Ends, edge}
use Rattle.graph.specs.Labels.{run}
use Rattle.graph.proofs.Fit.{fit_after}
use Rattle.graph.proofs.Lookup.{rank_at}
use Rattle.laws.specs.Tours.{Piece, kmers, reading, Taken, Taken.round, Taken.straight}
use Rattle.laws.specs.Windows.{occurs, Plain}
use Rattle.laws.specs.Demand.{Each, Each.none, Each.more, Outward, Outward.stays, in_order, FromSmallest, HoldsLive, Always}
use Rattle.laws.proofs.Tours.{in_anchor}
use Rattle.laws.proofs.Labelled.{Paired, Paired.nothing, Paired.pair, Labelled, run_labelled, label_text, reading_plain, text_windows}
use Rattle.laws.proofs.Occurrences.{label_occurs, exactly_once, never_twice}
use Rattle.laws.proofs.Plain.{plain_turned, lesser_cases, lesser_least}
use Rattle.laws.proofs.Indexed.{sorted_occurrences, in_order_each, in_order_ascend}
use Rattle.laws.proofs.Outward.{trail_outward}

pub paired_each : {A B : Type 0} {R : A → B → Type 0} {P : A → Type 0} → ((x : A) (y : B) → R x y → P x)
    → {xs : List A} {ys : List B} → Paired R xs ys → Each P xs
paired_each f nothing = none
paired_each f (pair {x = x} {y = y} r p) = more (f x y r) (paired_each f p)

module _ (K : ℕ) (ks : List ℕ) (es : List Ends) (one : 1 ≤ K) (fit : fit_from K 0 ks ≡ true)
    (known : (v : ℕ) (s : Side) → v < length ks → edge es v s ≤ 5) where
  -- Keys stand in ascending order.
  keys_rise : (u v : ℕ) → u ≤ v → v < length ks → get_or ks u 0 ≤ get_or ks v 0
  keys_rise u v l h =
      ltb-false (get_or ks v 0) (get_or ks u 0) (fit_after K 0 ks (get_or ks u 0) fit v (omega (arith, rank_at K 0 ks fit u (omega arith))) h)

  -- Every label holds its anchor, which is not isolated.
  anchor_occurs : {l : List ℕ} {p : Piece} → Labelled K ks es l p → 1 ≤ occurs K (get_or ks p.anchor 0) l
  anchor_occurs {p = p} g = omega (arith, label_occurs K ks es one fit known g p.anchor g.stored_one, in_anchor p p.anchor refl)

  label_least : {l : List ℕ} {p : Piece} → Labelled K ks es l p → before (reverse_complement l) l ≡ false
  label_least {p = p} g =
      let e = label_text K ks es g one fit known in
      subst (λ (z : List ℕ). before (reverse_complement z) z ≡ false) (sym e)
      (lesser_least (reading K ks p) (reading_plain K ks es g one fit known))

  label_plain : {l : List ℕ} {p : Piece} → Labelled K ks es l p → Plain l
  label_plain {p = p} g =
      let r = reading_plain K ks es g one fit known in
      subst Plain (sym (label_text K ks es g one fit known)) (⊎_elim (λ q. subst Plain (sym q) r)
      (λ q. subst Plain (sym q) (plain_turned (reading K ks p) r)) (lesser_cases (reading K ks p)))

  taken_outward : {marks after l : List ℕ} {p : Piece} → Taken K ks es marks p after l → p.anchor < length ks
      → Outward K ks es Back (get_or ks p.anchor 0 ∷ kmers K ks p.back)
      × Outward K ks es Front (rc K (get_or ks p.anchor 0) ∷ kmers K ks p.front)
  taken_outward (round t c e) h = (trail_outward K ks es fit known t h, stays)
  taken_outward (straight t c t₂ e) h = (trail_outward K ks es fit known t h, trail_outward K ks es fit known t₂ h)

  from_smallest : {l : List ℕ} {p : Piece} → Labelled K ks es l p → FromSmallest K ks es l
  from_smallest {l} {p} g =
      let e = label_text K ks es g one fit known in
      let o = taken_outward g.taken g.stored_one in
      record {
        reading = reading K ks p;
        strand = ⊎_elim (λ q. inl (e ∙ q)) (λ q. inr (e ∙ q)) (lesser_cases (reading K ks p));
        smallest = p.anchor;
        stored_one = g.stored_one;
        not_isolated = g.live;
        least = λ v h i q. keys_rise p.anchor v (g.least v i (omega (arith, label_occurs K ks es one fit known g v h))) h;
        left = kmers K ks p.front;
        right = kmers K ks p.back;
        stands = text_windows K ks es g one fit known;
        rightward = o.0;
        leftward = o.1;
      }

  -- No label is above its reverse complement.
  pub run_least : (a : ℕ) → a ≤ length ks → Each (λ (m : List ℕ). before (reverse_complement m) m ≡ false) (run K ks es a).labels
  run_least a h = paired_each (λ m p g. label_least g) (run_labelled K ks es a h)

  -- Every label holds a k-mer that is not isolated.
  pub run_live : (a : ℕ) → a ≤ length ks → Each (HoldsLive K ks es) (run K ks es a).labels
  run_live a h =
      paired_each
      (λ m p g. record { vertex = p.anchor; stored_one = g.stored_one; not_isolated = g.live; holds = anchor_occurs g })
      (run_labelled K ks es a h)

  -- Of the labels of the run, in the order of the index.
  pub always : Always K ks es (in_order (run K ks es (length ks)))
  always =
      let ls = (run K ks es (length ks)).labels in
      let l : length ks ≤ length ks = omega arith in
      let r = run_labelled K ks es (length ks) l in
      record {
        exactly_once = λ v h i. sorted_occurrences K (get_or ks v 0) 0 ls ∙ exactly_once K ks es one fit known v h i;
        never_twice = λ x. omega (arith, sorted_occurrences K x 0 ls, never_twice K ks es one fit known (length ks) l x);
        ascend = in_order_ascend K ls (never_twice K ks es one fit known (length ks) l)
            (paired_each (λ m p g. (get_or ks p.anchor 0, anchor_occurs g)) r);
        none_above = in_order_each (λ (m : List ℕ). before (reverse_complement m) m ≡ false) (run_least (length ks) l);
        outward = in_order_each (FromSmallest K ks es) (paired_each (λ m p g. from_smallest g) r);
        letters = in_order_each Plain (paired_each (λ m p g. label_plain g) r);
      }
