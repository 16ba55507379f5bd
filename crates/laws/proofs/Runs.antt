-- The run of all anchors is a tour: what that says of its marks and labels. Assumes nothing.
use mathlib.Core.Path.{◌≡◌, refl, sym, ap, ◌∙◌, subst}
use mathlib.Core.Bool.{Bool, true, false, ◌||◌}
use mathlib.Core.List.{List, [], ◌∷◌, ◌++◌, map}
use Prim.Native.Nat.{ℕ, zero, suc, ◌≤◌}
use native.Mathlib.Omega.{arith}
use lib.ListN.{length, get_or, set, length-set}
use Rattle.dna.specs.Letters.{letter_of, reverse_complement}
use Rattle.kmer.specs.Kmer.{rc, letters}
use Rattle.state.specs.declared.Side.TheVariants.{Front, Back}
use Rattle.graph.specs.Walks.{Ends, Walk, walk, closed, visited, isolated}
use Rattle.graph.specs.Labels.{Run, lesser, label_of, extract, run}
use Rattle.laws.specs.Trails.{Place}
use Rattle.laws.specs.Tours.{Piece, in_pieces, Taken, Taken.round, Taken.straight, Tour, Tour.none, Tour.passes, Tour.takes}
use Rattle.laws.proofs.Fuel.{Went, walk_went, trail_long}
use Rattle.laws.proofs.Tours.{Toured, tour_toured}

module _ (K : ℕ) (ks : List ℕ) (es : List Ends) where
  -- What one anchor comes to.
  record Extracted (r r₂ : Run) (a : ℕ) : Type 0 where
    back : List Place
    front : List Place
    label : List ℕ
    taken : Taken K ks es r.marks (record { anchor = a; back = back; front = front }) r₂.marks label
    labels : r₂.labels ≡ r.labels ++ (label ∷ [])

  extracted : (r : Run) (a : ℕ) → length r.marks ≡ length ks → Extracted r (extract K ks es r a) a
  unfolding extract
  extracted r a l = go (closed b.last) refl
    where
      b : Walk
      b = walk K ks es a Back r.marks

      f : Walk
      f = walk K ks es a Front b.marks

      wb : Went K ks es a Back (set r.marks a 1) a Back b
      wb = walk_went K ks es a Back r.marks l

      wf : Went K ks es a Front (set b.marks a 1) a Front f
      wf = walk_went K ks es a Front b.marks (trail_long K ks es a Back wb.trail ∙ length-set r.marks a 1 ∙ l)

      go : (t : Bool) → closed b.last ≡ t → Extracted r (extract K ks es r a) a
      go true q = record {
        back = wb.places;
        front = [];
        label = label_of K ks es (get_or ks a 0) b f;
        taken = rw q (round wb.trail q (ap (λ (bs : List ℕ). lesser (letters K (get_or ks a 0) ++ map letter_of bs)) wb.bases));
        labels = refl;
      }
      go false q = record {
        back = wb.places;
        front = wf.places;
        label = label_of K ks es (get_or ks a 0) b f;
        taken = rw q
            (straight wb.trail q wf.trail
            (ap (λ (bs : List ℕ). lesser (reverse_complement (letters K (rc K (get_or ks a 0)) ++ map letter_of f.bases) ++ map letter_of bs))
            wb.bases
            ∙ ap (λ (fs : List ℕ). lesser (reverse_complement (letters K (rc K (get_or ks a 0)) ++ map letter_of fs)
            ++ map letter_of (map (λ (p : Place). p.base) wb.places))) wf.bases));
        labels = refl;
      }

  -- The pieces of the first so many anchors.
  pub record Run-tour (a : ℕ) : Type 0 where
    pub pieces : List Piece
    pub tour : Tour K ks es a (run K ks es a).marks pieces (run K ks es a).labels

  run_next : (a : ℕ) → suc a ≤ length ks → Run-tour a → Run-tour (suc a)
  unfolding run
  run_next a h ih = go (visited r.marks a || isolated es a) refl
    where
      r : Run
      r = run K ks es a

      x : Extracted r (extract K ks es r a) a
      x = extracted r a (tour_toured K ks es ih.tour (omega arith)).long

      go : (t : Bool) → (visited r.marks a || isolated es a) ≡ t → Run-tour (suc a)
      go true q = record { pieces = ih.pieces; tour = rw q (passes ih.tour q) }
      go false q =
          let p : Piece = record { anchor = a; back = x.back; front = x.front } in
          record {
            pieces = ih.pieces ++ (record { anchor = a; back = x.back; front = x.front } ∷ []);
            tour = rw q
                (subst (λ (ls : List (List ℕ)). Tour K ks es (suc a) (extract K ks es r a).marks (ih.pieces ++ (p ∷ [])) ls)
                (sym x.labels) (takes ih.tour q x.taken));
          }

  pub run_tour : (a : ℕ) → a ≤ length ks → Run-tour a
  unfolding run
  run_tour zero h = record { pieces = []; tour = none }
  run_tour (suc a) h = run_next a h (run_tour a (omega arith))

  -- The marks of the run: as many as there are keys, each how often its vertex stands in the pieces, which is 0 or 1, and 1 for
  -- each of these anchors that is not isolated.
  pub run_toured : (a : ℕ) (h : a ≤ length ks) → Toured K ks es a (run K ks es a).marks (run_tour a h).pieces
  run_toured a h = tour_toured K ks es (run_tour a h).tour h

  pub run_at_most_once : (a : ℕ) (h : a ≤ length ks) (v : ℕ) → in_pieces v (run_tour a h).pieces ≤ 1
  run_at_most_once a h v = let r = run_toured a h in omega (arith, r.bits v, r.counted v)
