-- A tour of the anchors visits no vertex twice, and each anchor that it has passed unless that is isolated. Assumes nothing.
use mathlib.Core.Path.{◌≡◌, refl, sym, ap, ◌∙◌}
use mathlib.Core.Bool.{false}
use mathlib.Core.Logic.{⊎_elim}
use mathlib.Core.List.{List, [], ◌∷◌, ◌++◌}
use Prim.Native.Nat.{ℕ, zero, suc, ◌+◌, ◌≤◌, ◌<◌}
use native.Mathlib.Nat.{eq-or-lt_of_le}
use native.Mathlib.Omega.{arith}
use lib.ListN.{length, get_or, set, replicate, length-set, length-replicate}
use borrow.Author.Tests.{eqb-true, eq-eqb}
use Rattle.lemmas.proofs.Tests.{never, or_first, or_cases}
use Rattle.state.specs.declared.Side.TheVariants.{Front, Back}
use Rattle.graph.specs.Walks.{Ends, visited, isolated}
use Rattle.laws.specs.Trails.{occ}
use Rattle.laws.specs.Tours.{Piece, in_piece, in_pieces, Taken, Taken.round, Taken.straight, Tour, Tour.none, Tour.passes, Tour.takes}
use Rattle.laws.proofs.Marks.{Bits, Marked, unmarked, set_same, set_adds, set_again, set_bits, trail_marked}

pub in_append : (v : ℕ) (ps qs : List Piece) → in_pieces v (ps ++ qs) ≡ in_pieces v ps + in_pieces v qs
unfolding in_pieces
in_append v [] qs = omega arith
in_append v (p ∷ ps) qs = omega (arith, in_append v ps qs)

-- A piece holds its anchor.
pub in_anchor : (p : Piece) (v : ℕ) → p.anchor ≡ v → 1 ≤ in_piece v p
unfolding in_piece
in_anchor p v e = rw (eq-eqb p.anchor v e) (omega arith)

zeros : (n i : ℕ) → get_or {A = ℕ} (replicate n 0) i 0 ≡ 0
zeros zero i = refl
zeros (suc n) zero = refl
zeros (suc n) (suc i) = zeros n i

module _ (K : ℕ) (ks : List ℕ) (es : List Ends) where
  -- The marks after one anchor, which was not visited.
  pub taken_marked : {marks after l : List ℕ} {p : Piece} → Taken K ks es marks p after l → p.anchor < length ks
      → length marks ≡ length ks → Bits marks → visited marks p.anchor ≡ false → Marked marks after (λ i. in_piece i p)
  unfolding in_piece occ
  taken_marked (round {marks = marks} {a = a} t c e) h l b f =
      let z = unmarked marks a b f in
      let la : a < length marks = omega arith in
      let n : length (set marks a 1) ≡ length marks = length-set marks a 1 in
      let r = trail_marked K ks es a Back t (omega arith) (set_bits marks a la b) in
      record { long = r.long ∙ n; bits = r.bits; counted = λ i. omega (arith, r.counted i, set_adds marks a i la z) }
  taken_marked (straight {marks = marks} {between = m} {a = a} {back = back} t c t₂ e) h l b f =
      let z = unmarked marks a b f in
      let la : a < length marks = omega arith in
      let n : length (set marks a 1) ≡ length marks = length-set marks a 1 in
      let r = trail_marked K ks es a Back t (omega arith) (set_bits marks a la b) in
      let lm : a < length m = omega (arith, r.long) in
      let n₂ : length (set m a 1) ≡ length m = length-set m a 1 in
      let o : get_or m a 0 ≡ 1 = omega (arith, r.bits a, r.counted a, set_same marks a a la refl) in
      let q = trail_marked K ks es a Front t₂ (omega (arith, r.long)) (set_bits m a lm r.bits) in
      record {
        long = q.long ∙ n₂ ∙ r.long ∙ n;
        bits = q.bits;
        counted = λ i. omega (arith, q.counted i, set_again m a i lm o, r.counted i, set_adds marks a i la z);
      }

  -- What the first so many anchors come to.
  pub record Toured (a : ℕ) (marks : List ℕ) (ps : List Piece) : Type 0 where
    pub long : length marks ≡ length ks
    pub bits : Bits marks
    pub counted : (i : ℕ) → get_or marks i 0 ≡ in_pieces i ps
    pub passed : (v : ℕ) → v < a → isolated es v ≡ false → get_or marks v 0 ≡ 1

  pub tour_toured : {a : ℕ} {marks : List ℕ} {ps : List Piece} {ls : List (List ℕ)} → Tour K ks es a marks ps ls → a ≤ length ks → Toured a marks ps
  unfolding in_pieces
  tour_toured none h = record {
    long = length-replicate (length ks) 0;
    bits = λ i. omega (arith, zeros (length ks) i);
    counted = λ i. zeros (length ks) i;
    passed = λ v l. absurd (omega arith);
  }
  tour_toured (passes {a = a} {marks = marks} t q) h =
      let r = tour_toured t (omega arith) in
      record {
        long = r.long;
        bits = r.bits;
        counted = r.counted;
        passed = λ v l i.
            ⊎_elim (λ e. let d : a ≡ v = omega arith in
            ⊎_elim (λ f. ap (λ (j : ℕ). get_or marks j 0) (sym d) ∙ eqb-true (get_or marks a 0) 1 f)
            (λ f. never (isolated es v) (ap (isolated es) (sym d) ∙ f) i) (or_cases (visited marks a) (isolated es a) q))
            (λ lt. r.passed v (omega arith) i) (eq-or-lt_of_le l);
      }
  tour_toured (takes {a = a} {marks = marks} {after = after} {ps = ps} {back = back} {front = front} t q k) h =
      let r = tour_toured t (omega arith) in
      let p : Piece = record { anchor = a; back = back; front = front } in
      let m = taken_marked k h r.long r.bits (or_first (visited marks a) (isolated es a) q) in
      record {
        long = m.long ∙ r.long;
        bits = m.bits;
        counted = λ i. omega (arith, m.counted i, r.counted i, in_append i ps (p ∷ []));
        passed = λ v l i.
            ⊎_elim (λ e. omega (arith, m.bits v, m.counted v, in_anchor p v (omega arith)))
            (λ lt. omega (arith, m.bits v, m.counted v, r.passed v (omega arith) i)) (eq-or-lt_of_le l);
      }
