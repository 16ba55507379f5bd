-- A k-mer that was looked up, and what its tests tell. Assumes nothing.
use Prim.Native.Nat.{ℕ, ◌+◌, ◌-◌, ◌%◌, ◌^◌, ◌≤◌, ◌<◌, min}
use mathlib.Core.Path.{◌≡◌, refl, sym, ap, ap₂, ◌∙◌, subst}
use mathlib.Core.Bool.{Bool, true, false, cond, ◌&&◌}
use mathlib.Core.List.{List}
use native.Mathlib.Omega.{arith}
use borrow.Author.Tests.{ltb-true, ltb-false, le-ltb, le-leb, lt-leb}
use lib.Dec.{ltb}
use lib.ListN.{length, get_or, take, drop}
use Rattle.std.proofs.Common.{Result, Ok, Err}
use Rattle.lemmas.proofs.Tests.{choose}
use Rattle.kmer.specs.Kmer.{ok_k, rc, canon, is_canon, forward}
use Rattle.kmer.specs.Calls.{pack_call, reverse_call, forward_call}
use Rattle.kmer.specs.Says.{value_of, kmer_of, Answers}
use Rattle.kmer.specs.declared.Kmer.{Kmer}
use Rattle.kmer.specs.declared.KmerError.{KmerError}
use Rattle.kmer.proofs.Wide.{value_back}
use Rattle.kmer.proofs.Strands.{rc_rc, canon_rc, forward_lt}
use Rattle.kmer.proofs.Turned.{rc_lt}
use Rattle.kmer.proofs.Given.{kmer_given, roll_given}
use Rattle.state.specs.declared.Side.{Side}
use Rattle.state.specs.declared.Side.TheVariants.{Front, Back}
use Rattle.state.specs.Counted.{opposite}
use Rattle.kmer.proofs.Windows.{Bases}
use Rattle.graph.specs.Table.{rank, stored}
use Rattle.graph.specs.Sightings.{window}
use Rattle.graph.proofs.Adding.{window_lt}
use Rattle.graph.proofs.Packed.{window_packed}
use Rattle.graph.specs.Walks.{Ends, edge, leaving, entrance}
use Rattle.laws.specs.Demand.{retained}
use Rattle.laws.proofs.Sides.{leaving_lt}
use Rattle.directory.specs.Directory.{find_by}
use Rattle.marks.specs.Marks.{end_in, ends}
use Rattle.marks.proofs.Marking.{edge_is}
use Rattle.rules.specs.Verdict.{leads_to, after, exit, is_step, apart, loose_end}
use Rattle.judging.proofs.Finding.{at_is, gap_is, at_lt}
use Rattle.judging.specs.declared.Seen.{Seen}
use Rattle.marks.specs.Ready.{keys_for, Ready}
use Rattle.judging.specs.Says.{Sees, Kmers, turned_of, exit_of, after_of, leads_by, step_by, lesser_of}

-- The smaller of a k-mer and its reverse complement is its canonical form.
lesser_canon : (K : ℕ) (here other : Kmer) (x : ℕ) → value_of here ≡ x → value_of other ≡ rc K x
    → lesser_of here other ≡ canon K x
unfolding canon
lesser_canon K here other x p q =
    ap₂ (λ (a b : ℕ). cond (ltb a b) a b) q p
    ∙ choose (λ (z : ℕ). z ≡ min x (rc K x)) (ltb (rc K x) x) (λ e. omega (arith, ltb-true (rc K x) x e))
    (λ e. omega (arith, ltb-false (rc K x) x e))

-- A call that is not refused, unwrapped.
pub unwrapped : {r : Result Kmer KmerError} {x : Kmer} {n : ℕ} → r ≡ Ok (kmer_of n) → r ≡ Ok x → value_of x ≡ n
unwrapped {x = x} {n} p q = let e : x ≡ kmer_of n = cc in value_back n e

-- The reverse complement of a k-mer.
pub turned_is : (K : ℕ) → ok_k K ≡ true → (x : Kmer) → value_of x < 4 ^ K
    → {r : Result Kmer KmerError} → Answers r (reverse_call K (value_of x)) → r ≡ Ok (kmer_of (rc K (value_of x)))
turned_is K ok x l t = kmer_given K (value_of x) ok l (rc K (value_of x)) t

-- A window packed from its own part of a label.
module _ (K : ℕ) (ok : ok_k K ≡ true) (label : List ℕ) (bases : Bases label) (o : ℕ) (h : o + K ≤ length label)
    {r : Result Kmer KmerError} (read : Answers r (pack_call K (take (o + K - o) (drop o label)))) where
  pub window_read : r ≡ Ok (kmer_of (window K label o))
  window_read =
      let e : o + K - o ≡ K = omega arith in
      window_packed K ok label bases o h (rw e at read)

  pub window_value : {x : Kmer} → r ≡ Ok x → value_of x ≡ window K label o
  window_value q = unwrapped window_read q

  pub window_small : {x : Kmer} → r ≡ Ok x → value_of x < 4 ^ K
  window_small q = rw (window_value q) (window_lt K label o bases h)

-- ---- looking up

module _ {K : ℕ} {keys ms : List ℕ} (r : Ready K keys ms) (x : Kmer) (l : value_of x < 4 ^ K)
    (y : Kmer) (turned : value_of y ≡ rc K (value_of x)) (c : Kmer) (smaller : value_of c ≡ lesser_of x y)
    (cells : List ℕ) {f : Result ℕ ℕ} (ended : f ≡ find_by K (keys_for ms keys) cells (value_of c)) where
  abbrev ks : List ℕ
  ks = keys_for ms keys

  canon_is : value_of c ≡ canon K (value_of x)
  canon_is = smaller ∙ lesser_canon K x y (value_of x) refl turned

  pub seen_at : {w : ℕ} → f ≡ Ok w
      → Sees K ks (ends ms) (value_of x) (record { here = x; other = y; mark = get_or ms w 0 })
  unfolding retained
  seen_at {w} e =
      let p : (stored ks (canon K (value_of x)) ≡ true) × (rank ks (canon K (value_of x)) ≡ w) =
      rw canon_is at (at_is r cells (value_of c) ended e) in
      let q = at_lt r cells (value_of c) ended e in
      record { below = l; here = refl; other = turned; edges = λ s. sym (edge_is ms w q s) ∙ rw (p.0, p.1) }

  pub seen_gap : {w : ℕ} → f ≡ Err w → Sees K ks (ends ms) (value_of x) (record { here = x; other = y; mark = 45 })
  unfolding retained
  seen_gap e =
      let p : stored ks (canon K (value_of x)) ≡ false = rw canon_is at (gap_is r cells (value_of c) ended e) in
      record { below = l; here = refl; other = turned; edges = λ s. none s ∙ sym (rw p) }
    where
      none : (s : Side) → end_in 45 s ≡ 5
      none Front = refl
      none Back = refl

-- ---- tests

-- A roll by a base.
pub rolled_is : (K : ℕ) (x : Kmer) → ok_k K ≡ true → value_of x < 4 ^ K → (b : ℕ) → b < 4 → {r : Result Kmer KmerError}
    → Answers r (forward_call K (value_of x) b) → r ≡ Ok (kmer_of (forward K (value_of x) b))
rolled_is K x ok l b h t = roll_given K (value_of x) ok l b (forward K (value_of x) b) h t

pub after_is : (K : ℕ) (x : Seen) (s : Side) → Kmers K x → {b c : ℕ} → b ≡ end_in x.mark s → end_in x.mark s < 4
    → c ≡ leaving s (b % 4)
    → {r : Result Kmer KmerError} → Answers r (forward_call K (value_of x.here) c) → r ≡ Ok (kmer_of (after_of K x s))
after_is K x s k {b} {c} e l f t =
    let q : b % 4 ≡ end_in x.mark s = omega arith in
    let g : c ≡ leaving s (end_in x.mark s) = f ∙ ap (leaving s) q in
    let m : c < 4 = subst (λ (z : ℕ). z < 4) (sym g) (leaving_lt s (end_in x.mark s) l) in
    rolled_is K x.here k.ok k.here c m t ∙ ap (λ (z : ℕ). Ok (kmer_of (forward K (value_of x.here) z))) g

pub kmers_turned : {K : ℕ} {y z : Seen} → z ≡ turned_of y → Kmers K y → Kmers K z
kmers_turned e k = rw e (record { ok = k.ok; here = k.other; other = k.here })

-- ---- what the tests tell of a k-mer that was looked up

module _ {K : ℕ} {ks : List ℕ} {es : List Ends} where
  pub sees_kmers : {x : ℕ} {s : Seen} → ok_k K ≡ true → Sees K ks es x s → Kmers K s
  sees_kmers {x} ok g = record { ok = ok; here = rw g.here g.below; other = rw g.other (rc_lt K x) }

  pub sees_exit : {x : ℕ} {s : Seen} → Sees K ks es x s → exit_of s ≡ exit K ks es x
  unfolding is_canon
  sees_exit {x} {s} g =
      ap₂ (λ (p q : ℕ). cond (ltb p q) Front Back) g.other g.here
      ∙ choose (λ (z : Side). z ≡ opposite (cond (is_canon K x) Front Back)) (ltb (rc K x) x)
      (λ q. rw (lt-leb x (rc K x) (ltb-true (rc K x) x q))) (λ q. rw (le-leb x (rc K x) (ltb-false (rc K x) x q)))

  pub sees_turned : {x : ℕ} {s : Seen} → Sees K ks es x s → Sees K ks es (rc K x) (turned_of s)
  unfolding retained
  sees_turned {x} g = record {
    below = rc_lt K x;
    here = g.other;
    other = g.here ∙ sym (rc_rc K x g.below);
    edges = λ t. g.edges t ∙ ap (λ (z : ℕ). cond (stored ks z) (edge es (rank ks z) t) 5) (sym (canon_rc K x g.below));
  }

  sees_leads : {x : ℕ} {s : Seen} → Sees K ks es x s → (t u : Side) → t ≡ u → (y z : ℕ) → y ≡ z
      → leads_by K s t y ≡ leads_to K ks es x u z
  unfolding leads_to
  sees_leads g t u e y z q = rw (e, q, g.edges u, g.here)

  pub sees_step : {x y : ℕ} {s t : Seen} → Sees K ks es x s → Sees K ks es y t → step_by K s t ≡ is_step K ks es x y
  sees_step {x} {y} {s} {t} g h =
      let e : opposite (exit_of t) ≡ entrance K y = ap opposite (sees_exit h) ∙ twice (entrance K y) in
      ap₂ (λ (a b : Bool). a && b)
      (sees_leads g (exit_of s) (exit K ks es x) (sees_exit g) (value_of t.here) y h.here)
      (sees_leads (sees_turned h) (opposite (exit_of t)) (entrance K y) e (value_of s.other) (rc K x) g.other)
    where
      twice : (s : Side) → opposite (opposite s) ≡ s
      twice Front = refl
      twice Back = refl

  sees_canon : {x : ℕ} {s : Seen} → Sees K ks es x s → lesser_of s.here s.other ≡ canon K x
  sees_canon {x} {s} g = lesser_canon K s.here s.other x g.here g.other

-- ---- an end

pub after_small : (K : ℕ) {v : ℕ} (x : Seen) (s : Side) → v ≡ after_of K x s → v < 4 ^ K
after_small K x s e = subst (λ (n : ℕ). n < 4 ^ K) (sym e)
    (forward_lt K (value_of x.here) (leaving s (end_in x.mark s)))

module _ {K : ℕ} {ks : List ℕ} {es : List Ends} (f x : Seen) (n m : ℕ) (gf : Sees K ks es n f) (gx : Sees K ks es m x)
    {s : Side}
    (es-is : s ≡ exit_of x)
    {b : ℕ} (eb : b ≡ end_in x.mark s) where
  side_is : s ≡ exit K ks es m
  side_is = es-is ∙ sees_exit gx

  pub loose_none : 3 < b → false ≡ loose_end K ks es n m
  unfolding loose_end leads_to
  loose_none h =
      let e : ltb (retained K ks es m (exit K ks es m)) 4 ≡ false =
      le-ltb (retained K ks es m (exit K ks es m)) 4
      (omega (arith, ap (retained K ks es m) (sym side_is), gx.edges s)) in
      rw e

  after_value : (z : Kmer) → value_of z ≡ after_of K x s → value_of z ≡ after K ks es m (exit K ks es m)
  after_value z e = e ∙ ap₂ (λ (p q : ℕ). forward K p q) gx.here
      (ap₂ leaving side_is (gx.edges s ∙ ap (retained K ks es m) side_is))

  module _ (z : Kmer) (ez : value_of z ≡ after_of K x s) (y : Seen) (gy : Sees K ks es (value_of z) y) {r : Bool}
      (er : r ≡ step_by K x y) where
    step_is : r ≡ is_step K ks es m (after K ks es m (exit K ks es m))
    step_is = er ∙ sees_step gx gy ∙ ap (is_step K ks es m) (after_value z ez)

    pub loose_no : r ≡ false → r ≡ loose_end K ks es n m
    unfolding loose_end
    loose_no h = let e : is_step K ks es m (after K ks es m (exit K ks es m)) ≡ false =
        sym step_is ∙ h in h ∙ sym (rw e)

    pub loose_on : r ≡ true → {p q t : ℕ} → p ≡ lesser_of x.here x.other → q ≡ lesser_of y.here y.other → t
        ≡ lesser_of f.here f.other → {d : Bool} → d ≡ apart K p q t → d ≡ loose_end K ks es n m
    unfolding loose_end
    loose_on h {p} {q} {t} ep eq et {d} ed =
        let e : is_step K ks es m (after K ks es m (exit K ks es m)) ≡ true = sym step_is ∙ h in
        let cp : p ≡ canon K m = ep ∙ sees_canon gx in
        let cq : q ≡ canon K (after K ks es m (exit K ks es m)) =
        eq ∙ sees_canon gy ∙ ap (canon K) (after_value z ez) in
        let ct : t ≡ canon K n = et ∙ sees_canon gf in
        ed ∙ ap₂ (λ (u v : ℕ). apart K u v t) cp cq
        ∙ ap (apart K (canon K m) (canon K (after K ks es m (exit K ks es m)))) ct
        ∙ sym (rw e)
