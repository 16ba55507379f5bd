-- Windows in a row and on the other strand, their ends, and where a step leads. Assumes nothing.
use Prim.Native.Nat.{ℕ, ◌%◌, ◌≤◌, ◌<◌}
use mathlib.Core.Path.{◌≡◌, refl, sym, ap, ap₂, ◌∙◌, subst}
use mathlib.Core.Bool.{true}
use mathlib.Core.List.{List, [], ◌∷◌, ◌++◌, map, reverse, reverse-reverse}
use native.Mathlib.Omega.{arith}
use borrow.Author.Tests.{eq-eqb}
use lib.ListN.{length, get_or, drop}
use Rattle.kmer.specs.Kmer.{rc, canon, forward}
use Rattle.state.specs.declared.Side.{Side}
use Rattle.state.specs.Counted.{opposite}
use Rattle.state.proofs.Slots.{opposite_opposite}
use Rattle.graph.specs.Table.{fit_from}
use Rattle.graph.specs.Walks.{Ends, edge, seen, leaving}
use Rattle.laws.specs.Windows.{tally}
use Rattle.laws.specs.Neighbours.{Next, Next.now, Next.later, Together, Together.follows, Together.precedes, Together.two_ends, Together.ends_two}
use Rattle.laws.proofs.Pieces.{next_reverse}
use Rattle.laws.proofs.Neighbours.{map_reverse, together_turned}
use Rattle.laws.proofs.Windows.{Small}
use Rattle.laws.proofs.Occurrences.{canon_turned, tally_reverse}
use Rattle.rules.specs.Rules.{Step, Steps}
use Rattle.rules.specs.Verdict.{last_of}
use Rattle.rules.proofs.Telling.{seen_turned, seen_one}
use Rattle.rules.proofs.Stepping.{next_long}

-- ---- rows of numbers

pub last_stands : (x : ℕ) (xs : List ℕ) → 1 ≤ tally (last_of (x ∷ xs)) (x ∷ xs)
unfolding tally last_of
last_stands x [] = rw (eq-eqb x x refl) (omega arith)
last_stands x (y ∷ ys) = omega (arith, last_stands y ys)

pub last_map : (f : ℕ → ℕ) (x : ℕ) (xs : List ℕ) → last_of (map f (x ∷ xs)) ≡ f (last_of (x ∷ xs))
unfolding last_of
last_map f x [] = refl
last_map f x (y ∷ ys) = last_map f y ys

pub last_on : (x : ℕ) (xs : List ℕ) → 1 ≤ length xs → last_of (x ∷ xs) ≡ last_of xs
unfolding last_of
last_on x [] h = absurd (omega arith)
last_on x (y ∷ ys) h = refl

pub last_snoc : (x : ℕ) (xs : List ℕ) (b : ℕ) → last_of (x ∷ (xs ++ (b ∷ []))) ≡ b
unfolding last_of
last_snoc x [] b = refl
last_snoc x (y ∷ ys) b = last_snoc y ys b

-- A row of two or more: its first, what stands between, and its last.
split_last : (y : ℕ) (ys : List ℕ) → (ms : List ℕ) × (y ∷ ys ≡ ms ++ (last_of (y ∷ ys) ∷ []))
unfolding last_of
split_last y [] = ([], refl)
split_last y (z ∷ zs) = let r = split_last z zs in (y ∷ r.0, ap (λ (l : List ℕ). y ∷ l) r.1)

-- The two ends stand together.
pub ends_together : (a b : ℕ) (zs : List ℕ) → 1 ≤ length zs → get_or zs 0 0 ≡ a → last_of zs ≡ b → (a ≡ b → ⊥) → Together b a zs
unfolding last_of
ends_together a b [] h p q d = absurd (omega arith)
ends_together a b (z ∷ []) h p q d = absurd (d (sym p ∙ q))
ends_together a b (z ∷ w ∷ ws) h p q d =
    let r = split_last w ws in
    rw (p, r.1, q) (ends_two r.0)

-- What is followed and stands last stands twice.
next_last : {a b : ℕ} (zs : List ℕ) → Next a b zs → last_of zs ≡ a → 2 ≤ tally a zs
unfolding tally last_of
next_last [] n q = elim n [ ]
next_last (a ∷ b ∷ zs) now q = rw (eq-eqb a a refl) (let t : 1 ≤ tally a (b ∷ zs) = subst (λ (n : ℕ). 1 ≤ tally n (b ∷ zs)) q (last_stands b zs) in omega arith)
next_last (z ∷ []) (later n) q = absurd (let k = next_long n in omega arith)
next_last (z ∷ w ∷ ws) (later n) q = omega (arith, next_last (w ∷ ws) n q)

-- Two numbers do not stand together where the one stands last, the other not first, and not before the one.
pub not_together : {a b : ℕ} {zs : List ℕ} → Together a b zs → last_of zs ≡ a → (get_or zs 0 0 ≡ b → ⊥) → tally a zs ≤ 1 → (a ≡ b → ⊥)
    → (Next b a zs → ⊥) → ⊥
not_together (follows {zs = zs} n) q f t d k = omega (arith, next_last zs n q)
not_together (precedes n) q f t d k = k n
not_together {a} {b} (two_ends ms) q f t d k = d (sym q ∙ last_snoc a ms b)
not_together (ends_two ms) q f t d k = f refl

-- ---- the other strand

abbrev Mapped : (ℕ → ℕ) → ℕ → ℕ → List ℕ → Type 0
Mapped f p q ws = (x : ℕ) × (y : ℕ) × Next x y ws × (f x ≡ p) × (f y ≡ q)

unmap : (f : ℕ → ℕ) {p q : ℕ} {zs : List ℕ} (ws : List ℕ) → Next p q zs → zs ≡ map f ws → Mapped f p q ws
unmap f [] now e = absurd (let n = ap length e in omega arith)
unmap f (x ∷ []) now e = absurd (let n = ap length e in omega arith)
unmap f (x ∷ y ∷ ws) now e = (x, y, now, sym (ap (λ (l : List ℕ). get_or l 0 0) e), sym (ap (λ (l : List ℕ). get_or l 1 0) e))
unmap f [] (later n) e = absurd (let n = ap length e in omega arith)
unmap f (z ∷ ws) (later n) e = let r = unmap f ws n (ap (drop 1) e) in (r.0, r.1, later r.2, r.3, r.4)

pub next_unmap : (f : ℕ → ℕ) {p q : ℕ} (ws : List ℕ) → Next p q (map f ws) → Mapped f p q ws
next_unmap f ws n = unmap f ws n refl

next_unturn : {x y : ℕ} (ws : List ℕ) → Next x y (reverse ws) → Next y x ws
next_unturn {x} {y} ws n = subst (Next y x) (reverse-reverse ws) (next_reverse n)

module _ (K : ℕ) where
  -- Windows on the other strand.
  abbrev pub turned : List ℕ → List ℕ
  turned ws = reverse (map (rc K) ws)

  pub turned_kmers : (ws : List ℕ) → Small K ws → map (canon K) (turned ws) ≡ reverse (map (canon K) ws)
  turned_kmers ws s = map_reverse (canon K) (map (rc K) ws) ∙ ap (λ (z : List ℕ). reverse z) (canon_turned K ws s)

  pub turned_together : {a b : ℕ} (ws : List ℕ) → Small K ws → Together a b (map (canon K) (turned ws)) → Together a b (map (canon K) ws)
  turned_together {a} {b} ws s t =
      subst (Together a b) (ap (λ (z : List ℕ). reverse z) (turned_kmers ws s) ∙ reverse-reverse (map (canon K) ws)) (together_turned t)

  pub turned_tally : (x : ℕ) (ws : List ℕ) → Small K ws → tally x (map (canon K) (turned ws)) ≡ tally x (map (canon K) ws)
  turned_tally x ws s = tally_reverse x (canon K) (map (rc K) ws) ∙ ap (tally x) (canon_turned K ws s)

module _ (K : ℕ) (ks : List ℕ) (es : List Ends) (fit : fit_from K 0 ks ≡ true) where
  pub step_turned : {x y : ℕ} → Step K ks es x y → Step K ks es (rc K y) (rc K x)
  step_turned g = record {
    from = g.to;
    out = g.into;
    to = g.from;
    into = g.out;
    from_stored = g.to_stored;
    to_stored = g.from_stored;
    leaves = ap (seen K ks g.to) (sym (opposite_opposite g.into))
        ∙ seen_turned K ks es fit g.to (opposite g.into) g.to_stored
        ∙ ap (rc K) g.arrives;
    arrives = seen_turned K ks es fit g.from g.out g.from_stored ∙ ap (rc K) g.leaves;
    sole = record {
      at_u = g.sole.at_v;
      at_v = g.sole.at_u;
      joins = record { there = g.sole.joins.back; back = g.sole.joins.there };
    };
  }

  moved : {a b c d : ℕ} → a ≡ c → b ≡ d → Step K ks es a b → Step K ks es c d
  moved {b = b} {c = c} p q g = subst (Step K ks es c) q (subst (λ (x : ℕ). Step K ks es x b) p g)

  pub steps_turned : (ws : List ℕ) → Steps K ks es ws → Steps K ks es (turned K ws)
  steps_turned ws f a b n =
      let r = next_unmap (rc K) ws (next_unturn (map (rc K) ws) n) in
      moved r.4 r.3 (step_turned (f r.0 r.1 r.2))

  module _ (odd : K % 2 ≡ 1) where
    -- From vertex u, seen so that it is left by side s, a step leads where its edge does,
    pub step_out : {x y : ℕ} → Step K ks es x y → (u : ℕ) (s : Side) → u < length ks → x ≡ seen K ks u s
        → y ≡ forward K (seen K ks u s) (leaving s (edge es u s))
    step_out g u s h e =
        let i = seen_one K ks es fit odd g.from u g.out s g.from_stored h (g.leaves ∙ e) in
        sym g.arrives ∙ sym g.sole.joins.there
        ∙ ap₂ (λ (j : ℕ) (r : Side). forward K (seen K ks j r) (leaving r (edge es j r))) i.0 i.1

    -- and to vertex v it leads from where the edge on its other side does.
    pub step_in_lem : {x y : ℕ} → Step K ks es x y → (v : ℕ) (r : Side) → v < length ks → y ≡ seen K ks v r
        → rc K x ≡ forward K (seen K ks v (opposite r)) (leaving (opposite r) (edge es v (opposite r)))
    step_in_lem {x} {y} g v r h e =
        step_out (step_turned g) v (opposite r) h (ap (rc K) e ∙ sym (seen_turned K ks es fit v r h))
