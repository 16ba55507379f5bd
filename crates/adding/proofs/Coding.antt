-- The number that holds a window's two neighbours: it is below 64, both are read back from it, and in a label of bases neither is N.
-- Assumes nothing.
use mathlib.Core.Path.{◌≡◌, sym, ◌∙◌}
use mathlib.Core.List.{List}
use Prim.Native.Nat.{ℕ, zero, suc, ◌+◌, ◌-◌, ◌*◌, ◌/◌, ◌%◌, ◌≤◌, ◌<◌}
use native.Mathlib.Omega.{arith}
use lib.Dec.{ltb}
use lib.ListN.{length, get_or}
use borrow.Author.Tests.{ltb-true}
use Rattle.lemmas.proofs.Tests.{choose}
use Rattle.dna.specs.Letters.{code_of, complement}
use Rattle.dna.proofs.Letters.{code_le}
use Rattle.kmer.specs.Kmer.{is_canon}
use Rattle.kmer.proofs.Windows.{Bases, bases_at}
use Rattle.state.specs.Counted.{Kind, counted}
use Rattle.state.specs.declared.Side.TheVariants.{Front, Back}
use Rattle.graph.specs.Sightings.{Rule, window, predecessor, successor}
use Rattle.adding.specs.Batch.{code_at, counted_by}
use Rattle.adding.specs.Says.{Coded}

-- What holds of E and of each base holds of a window's neighbours, as they are and turned, if it holds of the two letters beside it.
module _ (P : ℕ → Type 0) (none : P 5) (base : (c : ℕ) → c < 4 → P c) where
  turned : (c : ℕ) → P c → P (complement c)
  unfolding complement
  turned c p = choose P (ltb c 4) (λ _. base (3 - c) (omega arith)) (λ _. p)

  module _ (K : ℕ) (label : List ℕ) where
    before_one : (rule : Rule) (o : ℕ) → ((j : ℕ) → j < o → P (code_of (get_or label j 0))) → P (predecessor rule K label o)
    unfolding predecessor
    before_one rule zero b = none
    before_one rule (suc j) b =
        choose P (rule K (window K label j) (window K label (suc j))) (λ _. none) (λ _. b j (omega arith))

    after_one : (o : ℕ) → (o + K < length label → P (code_of (get_or label (o + K) 0))) → P (successor K label o)
    unfolding successor
    after_one o a = choose P (ltb (o + K) (length label)) (λ t. a (ltb-true (o + K) (length label) t)) (λ _. none)

    -- And what two such numbers have as one, the code has.
    code_one : (rule : Rule) (o : ℕ) → ((j : ℕ) → j < o → P (code_of (get_or label j 0))) → (o + K < length label → P (code_of (get_or label (o + K) 0)))
        → (Q : ℕ → Type 0) → ((x y : ℕ) → P x → P y → Q (x + 8 * y)) → Q (code_at rule K label o)
    unfolding code_at
    code_one rule o b a Q f =
        let p = before_one rule o b in
        let q = after_one o a in
        choose Q (is_canon K (window K label o)) (λ _. f _ _ p q) (λ _. f _ _ (turned _ q) (turned _ p))

-- ---- in any label each is at most 5

abbrev Most : ℕ → Type 0
Most c = c ≤ 5

most_base : (c : ℕ) → c < 4 → Most c
most_base c h = omega arith

most_code : (b : ℕ) → Most (code_of b)
most_code b = omega (arith, code_le b)

pub turned_most : (c : ℕ) → c ≤ 5 → complement c ≤ 5
turned_most = turned Most (omega arith) most_base

pub complement_most : {c d r : ℕ} → d ≡ complement c → c ≡ r → r ≤ 5 → d ≤ 5
complement_most {c} e f h = rw e (turned_most c (rw f h))

module _ (K : ℕ) (label : List ℕ) (o : ℕ) where
  pub predecessor_most : (rule : Rule) → predecessor rule K label o ≤ 5
  predecessor_most rule = before_one Most (omega arith) most_base K label rule o (λ j h. most_code (get_or label j 0))

  pub successor_most : successor K label o ≤ 5
  successor_most = after_one Most (omega arith) most_base K label o (λ h. most_code (get_or label (o + K) 0))

  pub code_small : (rule : Rule) → code_at rule K label o < 64
  code_small rule =
      code_one Most (omega arith) most_base K label rule o (λ j h. most_code (get_or label j 0)) (λ h. most_code (get_or label (o + K) 0))
      (λ (c : ℕ). c < 64) (λ x y a b. omega arith)

module _ (x y : ℕ) (hx : x ≤ 5) (hy : y ≤ 5) where
  front_of : (x + 8 * y) % 8 ≡ x
  front_of = omega arith

  back_of : (x + 8 * y) / 8 % 8 ≡ y
  back_of = omega arith

  -- Counting from the number counts the two.
  pub both_counted : (κ : Kind) (w : ℕ) → counted_by κ (x + 8 * y) w ≡ counted κ (counted κ w Front x) Back y
  both_counted κ w = rw (front_of, back_of)

-- ---- in a label of bases none is N

record Read (c : ℕ) : Type 0 where
  most : c ≤ 5
  known : c ≡ 4 → ⊥

read_none : Read 5
read_none = record { most = omega arith; known = λ e. omega arith }

read_base : (c : ℕ) → c < 4 → Read c
read_base c h = record { most = omega arith; known = λ e. omega arith }

-- The same with the bit above the two.
record BothCoded (c : ℕ) : Type 0 where
  alone : Coded c
  marked : Coded (c + 64)

coded_by : (note x y : ℕ) → note % 8 ≡ x → note / 8 % 8 ≡ y → Read x → Read y → Coded note
coded_by note x y e f rx ry = record {
  front = omega (arith, rx.most);
  front_known = λ n. rx.known (sym e ∙ n);
  back = omega (arith, ry.most);
  back_known = λ n. ry.known (sym f ∙ n);
}

module _ (x y : ℕ) (rx : Read x) (ry : Read y) where
  front_under : (x + 8 * y + 64) % 8 ≡ x
  front_under = omega (arith, rx.most)

  back_under : (x + 8 * y + 64) / 8 % 8 ≡ y
  back_under = omega (arith, rx.most, ry.most)

  both_coded : BothCoded (x + 8 * y)
  both_coded = record {
    alone = coded_by (x + 8 * y) x y (front_of x y rx.most ry.most) (back_of x y rx.most ry.most) rx ry;
    marked = coded_by (x + 8 * y + 64) x y front_under back_under rx ry;
  }

module _ (rule : Rule) (K : ℕ) (label : List ℕ) (b : Bases label) (o : ℕ) (h : o + K ≤ length label) where
  coded : BothCoded (code_at rule K label o)
  coded =
      let at : (j : ℕ) → j < length label → Read (code_of (get_or label j 0)) = λ j l. read_base _ (bases_at label j l b) in
      code_one Read read_none read_base K label rule o (λ j l. at j (omega arith)) (at (o + K)) BothCoded both_coded

  pub code_coded : Coded (code_at rule K label o)
  code_coded = coded.alone

  pub new_coded : Coded (code_at rule K label o + 64)
  new_coded = coded.marked
