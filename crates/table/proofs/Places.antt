-- Places that do not fall, and their test one by one. Assumes nothing.
use mathlib.Core.Path.{◌≡◌, sym, ap, ◌∙◌}
use mathlib.Core.Bool.{true, false, ◌&&◌}
use mathlib.Core.List.{List, [], ◌∷◌}
use Prim.Native.Nat.{ℕ, zero, suc, ◌+◌, ◌≤◌, ◌<◌}
use native.Mathlib.Nat.{not-suc-le-zero, le_trans}
use native.Mathlib.Numerals.{add-one}
use native.Mathlib.Omega.{arith}
use borrow.Author.Tests.{leb-true, le-leb, lt-leb}
use lib.Dec.{leb}
use lib.ListN.{length, get_or, take, drop, drop_of_length-le}
use lib.Seq.{drop-cons, get_or-take, length-take-le}
use Rattle.lemmas.proofs.Tests.{both}
use Rattle.table.specs.Join.{rising}

record Rises (end least p : ℕ) (ps : List ℕ) : Type 0 where
  above : least ≤ p
  below : p ≤ end
  rest : rising end p ps ≡ true

rises_on : (end least p : ℕ) (ps : List ℕ) → rising end least (p ∷ ps) ≡ true → Rises end least p ps
unfolding rising
rises_on end least p ps h =
    let b = both (leb least p && leb p end) (rising end p ps) h in
    let a = both (leb least p) (leb p end) b.0 in
    record { above = leb-true least p a.0; below = leb-true p end a.1; rest = b.1 }

above_least : (end least : ℕ) (ps : List ℕ) → rising end least ps ≡ true → (k : ℕ) → k < length ps
    → least ≤ get_or ps k 0
above_least end least [] h k l = absurd (not-suc-le-zero l)
above_least end least (p ∷ ps) h zero l = (rises_on end least p ps h).above
above_least end least (p ∷ ps) h (suc k) l =
    le_trans (rises_on end least p ps h).above (above_least end p ps (rises_on end least p ps h).rest k (omega arith))

below_end : (end least : ℕ) (ps : List ℕ) → rising end least ps ≡ true → (k : ℕ) → k < length ps → get_or ps k 0 ≤ end
below_end end least [] h k l = absurd (not-suc-le-zero l)
below_end end least (p ∷ ps) h zero l = (rises_on end least p ps h).below
below_end end least (p ∷ ps) h (suc k) l = below_end end p ps (rises_on end least p ps h).rest k (omega arith)

in_order_lem : (end least : ℕ) (ps : List ℕ) → rising end least ps ≡ true → (i k : ℕ) → i ≤ k → k < length ps
    → get_or ps i 0 ≤ get_or ps k 0
in_order_lem end least [] h i k l m = absurd (not-suc-le-zero m)
in_order_lem end least (p ∷ ps) h zero zero l m = omega arith
in_order_lem end least (p ∷ ps) h zero (suc k) l m = above_least end p ps (rises_on end least p ps h).rest k
    (omega arith)
in_order_lem end least (p ∷ ps) h (suc i) zero l m = absurd (omega arith)
in_order_lem end least (p ∷ ps) h (suc i) (suc k) l m = in_order_lem end p ps (rises_on end least p ps h).rest i k
    (omega arith) (omega arith)

-- The first j places have been tested, and the whole is as the rest is.
module _ (n : ℕ) (ps : List ℕ) (least j : ℕ) (t : rising n 0 ps ≡ rising n least (drop j ps)) where
  module _ (h : j < length ps) where
    tests : rising n 0 ps ≡ leb least (get_or ps j 0) && leb (get_or ps j 0) n && rising n (get_or ps j 0)
        (drop (suc j) ps)
    unfolding rising
    tests = t ∙ ap (rising n least) (drop-cons ps j 0 h)

    pub falls : get_or ps j 0 < least → false ≡ rising n 0 ps
    falls f = sym (tests ∙ rw (lt-leb least (get_or ps j 0) f))

    pub too_far : least ≤ get_or ps j 0 → n < get_or ps j 0 → false ≡ rising n 0 ps
    too_far f g = sym (tests ∙ rw (le-leb least (get_or ps j 0) f, lt-leb (get_or ps j 0) n g))

    pub tested_more : least ≤ get_or ps j 0 → get_or ps j 0 ≤ n
        → rising n 0 ps ≡ rising n (get_or ps j 0) (drop (j + 1) ps)
    tested_more f g = tests ∙ rw (le-leb least (get_or ps j 0) f, le-leb (get_or ps j 0) n g, add-one j)

  pub tested_all : length ps ≤ j → true ≡ rising n 0 ps
  unfolding rising
  tested_all h = let none : drop j ps ≡ [] = drop_of_length-le ps h in sym (t ∙ rw none)

module _ (n m : ℕ) (places : List ℕ) (l : m ≤ length places) where
  module _ (r : rising n 0 (take m places) ≡ true) where
    pub place_within : (k : ℕ) → k < m → get_or places k 0 ≤ n
    place_within k h =
        omega (
          arith,
          below_end n 0 (take m places) r k
              (omega (arith, length-take-le m places l)),
          get_or-take m places k 0 h,
        )

    pub place_order : (i k : ℕ) → i ≤ k → k < m → get_or places i 0 ≤ get_or places k 0
    place_order i k e h =
        omega (
          arith,
          in_order_lem n 0 (take m places) r i k e (omega (arith, length-take-le m places l)),
          get_or-take m places i 0 (omega arith),
          get_or-take m places k 0 h,
        )
