-- A window of a label of bases: its k-mer, the canonical form of that, and the calls that find them. Assumes nothing.
use mathlib.Core.Path.{◌≡◌, sym, ap, ap₂, ◌∙◌}
use mathlib.Core.Bool.{Bool, true, not}
use mathlib.Core.List.{List}
use Prim.Native.Nat.{ℕ, ◌+◌, ◌≤◌, min}
use native.Mathlib.Omega.{arith}
use lib.Dec.{ltb}
use lib.ListN.{length, take, drop}
use borrow.Author.Tests.{le-leb}
use Rattle.std.specs.Prelude.{Result, Ok, IsOk}
use Rattle.lemmas.proofs.Numbers.{same_test}
use Rattle.kmer.specs.Kmer.{ok_k, rc, canon, is_canon}
use Rattle.kmer.specs.Calls.{pack_call, canon_call}
use Rattle.kmer.specs.Says.{value_of, kmer_of, Answers}
use Rattle.kmer.specs.declared.Kmer.{Kmer}
use Rattle.kmer.specs.declared.KmerError.{KmerError}
use Rattle.kmer.proofs.Wide.{value_back}
use Rattle.kmer.proofs.Orders.{canon_test}
use Rattle.kmer.proofs.Given.{kmer_given}
use Rattle.graph.proofs.Adding.{window_lt}
use Rattle.graph.proofs.Packed.{window_packed}
use Rattle.graph.specs.Sightings.{window}
use Rattle.adding.specs.Says.{Given, Sees}

pub ok_given : {K : ℕ} {label : List ℕ} → Given K label → ok_k K ≡ true
ok_given {K} g = simp (le-leb 1 K g.low, le-leb K 63 g.high)

-- A k-mer is canonical where its canonical form is not smaller.
straight_test : (K x : ℕ) → not (ltb (canon K x) x) ≡ is_canon K x
unfolding canon
straight_test K x =
    ap not (same_test (min x (rc K x)) x (rc K x) x (λ l. omega arith) (λ l. omega arith)) ∙ canon_test K x

-- What the only k-mer that a call can return holds.
value_given : {r : Result Kmer KmerError} {n : ℕ} {x : Kmer} → r ≡ Ok (kmer_of n) → r ≡ Ok x → value_of x ≡ n
value_given {n = n} {x = x} e q =
    let z : Ok x ≡ Ok (kmer_of n) = sym q ∙ e in
    value_back {y = x} n cc

module _ {K : ℕ} {label : List ℕ} (g : Given K label) (i : ℕ) (h : i + K ≤ length label) where
  -- Packed: it is not refused.
  module _ {a : Result Kmer KmerError} (p : Answers a (pack_call K (take K (drop i label)))) where
    packed : a ≡ Ok (kmer_of (window K label i))
    packed = window_packed K (ok_given g) label g.bases i h p

    pub packs : IsOk a
    packs = rw packed

    -- Turned to its canonical form, and compared with that.
    module _ {x : Kmer} (e : a ≡ Ok x) {b : Result Kmer KmerError} (q : Answers b (canon_call K (value_of x))) where
      packed_is : value_of x ≡ window K label i
      packed_is = value_given packed e

      turned : b ≡ Ok (kmer_of (canon K (window K label i)))
      turned =
          kmer_given K (window K label i) (ok_given g) (window_lt K label i g.bases h) (canon K (window K label i))
          (rw packed_is at q)

      pub turns : IsOk b
      turns = rw turned

      pub window_seen : {y : Kmer} → b ≡ Ok y → {t : Bool} → t ≡ ltb (value_of y) (value_of x)
          → Sees K label i (record { kmer = y; straight = not t })
      window_seen f t = record {
        kmer = value_given turned f;
        straight = ap not (t ∙ ap₂ ltb (value_given turned f) packed_is) ∙ straight_test K (window K label i);
      }
