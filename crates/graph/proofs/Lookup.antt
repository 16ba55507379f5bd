-- Fit keys looked up: each may be stored, is stored, and stands at its rank. Assumes nothing.
use mathlib.Core.Path.{◌≡◌, refl, sym, ap, ◌∙◌}
use mathlib.Core.Bool.{true}
use mathlib.Core.List.{List, [], ◌∷◌}
use Prim.Native.Nat.{ℕ, zero, suc, ◌^◌, ◌<◌}
use native.Mathlib.Omega.{arith}
use borrow.Author.Tests.{ltb-true, lt-ltb, le-ltb, eq-eqb}
use lib.ListN.{length, get_or}
use Rattle.kmer.specs.Kmer.{canon, is_canon}
use Rattle.kmer.proofs.Strands.{canon_lt, canon_canon, canonical_of_canon}
use Rattle.graph.specs.Table.{fit_from, rank, stored}
use Rattle.graph.proofs.Rank.{rank_on, rank_here, stored_is}
use Rattle.graph.proofs.Fit.{fit_cons, fit_least, fit_each}

-- What a fit table may store: a canonical k-mer.
pub record Key (K x : ℕ) : Type 0 where
  pub below : x < 4 ^ K
  pub canonical : is_canon K x ≡ true

-- Every canonical form is one.
pub canon_key : (K x : ℕ) → x < 4 ^ K → Key K (canon K x)
canon_key K x h =
    record { below = canon_lt K x h; canonical = canonical_of_canon K (canon K x) (canon_canon K x h) }

pub rank_at : (K least : ℕ) (ks : List ℕ) → fit_from K least ks ≡ true → (i : ℕ) → i < length ks → rank ks (get_or ks i 0) ≡ i
rank_at K least [] f i h = absurd (omega arith)
rank_at K least (x ∷ ks) f zero h = rank_here x ks x (le-ltb x x (omega arith))
rank_at K least (x ∷ ks) f (suc i) h =
    let g = (fit_cons K least x ks f).rest in
    rank_on x ks (get_or ks i 0) (lt-ltb x (get_or ks i 0) (fit_least K (suc x) ks g i (omega arith)))
    ∙ ap suc (rank_at K (suc x) ks g i (omega arith))

module _ (K : ℕ) (ks : List ℕ) (f : fit_from K 0 ks ≡ true) where
  pub key_at_lem : (i : ℕ) → i < length ks → Key K (get_or ks i 0)
  key_at_lem i h =
      let e = fit_each K 0 ks f i h in
      record { below = ltb-true (get_or ks i 0) (4 ^ K) e.0; canonical = e.1 }

  pub at_stored : (i : ℕ) → i < length ks → stored ks (get_or ks i 0) ≡ true
  at_stored i h =
      let r = rank_at K 0 ks f i h in
      stored_is ks (get_or ks i 0) ∙ rw (r, lt-ltb i (length ks) h) (eq-eqb (get_or ks i 0) (get_or ks i 0) refl)

  -- Places with one key are one.
  pub key_inj : (i j : ℕ) → i < length ks → j < length ks → get_or ks i 0 ≡ get_or ks j 0 → i ≡ j
  key_inj i j hi hj e = sym (rank_at K 0 ks f i hi) ∙ ap (rank ks) e ∙ rank_at K 0 ks f j hj
