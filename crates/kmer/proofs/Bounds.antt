-- The K that are not refused are those from 1 to 63. Assumes nothing.
use mathlib.Core.Path.{◌≡◌}
use mathlib.Core.Bool.{true}
use Prim.Native.Nat.{ℕ, ◌≤◌}
use lib.Dec.{leb}
use borrow.Author.Tests.{leb-true, le-leb}
use Rattle.lemmas.proofs.Tests.{both}
use Rattle.kmer.specs.Kmer.{ok_k}

pub ok_bounds : (K : ℕ) → ok_k K ≡ true → (1 ≤ K) × (K ≤ 63)
ok_bounds K e = let t = both (leb 1 K) (leb K 63) e in (leb-true 1 K t.0, leb-true K 63 t.1)

pub bounds_ok : (K : ℕ) → 1 ≤ K → K ≤ 63 → ok_k K ≡ true
bounds_ok K l m = rw (le-leb 1 K l, le-leb K 63 m)
