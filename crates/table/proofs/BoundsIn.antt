-- The bounds of all last four bases put in one by one. Assumes nothing.
use mathlib.Core.Path.{◌≡◌, ap, ◌∙◌}
use mathlib.Core.List.{List}
use Prim.Native.Nat.{ℕ, ◌+◌, ◌*◌, ◌≤◌, ◌<◌}
use native.Mathlib.Omega.{arith}
use borrow.Author.Count.{below_none, below_more}
use lib.ListN.{length, get_or, set, length-set}
use lib.Seq.{get_or-set_same, get_or-set_other}
use Rattle.table.specs.Bounds.{bound_of, unit_of, Bounds}

-- The bounds before b stand in their cells.
pub record Bounding (k : ℕ) (bounds : List ℕ) (b : ℕ) : Type 0 where
  pub long : length bounds ≡ 256
  pub held : (j : ℕ) → j < b → get_or bounds j 0 * unit_of k ≡ bound_of k j

module _ {k : ℕ} {bounds : List ℕ} where
  pub bounding_none : length bounds ≡ 256 → Bounding k bounds 0
  bounding_none e = record { long = e; held = below_none _ }

  pub bounding_more : {b : ℕ} (w : ℕ) → Bounding k bounds b → b < 256 → w * unit_of k ≡ bound_of k b
      → Bounding k (set bounds b w) (b + 1)
  bounding_more {b} w p l e =
      record {
        long = length-set bounds b w ∙ p.long;
        held =
            below_more _ b
            (λ j h. ap (λ (v : ℕ). v * unit_of k) (get_or-set_other bounds b j w 0 (λ q. omega arith)) ∙ p.held j h)
            (ap (λ (v : ℕ). v * unit_of k) (get_or-set_same bounds b w 0 (omega arith)) ∙ e);
      }

  pub bounding_all : {b : ℕ} → Bounding k bounds b → 256 ≤ b → Bounds k bounds
  bounding_all p l j h = p.held j (omega arith)
