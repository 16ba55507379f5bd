-- Keys tallied and the gaps filled are the directory. Assumes nothing.
use mathlib.Core.Path.{◌≡◌, sym, ap, ◌∙◌}
use mathlib.Core.Bool.{Bool, cond}
use mathlib.Core.List.{List}
use Prim.Native.Nat.{ℕ, ◌/◌, ◌<◌, min}
use lib.ListN.{length}
use Rattle.graph.specs.Table.{keys_of}
use Rattle.graph.proofs.Keys.{keys_most}
use Rattle.directory.specs.Directory.{bases_of, slot_of, tallied, spread, directory_of}
use Rattle.directory.proofs.Cells.{bases_some}

module _ (k n : ℕ) (words cells : List ℕ) where
  abbrev whole : List ℕ
  whole = spread 0 (tallied (slot_of (bases_of (length cells)) k) 0 (keys_of n words) cells)

  pub made : (b m : ℕ) (mid out : List ℕ) → b ≡ bases_of (length cells) → 0 < b → m ≡ min n (length words / 2)
      → mid ≡ tallied (slot_of b k) 0 (keys_of m words) cells → out ≡ spread 0 mid
      → out ≡ directory_of k (keys_of n words) cells
  made b m mid out e l f t s =
      let z = bases_some (length cells) (rw e at l) in
      s ∙ ap (spread 0) (t ∙ rw (e, f, keys_most n words)) ∙ sym (ap (λ (c : Bool). cond c whole cells) z)
