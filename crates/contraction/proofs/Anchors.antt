-- The k-mer of an anchor, read from its two words: it is the vertex's key, and below 4 to the K. Assumes nothing.
use mathlib.Core.Path.{◌≡◌}
use mathlib.Core.List.{List}
use Prim.Native.Nat.{ℕ, ◌^◌, ◌<◌}
use native.Mathlib.Omega.{arith}
use lib.ListN.{length, get_or}
use Rattle.graph.proofs.Lookup.{key_at_lem}
use Rattle.table.specs.Search.{key}
use Rattle.table.proofs.Keys.{key_is}
use Rattle.marks.specs.Ready.{keys_for, Ready}
use Rattle.marks.proofs.Still.{keys_marks}

module _ {K : ℕ} {keys ms : List ℕ} (r : Ready K keys ms) (a : ℕ) (l : a < length ms) where
  pub anchor_is : get_or (keys_for ms keys) a 0 ≡ key keys a
  anchor_is = key_is (length ms) keys a l (omega (arith, r.room))

  pub anchor_small : key keys a < 4 ^ K
  anchor_small = rw anchor_is at (key_at_lem K (keys_for ms keys) r.fits a (omega (arith, keys_marks r))).below
