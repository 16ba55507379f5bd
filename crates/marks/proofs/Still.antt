-- Marks that are ready: there is a key for each, and others with the same ends are as ready. Assumes nothing.
use mathlib.Core.Path.{◌≡◌, ◌∙◌}
use mathlib.Core.List.{List}
use Prim.Native.Nat.{ℕ}
use native.Mathlib.Omega.{arith}
use lib.ListN.{length}
use Rattle.graph.proofs.Keys.{keys_length}
use Rattle.marks.specs.Marks.{ends}
use Rattle.marks.specs.Ready.{keys_for, Ready}
use Rattle.marks.proofs.Marking.{ends_length}

pub ready_still : {K : ℕ} {keys ms after : List ℕ} → Ready K keys ms → ends after ≡ ends ms → Ready K keys after
ready_still {ms = ms} {after = after} r e =
    let l = ends_length ms after e in
    record { ok = r.ok; room = rw l r.room; few = rw l r.few; fits = rw l r.fits; known = rw e r.known }

-- There is a key for each mark.
pub keys_marks : {K : ℕ} {keys ms : List ℕ} → Ready K keys ms → length (keys_for ms keys) ≡ length ms
keys_marks {keys = keys} {ms = ms} r = keys_length (length ms) keys ∙ omega (arith, r.room)
