-- What the tests of a record say of its place. Assumes nothing.
use mathlib.Core.Path.{◌≡◌}
use mathlib.Core.Bool.{true, ◌&&◌}
use mathlib.Core.List.{List}
use Prim.Native.Nat.{ℕ, ◌+◌, ◌≤◌}
use native.Mathlib.Omega.{arith}
use borrow.Author.Tests.{leb-true}
use lib.Dec.{leb}
use lib.ListN.{length, drop, length-drop}
use lib.Seq.{get_or-drop}
use Rattle.dna.specs.Text.{bytes}
use Rattle.lemmas.proofs.Tests.{both}
use Rattle.label_file.specs.LabelFile.{marked, two, headed, labelled}

module _ (file : List ℕ) where
  pub headed_long : headed file ≡ true → 7 ≤ length file
  headed_long h = leb-true 7 (length file) (both (marked (bytes "KC") file) (leb 7 (length file)) h).1

module _ (file : List ℕ) (at : ℕ) where
  -- The length of the label at a place.
  pub two_at : two (drop at file) 2 ≡ two file (at + 2)
  two_at =
      let e : at + 2 + 1 ≡ at + 3 = omega arith in
      rw (e, get_or-drop at file 2 0, get_or-drop at file 3 0)

  -- A record that passes lies within the file.
  pub labelled_room : at ≤ length file → labelled (drop at file) ≡ true → at + 4 + two file (at + 2) ≤ length file
  labelled_room l h =
      let s = drop at file in
      let b = both (marked (bytes "LB") s && leb 4 (length s)) (leb (4 + two s 2) (length s)) h in
      let r : 4 + two s 2 ≤ length s = leb-true (4 + two s 2) (length s) b.1 in
      omega (arith, two_at, length-drop at file)
