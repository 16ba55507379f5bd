-- The records of a file one by one: what is known of the place of each, and what the file says from there on. Assumes
-- nothing.
use mathlib.Core.Path.{◌≡◌, refl}
use mathlib.Core.Bool.{true, false}
use mathlib.Core.List.{List, [], ◌∷◌}
use Prim.Native.Nat.{ℕ, zero, suc, ◌+◌, ◌-◌, ◌≤◌, ◌<◌}
use native.Mathlib.Numerals.{add-one}
use native.Mathlib.Omega.{arith}
use lib.ListN.{length, take, drop, length-drop, drop_of_length-le}
use lib.Seq.{drop-drop}
use Rattle.label_file.specs.LabelFile.{LabelFile, damaged, holds, two, headed, labelled, with, labels_from, k_in}
use Rattle.label_file.specs.LabelFile.{cutoff_in}
use Rattle.label_file.proofs.Marks.{two_at, headed_long, labelled_room}

module _ (K cutoff : ℕ) where
  labels_none : (most i : ℕ) → labels_from K cutoff most i [] ≡ holds K cutoff []
  unfolding labels_from
  labels_none zero i = refl
  labels_none (suc most) i = refl

  labels_bad : (most i : ℕ) (s : List ℕ) → 0 < most → 0 < length s → labelled s ≡ false
      → labels_from K cutoff most i s ≡ damaged i
  unfolding labels_from
  labels_bad zero i s m l h = absurd (omega arith)
  labels_bad (suc most) i [] m l h = absurd (omega arith)
  labels_bad (suc most) i (b ∷ s) m l h = rw h

  labels_next : (most i : ℕ) (s : List ℕ) → 0 < most → 0 < length s → labelled s ≡ true → labels_from K cutoff most i s
      ≡ with (take (two s 2) (drop 4 s)) (labels_from K cutoff (most - 1) (i + 1) (drop (4 + two s 2) s))
  unfolding labels_from
  labels_next zero i s m l h = absurd (omega arith)
  labels_next (suc most) i [] m l h = absurd (omega arith)
  labels_next (suc most) i (b ∷ s) m l h = let e : suc most - 1 ≡ most = omega arith in rw (h, e, add-one i)

-- What is known of the place `at` of record i, or of the file's end: it lies within the file, and no more than `most`
-- bytes, so no more records, stand from there on.
pub record Reached (file : List ℕ) (i at most : ℕ) : Type 0 where
  pub enough : length file ≤ at + most
  pub within : at ≤ length file
  pub short : length file ≤ 16384
  pub few : i ≤ at

-- The place behind the first record.
pub reached_first : (file : List ℕ) → length file ≤ 16384 → headed file ≡ true → Reached file 1 7 (length file)
reached_first file l h = record { enough = omega arith; within = headed_long file h; short = l; few = omega arith }

-- What the records from a place on say.
abbrev pub says_from : List ℕ → ℕ → ℕ → ℕ → LabelFile
says_from file i at most = labels_from (k_in file) (cutoff_in file) most i (drop at file)

module _ {file : List ℕ} {i at most : ℕ} (p : Reached file i at most) where
  -- At the file's end there is none.
  pub from_none : length file ≤ at → says_from file i at most ≡ holds (k_in file) (cutoff_in file) []
  from_none h = rw (drop_of_length-le file h) (labels_none (k_in file) (cutoff_in file) most i)

  module _ (left : at < length file) where
    some : 0 < length (drop at file)
    some = simp length-drop (omega arith)

    more : 0 < most
    more = omega (arith, p.enough)

    -- The record at the place does not pass.
    pub from_bad : labelled (drop at file) ≡ false → says_from file i at most ≡ damaged i
    from_bad h = labels_bad (k_in file) (cutoff_in file) most i (drop at file) more some h

    -- It passes: the place behind it, and its label in front of those of the records behind it.
    module _ (h : labelled (drop at file) ≡ true) where
      pub next_room : at + 4 + two file (at + 2) ≤ length file
      next_room = labelled_room file at p.within h

      pub reached_next : Reached file (i + 1) (at + 4 + two file (at + 2)) (most - 1)
      reached_next =
          record {
            enough = omega (arith, p.enough, more);
            within = next_room;
            short = p.short;
            few = omega (arith, p.few);
          }

      pub from_next : says_from file i at most
          ≡ with (take (two file (at + 2)) (drop (at + 4) file))
          (says_from file (i + 1) (at + 4 + two file (at + 2)) (most - 1))
      from_next =
          let n = two file (at + 2) in
          let e : at + (4 + n) ≡ at + 4 + n = omega arith in
          rw (two_at file at, drop-drop 4 at file, drop-drop (4 + n) at file, e)
          at (labels_next (k_in file) (cutoff_in file) most i (drop at file) more some h)
