-- The labels that the unread records of a sound file hold. Assumes nothing.
use mathlib.Core.Path.{◌≡◌, refl, sym, subst, ◌∙◌}
use mathlib.Core.Bool.{true, false, ◌&&◌}
use mathlib.Core.List.{List, [], ◌∷◌}
use mathlib.Core.Logic.{⊎_elim}
use Prim.Native.Nat.{ℕ, ◌+◌, ◌-◌, ◌≤◌, ◌<◌}
use native.Mathlib.Omega.{arith}
use borrow.Author.Tests.{leb-true}
use lib.Dec.{leb}
use lib.ListN.{length, take, drop}
use Rattle.lemmas.proofs.Numbers.{true_or_false}
use Rattle.lemmas.proofs.Tests.{both}
use Rattle.label_file.specs.LabelFile.{LabelFile, damaged, holds, two, headed, labelled, with, k_in, cutoff_in, file_of}
use Rattle.label_file.specs.LabelFile.{labels_of}
use Rattle.label_file.specs.Says.{Sound}
use Rattle.label_file.proofs.Reaching.{Reached, reached_first, next_room, reached_next, says_from, from_none, from_bad}
use Rattle.label_file.proofs.Reaching.{from_next}

-- No file is both.
undamaged : {P : Type 0} {i K cutoff : ℕ} {labels : List (List ℕ)} (f : LabelFile) → f ≡ damaged i
    → f ≡ holds K cutoff labels → P
undamaged f p q = let z : ◌≡◌ {A = ℕ} 0 1 = cc in absurd (omega arith)

-- The records of the file from number i on, at place `at`, hold the labels `rest`.
pub record Unread (file : List ℕ) (i at : ℕ) (rest : List (List ℕ)) : Type 0 where
  pub most : ℕ
  pub place : Reached file i at most
  pub hold : says_from file i at most ≡ holds (k_in file) (cutoff_in file) rest

pub unread_all : (file : List ℕ) → Sound file → Unread file 1 7 (labels_of (file_of file))
unfolding file_of
unread_all file s = ⊎_elim sound broken (true_or_false (leb (length file) 16384 && headed file))
  where
    broken : leb (length file) 16384 && headed file ≡ false → Unread file 1 7 (labels_of (file_of file))
    broken t = let none : file_of file ≡ damaged 0 = rw t in undamaged (file_of file) none s

    sound : leb (length file) 16384 && headed file ≡ true → Unread file 1 7 (labels_of (file_of file))
    sound t =
        let b = both (leb (length file) 16384) (headed file) t in
        let whole : file_of file ≡ says_from file 1 7 (length file) = rw t in
        record {
          most = length file;
          place = reached_first file (leb-true (length file) 16384 b.0) b.1;
          hold = sym whole ∙ s;
        }

-- The first unread record is there, with a label of `size` bytes that is the first of the labels.
pub record Next (file : List ℕ) (i at size : ℕ) (rest : List (List ℕ)) : Type 0 where
  pub behind : List (List ℕ)
  pub room : at + 4 + size ≤ length file
  pub split : rest ≡ take size (drop (at + 4) file) ∷ behind
  pub unread : Unread file (i + 1) (at + 4 + size) behind

module _ {file : List ℕ} {i at : ℕ} {rest : List (List ℕ)} (u : Unread file i at rest) where
  pub unread_none : length file ≤ at → rest ≡ []
  unread_none h =
      let none : holds (k_in file) (cutoff_in file) []
      ≡ holds (k_in file) (cutoff_in file) rest = sym (from_none u.place h) ∙ u.hold in
      cc

  pub unread_next : at < length file → (size : ℕ) → size ≡ two file (at + 2) → Next file i at size rest
  unread_next left size s =
      subst (λ (m : ℕ). Next file i at m rest) (sym s) (⊎_elim pass fail (true_or_false (labelled (drop at file))))
    where
      fail : labelled (drop at file) ≡ false → Next file i at (two file (at + 2)) rest
      fail t = undamaged _ (from_bad u.place left t) u.hold

      passed : labelled (drop at file) ≡ true → (f : LabelFile)
          → says_from file (i + 1) (at + 4 + two file (at + 2)) (u.most - 1) ≡ f
          → with (take (two file (at + 2)) (drop (at + 4) file)) f ≡ holds (k_in file) (cutoff_in file) rest
          → Next file i at (two file (at + 2)) rest
      passed t (damaged j) e h = undamaged (damaged j) refl h
      passed t (holds K cutoff labels) e h =
          record {
            behind = labels;
            room = next_room u.place left t;
            split = cc;
            unread = record { most = u.most - 1; place = reached_next u.place left t; hold = e ∙ cc };
          }

      pass : labelled (drop at file) ≡ true → Next file i at (two file (at + 2)) rest
      pass t = passed t _ refl (sym (from_next u.place left t) ∙ u.hold)

-- A sound file has its whole first record.
pub sound_long : (file : List ℕ) → Sound file → 7 ≤ length file
sound_long file s = (unread_all file s).place.within
