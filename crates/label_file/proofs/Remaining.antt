-- The form of a file checked record by record: the labels passed and the records that remain are what the whole file
-- says. Assumes nothing.
use mathlib.Core.Path.{◌≡◌, refl, sym, ap, ◌∙◌}
use mathlib.Core.Bool.{true, false}
use mathlib.Core.List.{List, [], ◌∷◌, ◌++◌}
use Prim.Native.Nat.{ℕ, ◌+◌, ◌-◌, ◌≤◌, ◌<◌}
use native.Mathlib.Omega.{arith}
use borrow.Author.Tests.{le-leb, lt-leb}
use lib.ListN.{length, take, drop}
use Rattle.label_file.specs.LabelFile.{LabelFile, damaged, holds, two, headed, labelled, with, k_in, cutoff_in, file_of}
use Rattle.label_file.specs.LabelFile.{labels_of}
use Rattle.label_file.specs.Says.{Sound}
use Rattle.label_file.proofs.Reaching.{Reached, reached_first, reached_next, says_from, from_none, from_bad, from_next}

-- Labels in front of those of the records behind them.
unfoldable pub with_all : List (List ℕ) → LabelFile → LabelFile
with_all [] f = f
with_all (label ∷ labels) f = with label (with_all labels f)

with_damaged : (labels : List (List ℕ)) (i : ℕ) → with_all labels (damaged i) ≡ damaged i
unfolding with_all
with_damaged [] i = refl
with_damaged (label ∷ labels) i = rw (with_damaged labels i)

with_holds : (labels more : List (List ℕ)) (K cutoff : ℕ)
    → with_all labels (holds K cutoff more) ≡ holds K cutoff (labels ++ more)
unfolding with_all
with_holds [] more K cutoff = refl
with_holds (label ∷ labels) more K cutoff = rw (with_holds labels more K cutoff)

with_last : (labels : List (List ℕ)) (label : List ℕ) (f : LabelFile)
    → with_all (labels ++ (label ∷ [])) f ≡ with_all labels (with label f)
unfolding with_all
with_last [] label f = refl
with_last (first ∷ labels) label f = ap (λ (g : LabelFile). with first g) (with_last labels label f)

-- The records before place `at`, that of record i, hold the labels `front`.
pub record Remains (file : List ℕ) (i at : ℕ) : Type 0 where
  pub front : List (List ℕ)
  pub most : ℕ
  pub place : Reached file i at most
  pub whole : file_of file ≡ with_all front (says_from file i at most)

module _ (file : List ℕ) where
  pub too_long : 16384 < length file → file_of file ≡ damaged 0
  unfolding file_of
  too_long h = rw (lt-leb (length file) 16384 h)

  pub headless : headed file ≡ false → length file ≤ 16384 → file_of file ≡ damaged 0
  unfolding file_of
  headless h l = rw (le-leb (length file) 16384 l, h)

  pub remains_all : length file ≤ 16384 → headed file ≡ true → Remains file 1 7
  unfolding file_of with_all
  remains_all l h = record {
    front = [];
    most = length file;
    place = reached_first file l h;
    whole = rw (le-leb (length file) 16384 l, h);
  }

module _ {file : List ℕ} {i at : ℕ} (r : Remains file i at) where
  pub remains_none : length file ≤ at → Sound file
  remains_none h =
      let e : file_of file ≡ holds (k_in file) (cutoff_in file) (r.front ++ []) =
      r.whole ∙ rw (from_none r.place h) (with_holds r.front [] (k_in file) (cutoff_in file)) in
      e ∙ ap (λ (l : List (List ℕ)). holds (k_in file) (cutoff_in file) l) (sym (ap labels_of e))

  module _ (left : at < length file) where
    pub remains_bad : labelled (drop at file) ≡ false → file_of file ≡ damaged i
    remains_bad h = r.whole ∙ rw (from_bad r.place left h) (with_damaged r.front i)

    pub remains_next : labelled (drop at file) ≡ true → Remains file (i + 1) (at + (4 + two file (at + 2)))
    remains_next h =
        let n = two file (at + 2) in
        let e : at + (4 + n) ≡ at + 4 + n = omega arith in
        let label = take n (drop (at + 4) file) in
        rw e (record {
          front = r.front ++ (label ∷ []);
          most = r.most - 1;
          place = reached_next r.place left h;
          whole = r.whole ∙ rw (from_next r.place left h)
              (sym (with_last r.front label (says_from file (i + 1) (at + 4 + n) (r.most - 1))));
        })
