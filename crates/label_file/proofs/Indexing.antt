-- The labels of a file indexed one by one: those listed, and those of the unread records behind them, are all. Assumes
-- nothing.
use mathlib.Core.Path.{◌≡◌, refl, sym, ◌∙◌}
use mathlib.Core.Bool.{true}
use mathlib.Core.List.{List, [], ◌∷◌, ◌++◌, append_assoc, append-nil}
use Prim.Native.Nat.{ℕ, ◌+◌, ◌*◌, ◌≤◌, ◌<◌}
use native.Mathlib.Omega.{arith}
use lib.ListN.{length, take, drop, set, length-set}
use Rattle.label_index.specs.Entries.{listed, within}
use Rattle.label_index.proofs.Entries.{listed_more, within_more}
use Rattle.label_file.specs.LabelFile.{two, file_of, labels_of}
use Rattle.label_file.specs.Says.{Sound, Indexes}
use Rattle.label_file.proofs.Unread.{Unread, Next, unread_all, unread_none, unread_next}

-- Entry i is for record i + 1, the first unread one, which stands at place `at`: each record before it has at least
-- four bytes.
pub record SomeIndexed (file : List ℕ) (i at : ℕ) (starts lengths : List ℕ) : Type 0 where
  pub rest : List (List ℕ)
  pub unread : Unread file (i + 1) at rest
  pub all : listed i file starts lengths ++ rest ≡ labels_of (file_of file)
  pub inside : within file i starts lengths ≡ true
  pub few : 4 * i + 7 ≤ at
  pub long_starts : length starts ≡ 4096
  pub long_lengths : length lengths ≡ 4096

pub indexed_none : (file starts lengths : List ℕ) → Sound file → length starts ≡ 4096 → length lengths ≡ 4096
    → SomeIndexed file 0 7 starts lengths
unfolding listed within
indexed_none file starts lengths s a b = record {
  rest = labels_of (file_of file);
  unread = unread_all file s;
  all = refl;
  inside = refl;
  few = omega arith;
  long_starts = a;
  long_lengths = b;
}

module _ {file : List ℕ} {i at : ℕ} {starts lengths : List ℕ} (t : SomeIndexed file i at starts lengths) where
  short : at ≤ 16384
  short = omega (arith, t.unread.place.within, t.unread.place.short)

  pub indexed_all : length file ≤ at → Indexes file i starts lengths
  indexed_all h = record {
    labels = sym (append-nil (listed i file starts lengths)) ∙ rw (unread_none t.unread h) at t.all;
    inside = t.inside;
    few = omega (arith, short, t.few);
  }

  module _ (left : at < length file) where
    pub room_starts : i < length starts
    room_starts = omega (arith, t.unread.place.short, t.few, t.long_starts)

    pub room_lengths : i < length lengths
    room_lengths = omega (arith, t.unread.place.short, t.few, t.long_lengths)

    module _ (size : ℕ) (s : size ≡ two file (at + 2)) where
      next : Next file (i + 1) at size t.rest
      next = unread_next t.unread left size s

      pub room : at + 4 + size ≤ length file
      room = next.room

      pub indexed_next : SomeIndexed file (i + 1) (at + (4 + size)) (set starts i (at + 4)) (set lengths i size)
      indexed_next =
          let label = take size (drop (at + 4) file) in
          let e : at + (4 + size) ≡ at + 4 + size = omega arith in
          rw e (record {
            rest = next.behind;
            unread = next.unread;
            all = rw (listed_more file (at + 4) size i starts lengths room_starts room_lengths)
                (append_assoc (listed i file starts lengths) (label ∷ []) next.behind ∙ rw next.split at t.all);
            inside = within_more file (at + 4) size room i starts lengths room_starts room_lengths t.inside;
            few = omega (arith, t.few);
            long_starts = simp length-set t.long_starts;
            long_lengths = simp length-set t.long_lengths;
          })
