-- What a line does to the file that is to come. Assumes nothing.
use mathlib.Core.Path.{◌≡◌, refl, ap, ◌∙◌}
use mathlib.Core.Bool.{Bool, true, false}
use mathlib.Core.List.{List, [], ◌∷◌, ◌++◌, append_assoc}
use Prim.Native.Nat.{ℕ, zero, suc, ◌+◌, ◌<◌}
use native.Mathlib.Omega.{arith}
use lib.ListN.{length, take, length-append}
use lib.Seq.{length-take-le}
use Rattle.std.specs.Prelude.{Result, Ok, Err}
use Rattle.lemmas.proofs.Tests.{never}
use Rattle.dna.specs.Text.{part}
use Rattle.label_text.specs.Lines.{is_header, filled}
use Rattle.label_text.specs.Packing.{label_records}
use Rattle.label_text.specs.Says.{Room, Closes, Grows, Joins, Goes, Takes, left, whole}
use Rattle.label_text.specs.declared.TooLarge.{TooLarge}
use Rattle.label_text.specs.declared.packing.Open.{Open}
use Rattle.label_text.proofs.Cells.{length_part}
use Rattle.label_text.proofs.Remaining.{left_header, left_joined, left_plain, left_large}

-- The open label has so many letters.
label_size : (out : List ℕ) (at size : ℕ) → Room out at size → length (part out (at + 4) size) ≡ size
label_size out at zero r = refl
label_size out at (suc size) r =
    length_part out (at + 4) (suc size) (omega (arith, r.long, r.letters (λ e. omega arith)))

-- A label that is closed stays closed, whatever lines follow.
closing : (fasta : Bool) (out : List ℕ) (at size : ℕ) (ls ms : List (List ℕ)) (r : ℕ) (out' : List ℕ)
    → Closes out at size r out'
    → label_records (left fasta (part out (at + 4) size) ls)
    ≡ label_records (filled (part out (at + 4) size ∷ [])) ++ label_records (left fasta [] ms)
    → whole fasta out at size ls ≡ whole fasta out' r 0 ms
closing fasta out at size ls ms r out' c e = rw (e, c.text, append_assoc)

module _ (line out : List ℕ) (at size : ℕ) (room : Room out at size) (fasta : Bool) where
  -- The file has at least the records closed, the label and the line.
  too_large : (l : List ℕ) (ls : List (List ℕ)) → 0 < length l → 16384 < at + 4 + length l
      → 16384 < length (take at out ++ label_records (left fasta l ls))
  too_large l ls h g =
      omega (
        arith,
        length-append (take at out) (label_records (left fasta l ls)),
        length-take-le at out (omega (arith, room.long, room.inside)),
        left_large fasta l ls h,
      )

  module _ (f : fasta ≡ true) where
    pub header_closes : is_header line ≡ true → (r : ℕ) (out' : List ℕ) → Closes out at size r out'
        → Goes fasta line out at size r 0 out'
    header_closes h r out' c =
        record {
          room = c.room;
          plain = λ _. refl;
          same = λ ls.
              rw f (closing true out at size (line ∷ ls) ls r out' c (left_header (part out (at + 4) size) line ls h));
        }

    pub line_joins : is_header line ≡ false → (r : Result Open TooLarge) (out' : List ℕ) → Joins line out at size r out'
        → Takes fasta line out at size r out'
    line_joins h (Ok o) out' g =
        record {
          room = g.room;
          plain = λ e. never fasta f e;
          same = λ ls. rw (f, left_joined (part out (at + 4) size) line ls h, g.closed, g.letters);
        }
    line_joins h (Err e) out' g = λ ls.
        let s : length (part out (at + 4) size ++ line) ≡ size + length line =
        length-append (part out (at + 4) size) line ∙ ap (λ (n : ℕ). n + length line) (label_size out at size room) in
        let t : left fasta (part out (at + 4) size) (line ∷ ls) ≡ left fasta (part out (at + 4) size ++ line) ls =
        rw f (left_joined (part out (at + 4) size) line ls h) in
        rw t (too_large (part out (at + 4) size ++ line) ls (omega (arith, g.0)) (omega (arith, g.1)))

  module _ (f : fasta ≡ false) (e : size ≡ 0) where
    none : part out (at + 4) size ≡ []
    none = rw e

    pub line_closes : (mid : List ℕ) (a n : ℕ) → Grows line out at size a n mid → (r : ℕ) (out' : List ℕ)
        → Closes mid a n r out'
        → Goes fasta line out at size r 0 out'
    line_closes mid a n g r out' c =
        record {
          room = c.room;
          plain = λ _. refl;
          same = λ ls. rw (f, none, left_plain line ls, c.text, g.closed, g.letters, none, append_assoc);
        }

    pub line_too_large : 0 < length line → 16384 < at + 4 + size + length line
        → (ls : List (List ℕ)) → 16384 < length (whole fasta out at size (line ∷ ls))
    unfolding left filled
    line_too_large some g ls =
        let t : left fasta [] (line ∷ ls) ≡ left fasta line ls = rw f in
        rw (none, t) (too_large line ls some (omega arith))
