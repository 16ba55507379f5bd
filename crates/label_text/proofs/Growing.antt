-- The open label grows by a line, and is closed. Assumes nothing.
use mathlib.Core.Path.{◌≡◌, refl, ap, ◌∙◌}
use mathlib.Core.List.{List, [], ◌∷◌, append-nil}
use Prim.Native.Nat.{ℕ, ◌+◌, ◌-◌, ◌≤◌}
use native.Mathlib.Omega.{arith}
use borrow.Rule.Slice.PartMut.{put_mid}
use lib.ListN.{length}
use Rattle.std.proofs.lemmas.Slice.{take-put_mid_below}
use Rattle.dna.specs.Text.{part}
use Rattle.label_text.specs.Lines.{filled}
use Rattle.label_text.specs.Packing.{label_records, two_bytes}
use Rattle.label_text.specs.Says.{Room, Closes, Grows}
use Rattle.label_text.proofs.Cells.{length_part, length_put, put_four, put_label}
use Rattle.label_text.proofs.Remaining.{one_record}

module _ {out : List ℕ} {at size : ℕ} (room : Room out at size) where
  -- An empty label leaves nothing.
  pub closes_none : size ≡ 0 → Closes out at size at out
  unfolding label_records filled
  closes_none e =
      record {
        room = record { long = room.long; inside = room.inside; letters = λ u. absurd (u refl) };
        text = rw (e, append-nil);
      }

  -- The mark and the size in front of another make it a record.
  pub closes_some : (size ≡ 0 → ⊥) → (mark count : List ℕ) → mark ≡ 76 ∷ 66 ∷ [] → count ≡ two_bytes size
      → Closes out at size (at + 4 + size)
      (put_mid (at + 2) (at + 4 - (at + 2)) (put_mid at (at + 2 - at) out mark) count)
  closes_some u mark count m n =
      let end : at + 4 + size ≤ length out = omega (arith, room.long, room.letters u) in
      let one = length_put at (at + 2 - at) out mark (ap length m ∙ omega arith) (omega arith) in
      let s : length (part out (at + 4) size) ≡ size = length_part out (at + 4) size end in
      record {
        room = record {
          long =
              length_put (at + 2) (at + 4 - (at + 2)) (put_mid at (at + 2 - at) out mark) count
              (ap length n ∙ omega arith) (omega (arith, one))
              ∙ one ∙ room.long;
          inside = room.letters u;
          letters = λ v. absurd (v refl);
        };
        text =
            put_four at size out mark count (omega arith) (ap length m) (ap length n)
            ∙ rw (m, n, one_record (part out (at + 4) size) (omega arith), s);
      }

  -- An empty line leaves the label.
  pub grows_none : (line : List ℕ) → length line ≡ 0 → Grows line out at size at size out
  grows_none [] e = record { place = refl; room = room; closed = refl; letters = rw append-nil }
  grows_none (b ∷ line) e = absurd (omega arith)

  -- Another is put behind its letters.
  pub grows_more : (line : List ℕ) (n : ℕ) → length line ≡ n → at + 4 + size + n ≤ 16384
      → Grows line out at size at (size + n) (put_mid (at + 4 + size) n out line)
  grows_more line n e h =
      let end : at + 4 + size + n ≤ length out = omega (arith, room.long) in
      record {
        place = refl;
        room = record {
          long = length_put (at + 4 + size) n out line e end ∙ room.long;
          inside = room.inside;
          letters = λ _. omega arith;
        };
        closed = take-put_mid_below (at + 4 + size) n out line at (omega arith) (omega arith);
        letters = put_label (at + 4) size n out line e end;
      }
