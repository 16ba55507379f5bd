-- The file while its lines are taken: what is to come of it stays the label file of the text. Assumes nothing.
use mathlib.Core.Path.{◌≡◌, refl, sym, ap, ◌∙◌}
use mathlib.Core.Bool.{Bool, true, false}
use mathlib.Core.List.{List, [], ◌∷◌}
use Prim.Native.Nat.{ℕ, ◌+◌, ◌<◌}
use native.Mathlib.Omega.{arith}
use lib.ListN.{length, get_or, take, length-drop}
use lib.Seq.{length-take-le}
use Rattle.std.specs.Prelude.{Ok}
use Rattle.dna.specs.Text.{over}
use Rattle.label_text.specs.Lines.{trimmed, is_header, lines_from, labels_in, filled}
use Rattle.label_text.specs.Packing.{head_record, packed}
use Rattle.label_text.specs.Says.{Room, Closes, Goes, Measures, left, whole}
use Rattle.label_text.proofs.Breaks.{cut, lines_after, lines_next, lines_cut}
use Rattle.label_text.proofs.Remaining.{left_end}

-- Some lines are left.
pub record Partly (K cutoff : ℕ) (text : List ℕ) (fasta : Bool) (out : List ℕ) (at size : ℕ)
    (ls : List (List ℕ)) : Type 0 where
  pub room : Room out at size
  pub plain : fasta ≡ false → size ≡ 0
  pub same : packed K cutoff (labels_in text) ≡ whole fasta out at size ls

-- The labels of the text, before the first line.
left_all : (text : List ℕ) → left (is_header text) [] (lines_from [] text) ≡ labels_in text
unfolding left labels_in filled
left_all text = go (is_header text) refl
  where
    go : (t : Bool) → is_header text ≡ t → left t [] (lines_from [] text) ≡ labels_in text
    go true e = rw e
    go false e = rw e

module _ (K cutoff : ℕ) (text : List ℕ) (fasta : Bool) where
  pub partly_none : (out₀ out : List ℕ) → fasta ≡ is_header text → length out₀ ≡ 16384
      → out ≡ over (head_record K cutoff) out₀
      → Partly K cutoff text fasta out 7 0 (lines_after text 0)
  unfolding packed
  partly_none out₀ out f l e =
      record {
        room = record {
          long = ap length e ∙ omega (arith, length-drop 7 out₀);
          inside = omega arith;
          letters = λ u. absurd (u refl);
        };
        plain = λ _. refl;
        same = rw (← lines_cut text, f, left_all, e);
      }

  module _ {out : List ℕ} {at size : ℕ} where
    module _ {line : List ℕ} {ls : List (List ℕ)} (p : Partly K cutoff text fasta out at size (line ∷ ls)) where
      -- One line more.
      pub partly_more : {a n : ℕ} {out' : List ℕ} → Goes fasta line out at size a n out'
          → Partly K cutoff text fasta out' a n ls
      partly_more g = record { room = g.room; plain = g.plain; same = p.same ∙ g.same ls }

      pub partly_large : ((ls : List (List ℕ)) → 16384 < length (whole fasta out at size (line ∷ ls)))
          → 16384 < length (packed K cutoff (labels_in text))
      partly_large t = rw p.same (t ls)

    -- The next line of the text stands in front of those that are left.
    pub partly_next : (k : ℕ) (line l : List ℕ) → Partly K cutoff text fasta out at size (lines_after text k)
        → k < length (cut text) → line ≡ get_or (cut text) k line → l ≡ trimmed line
        → Partly K cutoff text fasta out at size (l ∷ lines_after text (k + 1))
    partly_next k line l p h e t = rw t (rw (lines_next text k line h e) at p)

    -- No line is left, and the last label is closed.
    pub partly_all : Partly K cutoff text fasta out at size [] → {r : ℕ} {out' : List ℕ} → Closes out at size r out'
        → Measures K cutoff text (Ok r) out'
    partly_all p {r} {out'} c =
        let e : take r out' ≡ packed K cutoff (labels_in text) = c.text ∙ sym (p.same ∙ rw left_end) in
        (sym (length-take-le r out' (omega (arith, c.room.long, c.room.inside))) ∙ ap length e, c.room.inside, e)
