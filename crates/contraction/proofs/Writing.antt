-- One label written in its place from an anchor's piece: the k-mer and the Back walk, or before them the Front walk on
-- the other strand. Assumes nothing.
use mathlib.Core.Path.{◌≡◌, sym, ap, ◌∙◌}
use mathlib.Core.Bool.{true, false}
use mathlib.Core.List.{List, ◌++◌}
use Prim.Native.Nat.{ℕ, ◌+◌, ◌≤◌, ◌<◌}
use native.Mathlib.Omega.{arith}
use borrow.Author.Tests.{eq-eqb, ne_eqb}
use lib.Dec.{eqb}
use lib.Seq.{paste, drop-drop, get_or-drop}
use lib.ListN.{length, get_or, drop, length-drop, length-append}
use Rattle.dna.specs.Text.{part}
use Rattle.dna.specs.Letters.{reverse_complement}
use Rattle.dna.proofs.Reversal.{length_reverse_complement}
use Rattle.kmer.specs.Kmer.{letters}
use Rattle.kmer.proofs.Spelling.{length_letters}
use Rattle.graph.specs.Labels.{lesser}
use Rattle.laws.proofs.Plain.{lesser_length}
use Rattle.contraction.specs.Says.{WritesLabel}
use Rattle.contraction.specs.Trail.{letter_count, Ended, Piece, label_from, piece_length}
use Rattle.contraction.proofs.Pasting.{part_length}
use Rattle.contraction.proofs.Placing.{Placed, placed_first, placed_length, placed_more, placed_anew}

-- What is asked: a piece stands in the trail from a place on, and its label has room; the Back walk has n letters.
pub record Legible (K x : ℕ) (trail : List ℕ) (from : ℕ) (buffer : List ℕ) (at n : ℕ) : Type 0 where
  pub piece : Piece (drop from trail)
  pub room : at + length (label_from K x (drop from trail)) ≤ length buffer
  pub back : n ≡ letter_count (drop from trail)

module _ {K x : ℕ} {trail : List ℕ} {from : ℕ} {buffer : List ℕ} {at n : ℕ}
    (y : Legible K x trail from buffer at n) where
  pub back_inside : from + n < length trail
  back_inside = omega (arith, y.back, y.piece.back_ends.within, length-drop from trail)

  byte_is : get_or (drop from trail) (letter_count (drop from trail)) 0 ≡ get_or trail (from + n) 0
  byte_is = ap (λ (i : ℕ). get_or (drop from trail) i 0) (sym y.back) ∙ get_or-drop from trail n 0

  back_long : length (part trail from n) ≡ n
  back_long = part_length trail from n (omega (arith, back_inside))

  -- The Back walk closed.
  module _ (c : get_or trail (from + n) 0 ≡ 1) where
    tells_closed : eqb (get_or (drop from trail) (letter_count (drop from trail)) 0) 1 ≡ true
    tells_closed = eq-eqb _ 1 (byte_is ∙ c)

    label_closed : label_from K x (drop from trail) ≡ lesser (letters K x ++ part trail from n)
    unfolding label_from
    label_closed = rw (tells_closed, ← y.back)

    long_closed : length (letters K x ++ part trail from n) ≡ K + n
    long_closed = omega (arith, length-append (letters K x) (part trail from n), length_letters K x, back_long)

    pub fits_closed : at + (K + n) ≤ length buffer
    fits_closed = omega (
      arith,
      y.room,
      ap length label_closed,
      lesser_length (letters K x ++ part trail from n),
      long_closed,
    )

    module _ {b₁ : List ℕ} (q₁ : b₁ ≡ paste buffer at (letters K x) K) where
      first : Placed buffer at (letters K x) b₁
      first = placed_first buffer at (letters K x) K (sym (length_letters K x)) (omega (arith, fits_closed)) q₁

      pub room_closed : at + K + n ≤ length b₁
      room_closed = omega (arith, fits_closed, placed_length first)

      module _ {b₂ : List ℕ} (q₂ : b₂ ≡ paste b₁ (at + K) (part trail from n) n) where
        text_closed : Placed buffer at (letters K x ++ part trail from n) b₂
        text_closed =
            placed_more first (part trail from n) K n (sym (length_letters K x)) (sym back_long)
            (omega (arith, fits_closed, length_letters K x, back_long)) q₂

        pub whole_closed : at + (K + n) ≤ length b₂
        whole_closed = omega (arith, fits_closed, placed_length text_closed)

        pub written_closed : {b₃ : List ℕ} → b₃ ≡ paste b₂ at (lesser (part b₂ at (K + n))) (K + n)
            → WritesLabel K x trail from (record { bases = K + n; end = from + n + 1 }) buffer at b₃
        unfolding piece_length
        written_closed q₃ = record {
          bases = sym (ap length label_closed ∙ lesser_length (letters K x ++ part trail from n) ∙ long_closed);
          end = rw tells_closed (omega (arith, y.back));
          letters = rw label_closed (placed_anew text_closed lesser lesser_length (K + n) (sym long_closed) q₃).cells;
        }

  -- It stopped, and the Front walk stands behind it.
  module _ (o : get_or trail (from + n) 0 ≡ 1 → ⊥) where
    tells_open : eqb (get_or (drop from trail) (letter_count (drop from trail)) 0) 1 ≡ false
    tells_open = ne_eqb _ 1 (λ e. o (sym byte_is ∙ e))

    behind : drop (letter_count (drop from trail) + 1) (drop from trail) ≡ drop (from + n + 1) trail
    behind =
        let e : from + (n + 1) ≡ from + n + 1 = omega arith in
        ap (λ (i : ℕ). drop (i + 1) (drop from trail)) (sym y.back) ∙ drop-drop (n + 1) from trail
        ∙ ap (λ (i : ℕ). drop i trail) e

    pub front_ends : Ended (drop (from + n + 1) trail)
    front_ends = rw behind at (y.piece.front_ends tells_open)

    module _ {m : ℕ} (em : m ≡ letter_count (drop (from + n + 1) trail)) where
      abbrev turned : List ℕ
      turned = reverse_complement (part trail (from + n + 1) m)

      pub front_inside : from + n + 1 + m ≤ length trail
      front_inside = omega (arith, em, front_ends.within, length-drop (from + n + 1) trail)

      front_long : length turned ≡ m
      front_long = length_reverse_complement (part trail (from + n + 1) m)
          ∙ part_length trail (from + n + 1) m front_inside

      label_open : label_from K x (drop from trail) ≡ lesser (turned ++ letters K x ++ part trail from n)
      unfolding label_from
      label_open = rw (tells_open, behind, ← em, ← y.back)

      mid_long : length (turned ++ letters K x) ≡ m + K
      mid_long = omega (arith, length-append turned (letters K x), front_long, length_letters K x)

      long_open : length (turned ++ letters K x ++ part trail from n) ≡ m + K + n
      long_open = omega (arith, length-append (turned ++ letters K x) (part trail from n), mid_long, back_long)

      pub fits_open : at + (m + K + n) ≤ length buffer
      fits_open = omega (
        arith,
        y.room,
        ap length label_open,
        lesser_length (turned ++ letters K x ++ part trail from n),
        long_open,
      )

      module _ {b₁ : List ℕ} (q₁ : b₁ ≡ paste buffer at turned m) where
        front_placed : Placed buffer at turned b₁
        front_placed = placed_first buffer at turned m (sym front_long) (omega (arith, fits_open)) q₁

        pub kmer_room : at + m + K ≤ length b₁
        kmer_room = omega (arith, fits_open, placed_length front_placed)

        module _ {b₂ : List ℕ} (q₂ : b₂ ≡ paste b₁ (at + m) (letters K x) K) where
          mid_placed : Placed buffer at (turned ++ letters K x) b₂
          mid_placed =
              placed_more front_placed (letters K x) m K (sym front_long) (sym (length_letters K x))
              (omega (arith, fits_open, front_long, length_letters K x)) q₂

          pub back_room : at + m + K + n ≤ length b₂
          back_room = omega (arith, fits_open, placed_length mid_placed)

          module _ {b₃ : List ℕ} (q₃ : b₃ ≡ paste b₂ (at + m + K) (part trail from n) n) where
            text_open : Placed buffer at (turned ++ letters K x ++ part trail from n) b₃
            text_open =
                let e : at + m + K ≡ at + (m + K) = omega arith in
                placed_more mid_placed (part trail from n) (m + K) n (sym mid_long) (sym back_long)
                (omega (arith, fits_open, mid_long, back_long)) (rw e at q₃)

            pub whole_open : at + (m + K + n) ≤ length b₃
            whole_open = omega (arith, fits_open, placed_length text_open)

            pub written_open : {b₄ : List ℕ} → b₄ ≡ paste b₃ at (lesser (part b₃ at (m + K + n))) (m + K + n)
                → WritesLabel K x trail from (record { bases = m + K + n; end = from + n + m + 2 }) buffer at b₄
            unfolding piece_length
            written_open q₄ = record {
              bases = sym (ap length label_open ∙ lesser_length (turned ++ letters K x ++ part trail from n)
                  ∙ long_open);
              end = rw (tells_open, behind) (omega (arith, em, y.back));
              letters = rw label_open (placed_anew text_open lesser lesser_length (m + K + n) (sym long_open) q₄).cells;
            }
