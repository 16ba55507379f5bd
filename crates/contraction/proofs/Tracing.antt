-- An anchor's piece written into the trail: the Back walk's letters, a byte behind them, and the Front walk's alike.
-- Assumes nothing.
use mathlib.Core.Path.{◌≡◌, refl, sym, ap, ◌∙◌}
use mathlib.Core.Bool.{Bool, true, false}
use mathlib.Core.List.{List, [], ◌∷◌, ◌++◌, map, append_assoc}
use Prim.Native.Nat.{ℕ, ◌+◌, ◌≤◌, ◌<◌}
use native.Mathlib.Omega.{arith}
use lib.Seq.{paste}
use lib.ListN.{length, set, length-append, length-map}
use Rattle.dna.specs.Letters.{letter_of}
use Rattle.state.specs.declared.Side.TheVariants.{Front, Back}
use Rattle.graph.specs.Walks.{Walk, walk, closed}
use Rattle.marks.specs.Marks.{ends}
use Rattle.contraction.specs.Over.{walk_in}
use Rattle.contraction.specs.Says.{Spells}
use Rattle.contraction.specs.Trail.{piece_in}
use Rattle.contraction.specs.declared.Walked.{Walked}
use Rattle.contraction.proofs.Labelling.{front_is}
use Rattle.marks.specs.Ready.{keys_for, Ready}
use Rattle.contraction.proofs.Pieces.{closed_long, open_long}
use Rattle.contraction.proofs.Placing.{Placed, placed_first, placed_more, placed_one}

-- What is asked: the anchor is a vertex, and its piece has room from a place on.
pub record Asked (K : ℕ) (keys ms : List ℕ) (a : ℕ) (trail : List ℕ) (at : ℕ) : Type 0 where
  pub ready : Ready K keys ms
  pub vertex : a < length ms
  pub room : at + length (piece_in K keys ms a) ≤ length trail

module _ {K : ℕ} {keys ms : List ℕ} {a : ℕ} {trail : List ℕ} {at : ℕ} (y : Asked K keys ms a trail at) where
  abbrev B : Walk
  B = walk_in K keys ms a Back

  abbrev F : Walk
  F = walk K (keys_for ms keys) (ends ms) a Front B.marks

  piece_closed : closed B.last ≡ true → map letter_of B.bases ++ (1 ∷ []) ≡ piece_in K keys ms a
  piece_closed c = rw c

  piece_open : closed B.last ≡ false → map letter_of B.bases ++ (0 ∷ []) ++ map letter_of F.bases ++
      (0 ∷ []) ≡ piece_in K keys ms a
  piece_open c = rw (c, append_assoc, append_assoc)

  pub back_room : at + length B.bases < length trail
  back_room = go (closed B.last) refl
    where
      go : (t : Bool) → closed B.last ≡ t → at + length B.bases < length trail
      go true c = omega (arith, y.room, closed_long B F c)
      go false c = omega (arith, y.room, open_long B F c)

  module _ {b : Walked} {ms₁ trail₁ : List ℕ} (back : Spells K keys ms a Back b ms₁ trail at trail₁) where
    back_placed : Placed trail at (map letter_of B.bases) trail₁
    back_placed =
        placed_first trail at (map letter_of B.bases) (length B.bases) (sym (length-map B.bases letter_of))
        (omega (arith, back_room))
        back.letters

    bases_is : b.bases ≡ length (map letter_of B.bases)
    bases_is = back.walks.bases ∙ sym (length-map B.bases letter_of)

    pub half_fits : at + b.bases < length trail
    half_fits = omega (arith, back.walks.bases, back_room)

    module _ (c : closed b.last ≡ true) where
      ended : closed B.last ≡ true
      ended = ap closed (sym back.walks.last) ∙ c

      pub end_closed : at + b.bases + 1 ≡ at + length (piece_in K keys ms a)
      end_closed = omega (arith, closed_long B F ended, back.walks.bases)

      pub traced_closed : Placed trail at (piece_in K keys ms a) (set trail₁ (at + b.bases) 1)
      traced_closed = rw (piece_closed ended) at (placed_one back_placed 1 b.bases bases_is refl half_fits)

    module _ (c : closed b.last ≡ false) where
      going : closed B.last ≡ false
      going = ap closed (sym back.walks.last) ∙ c

      stop_placed : Placed trail at (map letter_of B.bases ++ (0 ∷ [])) (set trail₁ (at + b.bases) 0)
      stop_placed = placed_one back_placed 0 b.bases bases_is refl half_fits

      same_front : walk_in K keys ms₁ a Front ≡ F
      same_front = front_is y.ready a back.walks

      module _ {f : Walked} {ms₂ trail₂ : List ℕ}
          (front : Spells K keys ms₁ a Front f ms₂ (set trail₁ (at + b.bases) 0) (at + b.bases + 1) trail₂) where
        front_long : f.bases ≡ length F.bases
        front_long = front.walks.bases ∙ ap (λ (w : Walk). length w.bases) same_front

        stop_long : length (map letter_of B.bases ++ (0 ∷ [])) ≡ b.bases + 1
        stop_long = omega (arith, length-append (map letter_of B.bases) (0 ∷ []), bases_is)

        front_placed : Placed trail at (map letter_of B.bases ++ (0 ∷ []) ++ map letter_of F.bases) trail₂
        front_placed =
            let e : at + b.bases + 1 ≡ at + (b.bases + 1) = omega arith in
            placed_more stop_placed (map letter_of F.bases) (b.bases + 1) (length F.bases) (sym stop_long)
            (sym (length-map F.bases letter_of))
            (omega (arith, y.room, open_long B F going, back.walks.bases, stop_long, length-map F.bases letter_of))
            (rw e at front.letters
            ∙ ap (λ (w : Walk). paste (set trail₁ (at + b.bases) 0) (at + (b.bases + 1)) (map letter_of w.bases)
            (length w.bases)) same_front)

        pub end_fits : at + b.bases + 1 + f.bases < length trail
        end_fits = omega (arith, y.room, open_long B F going, back.walks.bases, front_long)

        pub end_open : at + b.bases + 1 + f.bases + 1 ≡ at + length (piece_in K keys ms a)
        end_open = omega (arith, open_long B F going, back.walks.bases, front_long)

        pub traced_open : Placed trail at (piece_in K keys ms a) (set trail₂ (at + b.bases + 1 + f.bases) 0)
        traced_open =
            let n : b.bases + 1 + f.bases ≡ length (map letter_of B.bases ++ (0 ∷ []) ++ map letter_of F.bases) =
            omega (
              arith,
              stop_long,
              front_long,
              length-append (map letter_of B.bases ++ (0 ∷ [])) (map letter_of F.bases),
              length-map F.bases letter_of,
            ) in
            let i : at + b.bases + 1 + f.bases ≡ at + (b.bases + 1 + f.bases) = omega arith in
            rw (piece_open going) at (placed_one front_placed 0 (b.bases + 1 + f.bases) n i (omega (arith, end_fits)))
