-- An anchor's piece of the trail: how long it is, and that, read back, it tells of an anchor and gives the anchor's
-- label. Assumes nothing.
use mathlib.Core.Path.{◌≡◌, refl, sym, ap, ◌∙◌}
use mathlib.Core.Bool.{Bool, true, false, cond}
use mathlib.Core.Logic.{⊎_elim}
use mathlib.Core.List.{List, [], ◌∷◌, ◌++◌, map, append_assoc}
use Prim.Native.Nat.{ℕ, ◌+◌, ◌^◌, ◌≤◌, ◌<◌}
use native.Mathlib.Omega.{arith}
use borrow.Author.Tests.{ne_eqb}
use lib.Dec.{eqb}
use lib.ListN.{length, get_or, drop, length-map, length-append}
use Rattle.lemmas.proofs.Tests.{never}
use Rattle.lemmas.proofs.Numbers.{true_or_false}
use Rattle.dna.specs.Letters.{letter_of, reverse_complement}
use Rattle.kmer.specs.Kmer.{rc, letters}
use Rattle.kmer.proofs.Strands.{rc_rc}
use Rattle.kmer.proofs.Texts.{letters_rc}
use Rattle.graph.specs.Walks.{Ends, Walk, closed}
use Rattle.graph.specs.Labels.{label_of}
use Rattle.laws.proofs.Windows.{turn_append}
use Rattle.contraction.specs.Trail.{piece_of, letter_count, Piece, label_from, piece_length}
use Rattle.contraction.proofs.Reading.{letter_above, count_is, count_ended, byte_behind, letters_before, text_behind}

-- A text begins with another.
pub record Begins (text s : List ℕ) : Type 0 where
  pub behind : List ℕ
  pub whole : s ≡ text ++ behind

-- The first byte tells whether there is a piece.
pub skips_byte : (t : Bool) (back front : Walk) (s : List ℕ) → Begins (cond t (2 ∷ []) (piece_of back front)) s
    → eqb (get_or s 0 0) 2 ≡ t
skips_byte true back front s g = rw g.whole
skips_byte false back front s g = ap (λ (l : List ℕ). eqb (get_or l 0 0) 2) g.whole ∙ go back.bases (closed back.last)
  where
    go : (bs : List ℕ) (c : Bool)
        → eqb (get_or (map letter_of bs ++ cond c (1 ∷ []) (0 ∷ (map letter_of front.bases ++ (0 ∷ []))) ++ g.behind) 0
        0) 2 ≡ false
    go [] true = refl
    go [] false = refl
    go (b ∷ bs) c = ne_eqb (letter_of b) 2 (λ e. omega (arith, letter_above b))

-- A byte for each base, and one behind each walk.
module _ (back front : Walk) where
  pub closed_long : closed back.last ≡ true → length (piece_of back front) ≡ length back.bases + 1
  closed_long c = rw c (omega (
    arith,
    length-append (map letter_of back.bases) (1 ∷ []),
    length-map back.bases letter_of,
  ))

  pub open_long : closed back.last ≡ false → length
      (piece_of back front) ≡ length back.bases + 1 + length front.bases + 1
  open_long c =
      rw c
      (omega (
        arith,
        length-append (map letter_of back.bases) (0 ∷ (map letter_of front.bases ++ (0 ∷ []))),
        length-append (map letter_of front.bases) (0 ∷ []),
        length-map back.bases letter_of,
        length-map front.bases letter_of,
      ))

-- What a vertex gives is at least a byte.
pub given_some : (t : Bool) (back front : Walk) → 1 ≤ length (cond t (2 ∷ []) (piece_of back front))
given_some true back front = omega arith
given_some false back front =
    ⊎_elim (λ c. omega (arith, closed_long back front c)) (λ c. omega (arith, open_long back front c))
    (true_or_false (closed back.last))

-- The other strand of a k-mer's reverse complement with a text behind it.
turned : (K x : ℕ) → x < 4 ^ K → (front : List ℕ) → reverse_complement
    (letters K (rc K x) ++ front) ≡ reverse_complement front ++ letters K x
turned K x small front =
    turn_append (letters K (rc K x)) front
    ∙ ap (λ (l : List ℕ). reverse_complement front ++ l)
    (sym (letters_rc K (rc K x)) ∙ ap (letters K) (rc_rc K x small))

module _ (K x : ℕ) (small : x < 4 ^ K) (ks : List ℕ) (es : List Ends) (back front : Walk) {s : List ℕ}
    (g : Begins (piece_of back front) s) where
  -- What is told of a text that begins with a piece.
  pub record Told : Type 0 where
    pub piece : Piece s
    pub label : label_from K x s ≡ label_of K ks es x back front
    pub long : piece_length s ≡ length (piece_of back front)

  told_closed : closed back.last ≡ true → Told
  unfolding label_from piece_length
  told_closed c =
      let w : s ≡ map letter_of back.bases ++ (1 ∷ g.behind) = g.whole ∙ rw (c, append_assoc) in
      let b = byte_behind back.bases g.behind 1 (omega arith) w in
      let n = count_is back.bases g.behind 1 (omega arith) w in
      record {
        piece = record {
          back_ends = count_ended back.bases g.behind 1 (omega arith) w;
          front_ends = rw b (λ e. never true refl e);
        };
        label = rw (b, letters_before back.bases g.behind 1 (omega arith) w, c);
        long = rw b (omega (arith, n, closed_long back front c));
      }

  told_open : closed back.last ≡ false → Told
  unfolding label_from piece_length
  told_open c =
      let rest : List ℕ = map letter_of front.bases ++ (0 ∷ g.behind) in
      let w : s ≡ map letter_of back.bases ++ (0 ∷ (map letter_of front.bases ++ (0 ∷ g.behind))) =
      g.whole ∙ rw (c, append_assoc, append_assoc) in
      let b = byte_behind back.bases rest 0 (omega arith) w in
      let n = count_is back.bases rest 0 (omega arith) w in
      let d : drop (letter_count s + 1) s ≡ map letter_of front.bases ++ (0 ∷ g.behind) = text_behind back.bases rest 0
      (omega arith) w in
      let m = count_is front.bases g.behind 0 (omega arith) d in
      record {
        piece = record {
          back_ends = count_ended back.bases rest 0 (omega arith) w;
          front_ends = λ _. count_ended front.bases g.behind 0 (omega arith) d;
        };
        label =
            rw (
              b,
              letters_before back.bases rest 0 (omega arith) w,
              letters_before front.bases g.behind 0 (omega arith) d,
              c,
              turned K x small (map letter_of front.bases),
            );
        long = rw b (omega (arith, n, m, open_long back front c));
      }

  pub told : Told
  told = ⊎_elim told_closed told_open (true_or_false (closed back.last))
