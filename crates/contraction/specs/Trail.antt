-- What the survey leaves for the writing: of each vertex in turn that it is no anchor, or the letters of its walks.
-- Assumes nothing.
use Rattle.std.specs.Prelude.{ℕ, zero, suc, ◌+◌, ◌≤◌, ◌<◌, ◌≡◌, false, cond, ◌||◌, List, [], ◌∷◌, ◌++◌, map, ltb, eqb}
use Rattle.std.specs.Prelude.{length, get_or, take, drop}
use Rattle.dna.specs.Letters.{letter_of, reverse_complement}
use Rattle.kmer.specs.Kmer.{letters}
use Rattle.state.specs.declared.Side.TheVariants.{Front, Back}
use Rattle.graph.specs.Walks.{Walk, walk, closed, visited, isolated}
use Rattle.graph.specs.Labels.{lesser}
use Rattle.marks.specs.Marks.{ends, visits}
use Rattle.marks.specs.Ready.{keys_for}
use Rattle.contraction.specs.Over.{run_in}

-- The letters of the Back walk with 1 behind them if it closed; else with 0 behind them, and then the letters of the
-- Front walk with 0 behind them.
abbrev pub piece_of : Walk → Walk → List ℕ
piece_of back front =
    map letter_of back.bases
    ++ cond (closed back.last) (1 ∷ []) (0 ∷ (map letter_of front.bases ++ (0 ∷ [])))

module _ (K : ℕ) (keys ms : List ℕ) where
  -- The piece of anchor a under some marks, and under those at hand.
  abbrev pub piece_from : List ℕ → ℕ → List ℕ
  piece_from marks a =
      let back = walk K (keys_for ms keys) (ends ms) a Back marks in
      piece_of back (walk K (keys_for ms keys) (ends ms) a Front back.marks)

  abbrev pub piece_in : ℕ → List ℕ
  piece_in a = piece_from (visits ms) a

  -- The pieces of the first a vertices; 2 for one that is no anchor.
  unfoldable pub trail_in : ℕ → List ℕ
  trail_in zero = []
  trail_in (suc a) =
      let r = run_in K keys ms a in
      trail_in a ++ cond (visited r.marks a || isolated (ends ms) a) (2 ∷ []) (piece_from r.marks a)

  -- A slice begins with the trail of all vertices.
  pub record Trails (trail : List ℕ) : Type 0 where
    pub holds : take (length (trail_in (length ms))) trail ≡ trail_in (length ms)
    pub long : length (trail_in (length ms)) ≤ length trail

-- ---- a piece read back

-- How many bytes stand before the first that is no letter, which is 0, 1 or 2.
unfoldable pub letter_count : List ℕ → ℕ
letter_count [] = 0
letter_count (b ∷ s) = let rest = letter_count s in cond (ltb 2 b) (suc rest) 0

-- The letters with which a text begins are ended by a byte that is none.
pub record Ended (s : List ℕ) : Type 0 where
  pub within : letter_count s < length s

-- A text begins with an anchor's piece: after the Back walk's letters comes 1, or another byte and the Front walk's
-- letters.
pub record Piece (s : List ℕ) : Type 0 where
  pub back_ends : Ended s
  pub front_ends : eqb (get_or s (letter_count s) 0) 1 ≡ false → Ended (drop (letter_count s + 1) s)

-- The label of k-mer x and the piece with which a text begins.
unfoldable pub label_from : ℕ → ℕ → List ℕ → List ℕ
label_from K x s =
    let back = take (letter_count s) s in
    let rest = drop (letter_count s + 1) s in
    lesser (cond (eqb (get_or s (letter_count s) 0) 1) (letters K x ++ back)
    (reverse_complement (take (letter_count rest) rest) ++ letters K x ++ back))

-- How long that piece is.
unfoldable pub piece_length : List ℕ → ℕ
piece_length s =
    let rest = drop (letter_count s + 1) s in
    cond (eqb (get_or s (letter_count s) 0) 1) (letter_count s + 1) (letter_count s + letter_count rest + 2)
