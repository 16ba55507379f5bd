-- The run of all anchors, label by label: each with its anchor and the places of its two walks. Assumes nothing.
use Rattle.std.specs.Prelude.{ℕ, suc, ◌+◌, ◌≡◌, true, false, cond, ◌||◌, List, [], ◌∷◌, ◌++◌, map, reverse, eqb, length, get_or, set, replicate}
use Rattle.dna.specs.Letters.{letter_of, reverse_complement}
use Rattle.kmer.specs.Kmer.{rc, letters}
use Rattle.state.specs.declared.Side.TheVariants.{Front, Back}
use Rattle.graph.specs.declared.Step.{Step}
use Rattle.graph.specs.Walks.{Ends, seen, closed, visited, isolated}
use Rattle.graph.specs.Labels.{lesser}
use Rattle.laws.specs.Trails.{Place, occ, Trail}

-- A label's anchor, and the places of its walks; the Front walk's are none where the Back walk closed.
pub record Piece : Type 0 where
  pub anchor : ℕ
  pub back : List Place
  pub front : List Place

-- How often a vertex stands in a piece, and in some.
unfoldable pub in_piece : ℕ → Piece → ℕ
in_piece v p = cond (eqb p.anchor v) 1 0 + occ v p.back + occ v p.front

unfoldable pub in_pieces : ℕ → List Piece → ℕ
in_pieces v [] = 0
in_pieces v (p ∷ ps) = in_piece v p + in_pieces v ps

-- The letters that a walk appended.
abbrev pub appended : List Place → List ℕ
appended ps = map letter_of (map (λ (p : Place). p.base) ps)

module _ (K : ℕ) (ks : List ℕ) where
  -- The k-mers of a walk's places as it sees them.
  abbrev pub kmers : List Place → List ℕ
  kmers ps = map (λ (p : Place). seen K ks p.vertex p.exit) ps

  -- The text of a piece, on the strand where its anchor stands as it is stored.
  unfoldable pub reading : Piece → List ℕ
  reading p = reverse_complement (appended p.front) ++ (letters K (get_or ks p.anchor 0) ++ appended p.back)

  -- Its k-mers: the Front walk's turned round, the last one first, the anchor's, and the Back walk's as it sees them.
  abbrev pub read_kmers : Piece → List ℕ
  read_kmers p = reverse (map (rc K) (kmers p.front)) ++ (get_or ks p.anchor 0 ∷ kmers p.back)

module _ (K : ℕ) (ks : List ℕ) (es : List Ends) where
  -- One anchor: the walks from it under these marks, the marks after them, and the label.
  pub data Taken : List ℕ → Piece → List ℕ → List ℕ → Type 0 where
    round : {marks after label : List ℕ} {a : ℕ} {back : List Place} {st : Step}
        → Trail K ks es a Back (set marks a 1) a Back back after st → closed st ≡ true
        → label ≡ lesser (letters K (get_or ks a 0) ++ appended back)
        → Taken marks (record { anchor = a; back = back; front = [] }) after label
    straight : {marks between after label : List ℕ} {a : ℕ} {back front : List Place} {st st₂ : Step}
        → Trail K ks es a Back (set marks a 1) a Back back between st → closed st ≡ false
        → Trail K ks es a Front (set between a 1) a Front front after st₂
        → label ≡ lesser (reverse_complement (letters K (rc K (get_or ks a 0)) ++ appended front) ++ appended back)
        → Taken marks (record { anchor = a; back = back; front = front }) after label

  -- The first so many anchors: the marks, the pieces and the labels, in anchor order.
  pub data Tour : ℕ → List ℕ → List Piece → List (List ℕ) → Type 0 where
    none : Tour 0 (replicate (length ks) 0) [] []
    passes : {a : ℕ} {marks : List ℕ} {ps : List Piece} {ls : List (List ℕ)} → Tour a marks ps ls
        → (visited marks a || isolated es a) ≡ true → Tour (suc a) marks ps ls
    takes : {a : ℕ} {marks after : List ℕ} {ps : List Piece} {ls : List (List ℕ)} {back front : List Place} {l : List ℕ} → Tour a marks ps ls
        → (visited marks a || isolated es a) ≡ false → Taken marks (record { anchor = a; back = back; front = front }) after l
        → Tour (suc a) after (ps ++ (record { anchor = a; back = back; front = front } ∷ [])) (ls ++ (l ∷ []))
