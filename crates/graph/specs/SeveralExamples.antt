-- Labels of an index added by one call, computed: all of them, those before one that is refused, and none. Assumes nothing.
use Rattle.std.specs.Prelude.{ℕ, ◌≡◌, refl, List, [], ◌∷◌, map}
use Prim.Native.String.{String}
use Rattle.dna.specs.Text.{bytes, open_text}
use Rattle.dna.specs.Letters.{open_letters}
use Rattle.dna.specs.Answer.{Answer, gives, refuses}
use Rattle.kmer.specs.Kmer.{open_kmer}
use Rattle.state.specs.Counted.{four_bits, open_counted}
use Rattle.label_index.specs.Entries.{open_entries}
use Rattle.graph.specs.Table.{open_table}
use Rattle.graph.specs.Sightings.{same_canonical, open_sightings}
use Rattle.graph.specs.Adding.{Edges, open_adding}
use Rattle.graph.specs.Several.{Several, add_labels, open_several}

-- The number stored, the keys' words and the counts.
pub record Lent : Type 0 where
  pub stored : ℕ
  pub keys : List ℕ
  pub counts : List ℕ

abbrev lent : ℕ → List ℕ → List ℕ → Lent
lent stored keys counts = record { stored = stored; keys = keys; counts = counts }

-- A text and the starts and lengths of labels in it, of which so many are to be added at K.
pub record Index : Type 0 where
  pub K : ℕ
  pub text : String
  pub starts : List ℕ
  pub lengths : List ℕ
  pub count : ℕ

-- The table before; the answer to the last label tried, how many were added, and the table after.
pub record Example : Type 0 where
  pub index : Index
  pub table : Lent
  pub answer : Answer Edges
  pub labels : ℕ
  pub after : Lent

abbrev example : Index → Lent → Answer Edges → ℕ → Lent → Example
example index table answer labels after = record { index = index; table = table; answer = answer; labels = labels; after = after }

abbrev added : Example → Several
added e =
    let t = e.table in
    let i = e.index in
    add_labels four_bits same_canonical i.K t.stored t.keys t.counts (bytes i.text) i.starts i.lengths i.count

abbrev expected : Example → Several
expected e =
    let t = e.after in
    record { answer = e.answer; labels = e.labels; stored = t.stored; keys = t.keys; counts = t.counts }

-- Room for three vertices, and for two.
abbrev three : Lent
three = lent 0 (9 ∷ 9 ∷ 9 ∷ 9 ∷ 9 ∷ 9 ∷ []) (7 ∷ 7 ∷ 7 ∷ [])

abbrev two : Lent
two = lent 0 (9 ∷ 9 ∷ 9 ∷ 9 ∷ []) (7 ∷ 7 ∷ [])

-- P1's label, one that is no text of bases, and AAA.
abbrev mixed : ℕ → ℕ → Index
mixed K count = record { K = K; text = "ACCCCACCNAAA"; starts = 0 ∷ 5 ∷ 9 ∷ []; lengths = 5 ∷ 4 ∷ 3 ∷ []; count = count }

abbrev edges : ℕ → ℕ → Answer Edges
edges m stored = gives (record { edges = m; stored = stored })

abbrev pub examples : List Example
examples =
    -- P4: CAT and ATG.
    example (record { K = 2; text = "CATATG"; starts = 0 ∷ 3 ∷ []; lengths = 3 ∷ 3 ∷ []; count = 2 }) three (edges 1 2) 2
    (lent 2 (3 ∷ 0 ∷ 4 ∷ 0 ∷ 9 ∷ 9 ∷ []) (0x01000010 ∷ 0x20000000 ∷ 7 ∷ []))
    -- P1, and the second label refused: the third is not tried.
    ∷ example (mixed 3 1) three (edges 2 2) 1 (lent 2 (5 ∷ 0 ∷ 21 ∷ 0 ∷ 9 ∷ 9 ∷ []) (0x00100000 ∷ 0x00100001 ∷ 7 ∷ []))
    ∷ example (mixed 3 3) three (refuses 3 (3 ∷ 78 ∷ [])) 1 (lent 2 (5 ∷ 0 ∷ 21 ∷ 0 ∷ 9 ∷ 9 ∷ []) (0x00100000 ∷ 0x00100001 ∷ 7 ∷ []))
    -- The second label has no room.
    ∷ example (record { K = 3; text = "ACCCCAAA"; starts = 0 ∷ 5 ∷ []; lengths = 5 ∷ 3 ∷ []; count = 2 }) two (refuses 6 []) 1
    (lent 2 (5 ∷ 0 ∷ 21 ∷ 0 ∷ []) (0x00100000 ∷ 0x00100001 ∷ []))
    -- 12: an entry past the text's end by one byte, and one entry too many.
    ∷ example (record { K = 3; text = "ACCCC"; starts = 0 ∷ 3 ∷ []; lengths = 5 ∷ 3 ∷ []; count = 2 }) three (refuses 12 []) 0 three
    ∷ example (mixed 3 4) three (refuses 12 []) 0 three
    -- 5 and 1, once there is a label.
    ∷ example (mixed 3 1) (lent 2 (21 ∷ 0 ∷ 5 ∷ 0 ∷ []) (7 ∷ 7 ∷ [])) (refuses 5 []) 0 (lent 2 (21 ∷ 0 ∷ 5 ∷ 0 ∷ []) (7 ∷ 7 ∷ []))
    ∷ example (mixed 64 1) three (refuses 1 (64 ∷ [])) 0 three
    ∷ example (mixed 64 0) three (edges 0 0) 0 three
    ∷ []

pub several : map added examples ≡ map expected examples
unfolding open_text open_letters open_kmer open_counted open_table open_sightings open_adding open_entries open_several
several = refl
