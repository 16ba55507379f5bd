-- Contraction of tables made by hand, in rooms that just suffice or do not: answers and slices, computed. Assumes nothing.
use Rattle.std.specs.Prelude.{ℕ, ◌≡◌, refl, List, [], ◌∷◌, map}
use Prim.Native.String.{String}
use Rattle.dna.specs.Text.{bytes, open_text}
use Rattle.dna.specs.Letters.{open_letters}
use Rattle.dna.specs.Order.{open_order}
use Rattle.dna.specs.Answer.{Answer, gives, refuses}
use Rattle.kmer.specs.Kmer.{open_kmer}
use Rattle.state.specs.Counted.{four_bits, open_counted}
use Rattle.graph.specs.Table.{open_table}
use Rattle.graph.specs.Walks.{open_walks}
use Rattle.graph.specs.Labels.{open_labels}
use Rattle.graph.specs.Contraction.{Totals, Contracted, contract, open_contraction}

-- K, the number stored, the keys' words and the counts.
pub record Table : Type 0 where
  pub K : ℕ
  pub n : ℕ
  pub keys : List ℕ
  pub counts : List ℕ

-- The slices to write to, before and after.
pub record Rooms : Type 0 where
  pub labels : String
  pub starts : List ℕ
  pub lengths : List ℕ
  pub marks : List ℕ

pub record Example : Type 0 where
  pub table : Table
  pub before : Rooms
  pub answer : Answer Totals
  pub after : Rooms

abbrev pub contracted : Example → Contracted
contracted e =
    let t = e.table in
    let r = e.before in
    contract four_bits t.K 1 t.n t.keys t.counts (bytes r.labels) r.starts r.lengths r.marks

abbrev pub expected : Example → Contracted
expected e =
    let r = e.after in
    record { answer = e.answer; labels = bytes r.labels; starts = r.starts; lengths = r.lengths; marks = r.marks }

abbrev rooms : String → List ℕ → List ℕ → List ℕ → Rooms
rooms labels starts lengths marks = record { labels = labels; starts = starts; lengths = lengths; marks = marks }

-- A contraction that lists labels, and one that is refused, each with the rooms afterwards.
abbrev lists : Table → Rooms → ℕ → ℕ → Rooms → Example
lists t before labels bases after =
    record { table = t; before = before; answer = gives (record { labels = labels; bases = bases }); after = after }

abbrev refused_with : Table → Rooms → ℕ → List ℕ → Rooms → Example
refused_with t before r values after = record { table = t; before = before; answer = refuses r values; after = after }

-- P1's table, ACC and CCC; ACC alone, whose only edge leads to CCC; the first with other keys, at another K, with a vertex too many.
abbrev acc_ccc : Table
acc_ccc = record { K = 3; n = 2; keys = 5 ∷ 0 ∷ 21 ∷ 0 ∷ []; counts = 0x00100000 ∷ 0x00100001 ∷ [] }

abbrev lone : Table
lone = record { K = 3; n = 1; keys = 5 ∷ 0 ∷ []; counts = 0x00100000 ∷ [] }

abbrev with_keys : List ℕ → Table
with_keys keys = record { K = 3; n = 2; keys = keys; counts = 0x00100000 ∷ 0x00100001 ∷ [] }

abbrev with_k_lem : ℕ → Table
with_k_lem K = record { K = K; n = 2; keys = 5 ∷ 0 ∷ 21 ∷ 0 ∷ []; counts = 0x00100000 ∷ 0x00100001 ∷ [] }

abbrev one_more_lem : Table
one_more_lem = record { K = 3; n = 3; keys = 5 ∷ 0 ∷ 21 ∷ 0 ∷ 25 ∷ 0 ∷ []; counts = 0x00100000 ∷ 0x00100001 ∷ [] }

abbrev plenty : Rooms
plenty = rooms "zzzzzz" (9 ∷ 9 ∷ []) (9 ∷ 9 ∷ []) (7 ∷ 7 ∷ 7 ∷ [])

-- Marks for one vertex only.
abbrev few : Rooms
few = rooms "zzzzzz" (9 ∷ 9 ∷ []) (9 ∷ 9 ∷ []) (7 ∷ [])

abbrev pub examples : List Example
examples =
    -- Rooms that just suffice, and larger ones: nothing past the used cells changes, and old marks do not matter.
    lists acc_ccc (rooms "zzzz" (9 ∷ []) (9 ∷ []) (7 ∷ 1 ∷ [])) 1 4 (rooms "ACCC" (0 ∷ []) (4 ∷ []) (1 ∷ 1 ∷ []))
    ∷ lists acc_ccc plenty 1 4 (rooms "ACCCzz" (0 ∷ 9 ∷ []) (4 ∷ 9 ∷ []) (1 ∷ 1 ∷ 7 ∷ []))
    -- 9: one byte too few, one entry too few in either slice.
    ∷ refused_with acc_ccc (rooms "zzz" (9 ∷ []) (9 ∷ []) (7 ∷ 7 ∷ 7 ∷ [])) 9 [] (rooms "zzz" (9 ∷ []) (9 ∷ []) (0 ∷ 0 ∷ 7 ∷ []))
    ∷ refused_with acc_ccc (rooms "zzzz" [] (9 ∷ []) (7 ∷ 7 ∷ [])) 9 [] (rooms "zzzz" [] (9 ∷ []) (0 ∷ 0 ∷ []))
    ∷ refused_with acc_ccc (rooms "zzzz" (9 ∷ []) [] (7 ∷ 7 ∷ [])) 9 [] (rooms "zzzz" (9 ∷ []) [] (0 ∷ 0 ∷ []))
    -- 8, with room and without.
    ∷ refused_with lone plenty 8 [] (rooms "zzzzzz" (9 ∷ 9 ∷ []) (9 ∷ 9 ∷ []) (0 ∷ 7 ∷ 7 ∷ []))
    ∷ refused_with lone (rooms "" [] [] (7 ∷ [])) 8 [] (rooms "" [] [] (0 ∷ []))
    -- 7.
    ∷ refused_with acc_ccc few 7 [] few
    -- 5: keys that descend, are equal, not canonical (GGG), not below 64; more vertices than counts.
    ∷ refused_with (with_keys (21 ∷ 0 ∷ 5 ∷ 0 ∷ [])) plenty 5 [] plenty
    ∷ refused_with (with_keys (5 ∷ 0 ∷ 5 ∷ 0 ∷ [])) plenty 5 [] plenty
    ∷ refused_with (with_keys (5 ∷ 0 ∷ 42 ∷ 0 ∷ [])) plenty 5 [] plenty
    ∷ refused_with (with_keys (5 ∷ 0 ∷ 21 ∷ 1 ∷ [])) plenty 5 [] plenty
    ∷ refused_with one_more_lem plenty 5 [] plenty
    -- 5 before 7.
    ∷ refused_with (with_keys (21 ∷ 0 ∷ 5 ∷ 0 ∷ [])) few 5 [] few
    -- 1, before all else.
    ∷ refused_with (with_k_lem 0) plenty 1 (0 ∷ []) plenty
    ∷ refused_with (with_k_lem 64) few 1 (64 ∷ []) few
    ∷ []

pub lent : map contracted examples ≡ map expected examples
unfolding open_text open_letters open_order open_kmer open_counted open_table open_walks open_labels open_contraction
lent = refl
