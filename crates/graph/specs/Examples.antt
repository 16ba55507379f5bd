-- P1 to P11 of document 01: one table, one theorem about the definitions, computed. Assumes nothing.
use Rattle.std.specs.Prelude.{ℕ, ◌+◌, ◌*◌, ◌^◌, ◌≡◌, refl, Bool, true, false, List, [], ◌∷◌, ◌++◌, map, take, replicate}
use Prim.Native.String.{String}
use Rattle.dna.specs.Text.{bytes, open_text}
use Rattle.dna.specs.Answer.{Answer, gives, refuses}
use Rattle.dna.specs.Letters.{open_letters}
use Rattle.dna.specs.Order.{open_order}
use Rattle.kmer.specs.Kmer.{packed, open_kmer}
use Rattle.kmer.specs.Calls.{pack_call, reverse_call, open_calls}
use Rattle.state.specs.declared.Side.TheVariants.{Back}
use Rattle.state.specs.Counted.{Kind, four_bits, open_counted}
use Rattle.label_index.specs.Entries.{open_entries}
use Rattle.graph.specs.Table.{keys_of, table_of, open_table}
use Rattle.graph.specs.Sightings.{Rule, same_canonical, open_sightings}
use Rattle.graph.specs.Adding.{Edges, add_label, stored_after, open_adding}
use Rattle.graph.specs.Walks.{closed, walk, open_walks}
use Rattle.graph.specs.Labels.{open_labels}
use Rattle.graph.specs.Contraction.{Totals, ends_in, contract, open_contraction}
use Rattle.graph.specs.Fasta.{fasta, open_fasta}

-- An example: labels added in order at one K to an empty table that is then contracted at some cutoffs, or a text packed at
-- one K and turned round.
pub data Example : Type 0 where
  grow : ℕ → List String → List ℕ → Example
  turn : ℕ → String → Example

-- What comes of it: adding's answers, the stored k-mers, their counts, and for each cutoff a FASTA text and whether the Back walk of the first
-- vertex closes a cycle; or the packed k-mer and its reverse complement.
pub data Result : Type 0 where
  grown : List (Answer Edges) → List ℕ → List ℕ → List (List ℕ) → List Bool → Result
  turned : Answer ℕ → Answer ℕ → Result

-- A table as lent, and the answers so far.
pub record State : Type 0 where
  pub stored : ℕ
  pub keys : List ℕ
  pub counts : List ℕ
  pub answers : List (Answer Edges)

abbrev pub empty : State
empty = record { stored = 0; keys = replicate 16 0; counts = replicate 8 0; answers = [] }

abbrev pub add_all : Kind → Rule → ℕ → State → List String → State
add_all κ rule K t [] = t
add_all κ rule K t (l ∷ ls) =
    let a = add_label κ rule K t.stored t.keys t.counts (bytes l) in
    add_all κ rule K
    (record {
      stored = stored_after t.stored a.answer;
      keys = a.keys;
      counts = a.counts;
      answers = t.answers ++ (a.answer ∷ []);
    })
    ls

abbrev pub labels_in : Answer Totals → ℕ
labels_in (gives t) = t.labels
labels_in (refuses r vs) = 0

abbrev pub bytes_in : Answer ℕ → ℕ
bytes_in (gives n) = n
bytes_in (refuses r vs) = 0

-- The FASTA text of a table at a cutoff.
abbrev pub fasta_at : Kind → ℕ → State → ℕ → List ℕ
fasta_at κ K t cutoff =
    let c = contract κ K cutoff t.stored t.keys t.counts (replicate 40 0) (replicate 8 0) (replicate 8 0) (replicate 8 7) in
    let f = fasta c.labels c.starts c.lengths (labels_in c.answer) (replicate 60 0) in
    take (bytes_in f.answer) f.slice

-- Whether the Back walk of the first vertex, made before any other, closes a cycle.
abbrev pub closes_at : Kind → ℕ → State → ℕ → Bool
closes_at κ K t cutoff =
    let table = table_of t.stored t.keys t.counts in
    closed (walk K table.keys (ends_in κ cutoff table) 0 Back (replicate t.stored 0)).last

abbrev pub result_by : Kind → Rule → Example → Result
result_by κ rule (grow K labels cutoffs) =
    let t = add_all κ rule K empty labels in
    grown t.answers (keys_of t.stored t.keys) (take t.stored t.counts) (map (fasta_at κ K t) cutoffs) (map (closes_at κ K t) cutoffs)
result_by κ rule (turn K s) = turned (pack_call K (bytes s)) (reverse_call K (packed (bytes s)))

-- Edges and number stored.
abbrev pub edges : ℕ → ℕ → Answer Edges
edges e n = gives (record { edges = e; stored = n })

abbrev pub kmers : List String → List ℕ
kmers = map (λ (s : String). packed (bytes s))

abbrev pub texts : List String → List (List ℕ)
texts = map bytes

abbrev pub thirty_three : String
thirty_three = "AAAAAAAAAAAAAAAAAAAAAAAAAAAAAAAAA"

abbrev pub examples : List (Example × Result)
examples =
    -- P1
    (
      grow 3 ("ACCCC" ∷ []) (1 ∷ []),
      grown (edges 2 2 ∷ []) (kmers ("ACC" ∷ "CCC" ∷ [])) (0x00100000 ∷ 0x00100001 ∷ []) (texts (">0\nACCC\n" ∷ [])) (false ∷ []),
    )
    -- P2
    ∷ (
      grow 3 ("GGGGT" ∷ []) (1 ∷ []),
      grown (edges 2 2 ∷ []) (kmers ("ACC" ∷ "CCC" ∷ [])) (0x00100000 ∷ 0x00000011 ∷ []) (texts (">0\nACC\n>0\nCCC\n" ∷ [])) (false ∷ []),
    )
    -- P3
    ∷ (
      grow 3 ("CAAAA" ∷ []) (1 ∷ []),
      grown (edges 2 2 ∷ []) (kmers ("AAA" ∷ "CAA" ∷ [])) (0x00010010 ∷ 0x00010000 ∷ []) (texts (">0\nAAA\n>0\nCAA\n" ∷ [])) (true ∷ []),
    )
    -- P4
    ∷ (
      grow 2 ("CAT" ∷ "ATG" ∷ []) (1 ∷ 2 ∷ 3 ∷ []),
      grown (edges 1 2 ∷ edges 1 2 ∷ []) (kmers ("AT" ∷ "CA" ∷ [])) (0x01000010 ∷ 0x20000000 ∷ [])
          (texts (">0\nATG\n" ∷ ">0\nATG\n" ∷ "" ∷ [])) (false ∷ false ∷ false ∷ []),
    )
    -- P5
    ∷ (
      grow 3 ("ACG" ∷ []) (1 ∷ 0 ∷ []),
      grown (edges 0 1 ∷ []) (kmers ("ACG" ∷ [])) (0 ∷ []) (texts ("" ∷ ">0\nACG\n" ∷ [])) (false ∷ false ∷ []),
    )
    -- P6
    ∷ (
      grow 3 (replicate 16 "ACGG") (15 ∷ 16 ∷ []),
      grown (replicate 16 (edges 1 2)) (kmers ("ACG" ∷ "CCG" ∷ [])) (0x0f000000 ∷ 0xf0000000 ∷ [])
          (texts (">0\nACGG\n" ∷ "" ∷ [])) (false ∷ false ∷ []),
    )
    -- P7
    ∷ (
      grow 3 ("ATCATC" ∷ []) (1 ∷ []),
      grown (edges 3 3 ∷ []) (kmers ("ATC" ∷ "ATG" ∷ "TCA" ∷ [])) (0x00010010 ∷ 0x00010100 ∷ 0x10000001 ∷ [])
          (texts (">0\nATCAT\n" ∷ [])) (true ∷ []),
    )
    -- P8
    ∷ (grow 3 ("ACCN" ∷ []) [], grown (refuses 3 (3 ∷ 78 ∷ []) ∷ []) [] [] [] [])
    -- P9
    ∷ (grow 3 ("AN" ∷ []) [], grown (edges 0 0 ∷ []) [] [] [] [])
    -- P10
    ∷ (
      grow 1 ("AT" ∷ []) (1 ∷ []),
      grown (edges 1 1 ∷ []) (kmers ("A" ∷ [])) (0x10000000 ∷ []) (texts (">0\nA\n" ∷ [])) (false ∷ []),
    )
    -- P11
    ∷ (turn 33 thirty_three, turned (gives 0) (gives (0xffff_ffff_ffff_ffff + 2 ^ 64 * 3)))
    ∷ (turn 64 thirty_three, turned (refuses 1 (64 ∷ [])) (refuses 1 (64 ∷ [])))
    ∷ []

pub proved : map (λ (e : Example × Result). result_by four_bits same_canonical e.0) examples ≡ map (λ (e : Example × Result). e.1) examples
unfolding open_text open_letters open_order open_kmer open_calls open_counted open_table open_sightings open_adding open_entries open_walks open_labels open_contraction open_fasta
proved = refl
