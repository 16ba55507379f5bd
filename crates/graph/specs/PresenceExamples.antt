-- Labels added to tables of presence bits, by both rules, and what such a table refuses, computed. Assumes nothing.
use Rattle.std.specs.Prelude.{ℕ, ◌≡◌, refl, true, false, List, [], ◌∷◌, map, replicate}
use Rattle.dna.specs.Text.{bytes, open_text}
use Rattle.dna.specs.Answer.{Answer, gives, refuses}
use Rattle.dna.specs.Letters.{open_letters}
use Rattle.dna.specs.Order.{open_order}
use Rattle.kmer.specs.Kmer.{open_kmer}
use Rattle.state.specs.Counted.{Kind, four_bits, presence, open_counted}
use Rattle.label_index.specs.Entries.{open_entries}
use Rattle.graph.specs.Table.{open_table}
use Rattle.graph.specs.Sightings.{same_canonical, reversed, open_sightings}
use Rattle.graph.specs.Adding.{Edges, add_label, open_adding}
use Rattle.graph.specs.Walks.{open_walks}
use Rattle.graph.specs.Labels.{open_labels}
use Rattle.graph.specs.Contraction.{Totals, contract, open_contraction}
use Rattle.graph.specs.Fasta.{open_fasta}
use Rattle.graph.specs.Examples.{Example, Example.grow, Result, Result.grown, result_by, edges, kmers, texts}

-- P1, P2, P6 and P7 of document 01 with presence bits: the same lists at cutoff 1.
abbrev pub presence_examples : List (Example × Result)
presence_examples = (
  grow 3 ("ACCCC" ∷ []) (1 ∷ []),
  grown (edges 2 2 ∷ []) (kmers ("ACC" ∷ "CCC" ∷ [])) (0x100 ∷ 0x108 ∷ []) (texts (">0\nACCC\n" ∷ [])) (false ∷ []),
)
    ∷ (
      grow 3 ("GGGGT" ∷ []) (1 ∷ []),
      grown (edges 2 2 ∷ []) (kmers ("ACC" ∷ "CCC" ∷ [])) (0x100 ∷ 0x018 ∷ []) (texts (">0\nACC\n>0\nCCC\n" ∷ [])) (false ∷ []),
    )
    ∷ (
      grow 3 (replicate 16 "ACGG") (1 ∷ []),
      grown (replicate 16 (edges 1 2)) (kmers ("ACG" ∷ "CCG" ∷ [])) (0x200 ∷ 0x400 ∷ []) (texts (">0\nACGG\n" ∷ [])) (false ∷ []),
    )
    ∷ (
      grow 3 ("ATCATC" ∷ []) (1 ∷ []),
      grown (edges 3 3 ∷ []) (kmers ("ATC" ∷ "ATG" ∷ "TCA" ∷ [])) (0x090 ∷ 0x0a0 ∷ 0x408 ∷ []) (texts (">0\nATCAT\n" ∷ [])) (true ∷ []),
    )
    ∷ []

pub presence_proved : map (λ (e : Example × Result). result_by presence same_canonical e.0) presence_examples
    ≡ map (λ (e : Example × Result). e.1) presence_examples
unfolding open_text open_letters open_order open_kmer open_counted open_table open_sightings open_adding open_entries open_walks open_labels open_contraction open_fasta
presence_proved = refl

-- By document 02's rule a loop sets both its bits.
pub loop_presence : result_by presence reversed (grow 3 ("ACCCC" ∷ []) (1 ∷ []))
    ≡ grown (edges 2 2 ∷ []) (kmers ("ACC" ∷ "CCC" ∷ [])) (0x100 ∷ 0x118 ∷ []) (texts (">0\nACC\n>0\nCCC\n" ∷ [])) (false ∷ [])
unfolding open_text open_letters open_order open_kmer open_counted open_table open_sightings open_adding open_entries open_walks open_labels open_contraction open_fasta
loop_presence = refl

-- ---- refusals

-- What contraction answers over one vertex, AGG, with a word of a kind, at a cutoff, with so many marks;
abbrev answer_over : Kind → ℕ → ℕ → ℕ → Answer Totals
answer_over κ word cutoff marks =
    (contract κ 3 cutoff 1 (10 ∷ 0 ∷ []) (word ∷ []) (replicate 3 0) (0 ∷ []) (0 ∷ []) (replicate marks 7)).answer

-- and what adding a label to it does, which adds nothing where the table is fit.
abbrev added_to : Kind → ℕ → Answer Edges
added_to κ word = (add_label κ same_canonical 3 1 (10 ∷ 0 ∷ []) (word ∷ []) (bytes "AC")).answer

-- Presence bits refuse another cutoff than 1 with 15, counters none.
pub cutoff_refused : (map (λ (cutoff : ℕ). answer_over presence 0 cutoff 1) (0 ∷ 2 ∷ 16 ∷ []) ≡ replicate 3 (refuses 15 []))
    × (answer_over presence 0 1 1 ≡ gives (record { labels = 0; bases = 0 })) × (answer_over four_bits 0 2 1 ≡ gives (record { labels = 0; bases = 0 }))
unfolding open_text open_letters open_order open_kmer open_counted open_table open_sightings open_adding open_entries open_walks open_labels open_contraction open_fasta
cutoff_refused = (refl, refl, refl)

-- 15 comes before 7.
pub cutoff_first : (answer_over presence 0 2 0 ≡ refuses 15 []) × (answer_over presence 0 1 0 ≡ refuses 7 [])
unfolding open_text open_letters open_order open_kmer open_counted open_table open_sightings open_adding open_entries open_walks open_labels open_contraction open_fasta
cutoff_first = (refl, refl)

-- A bit outside the presence bits is 5, in contraction and in adding; of counters it is none.
abbrev stray_bits : List ℕ
stray_bits = 0x001 ∷ 0x004 ∷ 0x800 ∷ 0x8000_0000 ∷ []

pub stray_bits_lem : (map (λ (word : ℕ). answer_over presence word 1 1) stray_bits ≡ replicate 4 (refuses 5 []))
    × (map (added_to presence) stray_bits ≡ replicate 4 (refuses 5 [])) × (map (added_to four_bits) stray_bits ≡ replicate 4 (edges 0 1))
    × (added_to presence 0x7f8 ≡ edges 0 1)
unfolding open_text open_letters open_order open_kmer open_counted open_table open_sightings open_adding open_entries open_walks open_labels open_contraction open_fasta
stray_bits_lem = (refl, refl, refl, refl)

-- 5 comes before 15.
pub stray_first : answer_over presence 0x001 2 1 ≡ refuses 5 []
unfolding open_text open_letters open_order open_kmer open_counted open_table open_sightings open_adding open_entries open_walks open_labels open_contraction open_fasta
stray_first = refl
