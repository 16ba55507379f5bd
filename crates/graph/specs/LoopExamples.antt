-- Labels added by document 02's rule, computed: a step from a k-mer to itself counts on both sides, a step to its reverse complement
-- on one. Assumes nothing.
use Rattle.std.specs.Prelude.{◌≡◌, refl, true, false, List, [], ◌∷◌, map}
use Rattle.dna.specs.Text.{open_text}
use Rattle.dna.specs.Letters.{open_letters}
use Rattle.dna.specs.Order.{open_order}
use Rattle.kmer.specs.Kmer.{open_kmer}
use Rattle.state.specs.Counted.{four_bits, open_counted}
use Rattle.label_index.specs.Entries.{open_entries}
use Rattle.graph.specs.Table.{open_table}
use Rattle.graph.specs.Sightings.{reversed, open_sightings}
use Rattle.graph.specs.Adding.{open_adding}
use Rattle.graph.specs.Walks.{open_walks}
use Rattle.graph.specs.Labels.{open_labels}
use Rattle.graph.specs.Contraction.{open_contraction}
use Rattle.graph.specs.Fasta.{open_fasta}
use Rattle.graph.specs.Examples.{Example, Example.grow, Result, Result.grown, result_by, edges, kmers, texts}

abbrev pub loop_examples : List (Example × Result)
loop_examples =
    -- Document 02: ACCCC and its reverse complement give one list.
    (
      grow 3 ("ACCCC" ∷ []) (1 ∷ []),
      grown (edges 2 2 ∷ []) (kmers ("ACC" ∷ "CCC" ∷ [])) (0x00100000 ∷ 0x00100011 ∷ []) (texts (">0\nACC\n>0\nCCC\n" ∷ [])) (false ∷ []),
    )
    ∷ (
      grow 3 ("GGGGT" ∷ []) (1 ∷ []),
      grown (edges 2 2 ∷ []) (kmers ("ACC" ∷ "CCC" ∷ [])) (0x00100000 ∷ 0x00100011 ∷ []) (texts (">0\nACC\n>0\nCCC\n" ∷ [])) (false ∷ []),
    )
    ∷ (
      grow 3 ("ACCCC" ∷ "GGGGT" ∷ []) (1 ∷ 2 ∷ 3 ∷ []),
      grown (edges 2 2 ∷ edges 2 2 ∷ []) (kmers ("ACC" ∷ "CCC" ∷ [])) (0x00200000 ∷ 0x00200022 ∷ [])
          (texts (">0\nACC\n>0\nCCC\n" ∷ ">0\nACC\n>0\nCCC\n" ∷ "" ∷ [])) (false ∷ false ∷ false ∷ []),
    )
    -- Lower case and U read alike.
    ∷ (
      grow 3 ("CAAAA" ∷ []) (1 ∷ []),
      grown (edges 2 2 ∷ []) (kmers ("AAA" ∷ "CAA" ∷ [])) (0x00010011 ∷ 0x00010000 ∷ []) (texts (">0\nAAA\n>0\nCAA\n" ∷ [])) (false ∷ []),
    )
    ∷ (
      grow 3 ("uuuug" ∷ []) (1 ∷ []),
      grown (edges 2 2 ∷ []) (kmers ("AAA" ∷ "CAA" ∷ [])) (0x00010011 ∷ 0x00010000 ∷ []) (texts (">0\nAAA\n>0\nCAA\n" ∷ [])) (false ∷ []),
    )
    -- A k-mer followed by its reverse complement: the predecessor is left uncounted, as in P10.
    ∷ (
      grow 1 ("AT" ∷ []) (1 ∷ []),
      grown (edges 1 1 ∷ []) (kmers ("A" ∷ [])) (0x10000000 ∷ []) (texts (">0\nA\n" ∷ [])) (false ∷ []),
    )
    ∷ (
      grow 3 ("ACGT" ∷ []) (1 ∷ []),
      grown (edges 1 1 ∷ []) (kmers ("ACG" ∷ [])) (0x10000000 ∷ []) (texts (">0\nACG\n" ∷ [])) (false ∷ []),
    )
    -- A loop's two counters stop at their top together; alone on its sides, it is a closed cycle.
    ∷ (
      grow 3 ("CCCCCCCCCCCCCCCCCCCC" ∷ []) (15 ∷ 16 ∷ []),
      grown (edges 17 1 ∷ []) (kmers ("CCC" ∷ [])) (0x00f000f0 ∷ []) (texts (">0\nCCC\n" ∷ "" ∷ [])) (true ∷ false ∷ []),
    )
    -- A k-mer of one repeated base joined singly with another stands beside it.
    ∷ (
      grow 1 ("GGATC" ∷ []) (1 ∷ 2 ∷ []),
      grown (edges 4 2 ∷ []) (kmers ("A" ∷ "C" ∷ [])) (0x10000200 ∷ 0x00102010 ∷ []) (texts (">0\nA\n>0\nC\n" ∷ ">0\nGA\n" ∷ [])) (false ∷ false ∷ []),
    )
    -- Even K: AAT and ATT are each other's reverse complement and give different counters.
    ∷ (
      grow 2 ("AAT" ∷ []) (1 ∷ []),
      grown (edges 1 2 ∷ []) (kmers ("AA" ∷ "AT" ∷ [])) (0x10000000 ∷ 0x00000001 ∷ []) (texts (">0\nAAT\n" ∷ [])) (false ∷ []),
    )
    ∷ (
      grow 2 ("ATT" ∷ []) (1 ∷ []),
      grown (edges 1 2 ∷ []) (kmers ("AA" ∷ "AT" ∷ [])) (0x10000000 ∷ 0x10000000 ∷ []) (texts (">0\nAAT\n" ∷ [])) (false ∷ []),
    )
    ∷ []

pub loops_proved : map (λ (e : Example × Result). result_by four_bits reversed e.0) loop_examples ≡ map (λ (e : Example × Result). e.1) loop_examples
unfolding open_text open_letters open_order open_kmer open_counted open_table open_sightings open_adding open_entries open_walks open_labels open_contraction open_fasta
loops_proved = refl
