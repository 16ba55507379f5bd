-- What is left in the trail of three tables at K = 3 and cutoff 1, and the label read back from it, computed. Assumes
-- nothing.
use Rattle.std.specs.Prelude.{ℕ, ◌≡◌, refl, List, [], ◌∷◌, ◌++◌, map, length, get_or}
use Prim.Native.String.{String}
use Rattle.dna.specs.Text.{bytes, open_text}
use Rattle.dna.specs.Letters.{open_letters}
use Rattle.dna.specs.Order.{open_order}
use Rattle.kmer.specs.Kmer.{packed, open_kmer}
use Rattle.state.specs.Counted.{four_bits, open_counted}
use Rattle.graph.specs.Table.{words_of, open_table}
use Rattle.graph.specs.Walks.{open_walks}
use Rattle.graph.specs.Labels.{open_labels}
use Rattle.marks.specs.Marks.{mark_of, ends, visits}
use Rattle.contraction.specs.Trail.{trail_in, letter_count, label_from}

-- A table, its trail, and the label of its first k-mer.
pub record Example : Type 0 where
  pub kmers : List String
  pub counts : List ℕ
  pub trail : List ℕ
  pub label : String

abbrev trail_of : Example → List ℕ
trail_of e =
    let keys = words_of (map (λ (x : String). packed (bytes x)) e.kmers) in
    trail_in 3 keys (map (mark_of four_bits 1) e.counts) (length e.counts)

abbrev label_of : Example → List ℕ
label_of e = label_from 3 (packed (bytes (get_or e.kmers 0 ""))) e.trail

abbrev examples : List Example
examples =
    -- The table of CAACC: the Back walk of AAC appends C, its Front walk appends G to GTT; the other two k-mers are
    -- then visited.
    record {
      kmers = "AAC" ∷ "ACC" ∷ "CAA" ∷ [];
      counts = 0x00100010 ∷ 0x00000001 ∷ 0x00100000 ∷ [];
      trail = bytes "C" ++ (0 ∷ bytes "G") ++ (0 ∷ 2 ∷ 2 ∷ []);
      label = "CAACC";
    }
    -- P1: the Front walk appends nothing.
    ∷ record {
      kmers = "ACC" ∷ "CCC" ∷ [];
      counts = 0x00100000 ∷ 0x00100001 ∷ [];
      trail = bytes "C" ++ (0 ∷ 0 ∷ 2 ∷ []);
      label = "ACCC";
    }
    -- P7: the Back walk closes, and no Front walk is made.
    ∷ record {
      kmers = "ATC" ∷ "ATG" ∷ "TCA" ∷ [];
      counts = 0x00010010 ∷ 0x00010100 ∷ 0x10000001 ∷ [];
      trail = bytes "AT" ++ (1 ∷ 2 ∷ 2 ∷ []);
      label = "ATCAT";
    }
    ∷ []

pub trail_computed : map trail_of examples ≡ map (λ (e : Example). e.trail) examples
unfolding open_text open_letters open_order open_kmer open_counted open_table open_walks open_labels
    ends visits trail_in
trail_computed = refl

pub label_computed : map label_of examples ≡ map (λ (e : Example). bytes e.label) examples
unfolding open_text open_letters open_order open_kmer open_labels letter_count label_from
label_computed = refl
