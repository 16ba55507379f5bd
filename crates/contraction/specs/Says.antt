-- What contraction answers in document 01's numbers, and what its parts say. Assumes nothing.
use Rattle.std.specs.Prelude.{ℕ, ◌+◌, ◌^◌, ◌≤◌, ◌<◌, ◌≡◌, true, false, Result, Ok, Err, List, [], ◌∷◌, map, length, set}
use Rattle.std.specs.Prelude.{drop}
use Rattle.std.proofs.Math.Seq.{paste}
use Rattle.dna.specs.Text.{over}
use Rattle.dna.specs.Answer.{Answer, gives, refuses}
use Rattle.dna.specs.Letters.{letter_of}
use Rattle.kmer.specs.Kmer.{rc}
use Rattle.kmer.specs.Says.{value_of}
use Rattle.sorting.specs.Index.{Spot, sorted_spots}
use Rattle.state.specs.Counted.{Kind}
use Rattle.state.specs.declared.Side.{Side}
use Rattle.graph.specs.declared.Step.{Step}
use Rattle.table.specs.declared.FitError.{FitError}
use Rattle.table.specs.declared.FitError.TheVariants as fit
use Rattle.graph.specs.Table.{table_of}
use Rattle.graph.specs.Walks.{seen}
use Rattle.graph.specs.Labels.{Run, run}
use Rattle.graph.specs.Contraction.{Entry, entries, end_to_end, ends_in, Totals, Contracted, finish}
use Rattle.marks.specs.Marks.{ends, visits}
use Rattle.marks.specs.Ready.{keys_for}
use Rattle.contraction.specs.Over.{step_in, walk_in, extract_in, label_in, run_in}
use Rattle.contraction.specs.Trail.{piece_in, trail_in, label_from, piece_length}
use Rattle.contraction.specs.declared.Strands.{Strands}
use Rattle.contraction.specs.declared.Stand.{Stand}
use Rattle.contraction.specs.declared.Walked.{Walked}
use Rattle.contraction.specs.declared.Label.{Label}
use Rattle.contraction.specs.declared.Unitigs.{Unitigs}
use Rattle.contraction.specs.declared.ContractError.{ContractError}
use Rattle.contraction.specs.declared.ContractError.TheVariants as contract

-- The number of labels and their bases, or a refusal.
abbrev pub contract_answer : Result Unitigs ContractError → Answer Totals
contract_answer (Ok u) = gives (record { labels = u.labels; bases = u.bases })
contract_answer (Err (contract.UnsupportedK K)) = refuses 1 (K ∷ [])
contract_answer (Err contract.Unfit) = refuses 5 []
contract_answer (Err contract.WrongCutoff) = refuses 15 []
contract_answer (Err contract.FewMarks) = refuses 7 []
contract_answer (Err contract.MissingVertex) = refuses 8 []
contract_answer (Err contract.NoRoom) = refuses 9 []

-- A table that is not fit is refused as `table::fit` refuses it.
abbrev pub refused_fit : FitError → ContractError
refused_fit (fit.UnsupportedK K) = contract.UnsupportedK K
refused_fit fit.Unfit = contract.Unfit

-- A contraction: its answer, and the slices at exit.
pub record Contracts (r : Result Unitigs ContractError) (labels starts lengths marks : List ℕ) (c : Contracted)
    : Type 0 where
  pub answer : contract_answer r ≡ c.answer
  pub labels_after : labels ≡ c.labels
  pub starts_after : starts ≡ c.starts
  pub lengths_after : lengths ≡ c.lengths
  pub marks_after : marks ≡ c.marks

-- Both strands of a k-mer x.
pub record Both (K x : ℕ) (s : Strands) : Type 0 where
  pub below : x < 4 ^ K
  pub here : value_of s.here ≡ x
  pub other : value_of s.other ≡ rc K x

-- Where a walk stands: at a vertex, whose k-mer it sees.
pub record Stands (K : ℕ) (keys ms : List ℕ) (s : Stand) : Type 0 where
  pub inside : s.vertex < length ms
  pub both : Both K (seen K (keys_for ms keys) s.vertex s.side) s.strands

-- What the parts leave in the marks, and say; over keys and the marks at entry.
module _ (K : ℕ) (keys ms : List ℕ) where
  -- Vertex v is marked and left by side s.
  pub record Advances (a : ℕ) (start : Side) (v : ℕ) (s : Side) (r : Step) (after : List ℕ) : Type 0 where
    pub stepped : r ≡ step_in K keys after a start v s
    pub ends_kept : ends after ≡ ends ms
    pub visits_after : visits after ≡ set (visits ms) v 1

  -- A walk: the number of bases appended, the last step.
  pub record Walks (a : ℕ) (start : Side) (r : Walked) (after : List ℕ) : Type 0 where
    pub bases : r.bases ≡ length (walk_in K keys ms a start).bases
    pub last : r.last ≡ (walk_in K keys ms a start).last
    pub ends_kept : ends after ≡ ends ms
    pub visits_after : visits after ≡ (walk_in K keys ms a start).marks
    pub few : r.bases ≤ length ms

  -- A walk whose letters stand in the buffer from a place on; the rest of the buffer is as it was.
  pub record Spells (a : ℕ) (start : Side) (r : Walked) (after buffer : List ℕ) (at : ℕ) (buffer' : List ℕ)
      : Type 0 where
    pub walks : Walks a start r after
    pub letters : let bases = (walk_in K keys ms a start).bases in
        buffer' ≡ paste buffer at (map letter_of bases) (length bases)

  -- Anchor a's label, unwritten: its length; its walks came to no missing vertex, and stand in the trail from a place
  -- on. With at most 63 bases of the anchor and 65,536 of each walk it stays below 200,000, so that no sum over all
  -- anchors overflows.
  pub record Extracts (a : ℕ) (r : Label) (after trail : List ℕ) (at : ℕ) (trail' : List ℕ) : Type 0 where
    pub bases : r.bases ≡ length (label_in K keys ms a)
    pub missed : (extract_in K keys ms a).missed ≡ false
    pub ends_kept : ends after ≡ ends ms
    pub visits_after : visits after ≡ (extract_in K keys ms a).marks
    pub few : r.bases ≤ 200000
    pub end : r.end ≡ at + length (piece_in K keys ms a)
    pub walks : trail' ≡ paste trail at (piece_in K keys ms a) (length (piece_in K keys ms a))

  -- Or one of its walks came to a missing vertex.
  pub record Misses (a : ℕ) (e : ContractError) : Type 0 where
    pub error : e ≡ contract.MissingVertex
    pub missed : (extract_in K keys ms a).missed ≡ true

  -- The labels of the first a vertices, unwritten: their number and their bases; no vertex was missing.
  pub record Surveys (a labels bases : ℕ) (after : List ℕ) : Type 0 where
    pub number : labels ≡ length (run_in K keys ms a).labels
    pub total : bases ≡ length (end_to_end (run_in K keys ms a).labels)
    pub missed : (run_in K keys ms a).missed ≡ false
    pub ends_kept : ends after ≡ ends ms
    pub visits_after : visits after ≡ (run_in K keys ms a).marks

  -- All vertices surveyed, their walks in the trail; or a vertex was missing.
  abbrev pub Surveyed : Result Unitigs ContractError → List ℕ → List ℕ → List ℕ → Type 0
  Surveyed (Ok all) after trail trail' =
      Surveys (length ms) all.labels all.bases after × (trail' ≡ over (trail_in K keys ms (length ms)) trail)
  Surveyed (Err e) after trail trail' = (e ≡ contract.MissingVertex) × ((run_in K keys ms (length ms)).missed ≡ true)

  -- The labels of all vertices have room.
  pub record Roomy (buffer starts lengths : ℕ) : Type 0 where
    pub bases_fit : length (end_to_end (run_in K keys ms (length ms)).labels) ≤ buffer
    pub starts_fit : length (run_in K keys ms (length ms)).labels ≤ starts
    pub lengths_fit : length (run_in K keys ms (length ms)).labels ≤ lengths

-- The label of k-mer x and of the piece that stands in the trail from a place on, written from a place of the buffer
-- on.
pub record WritesLabel (K x : ℕ) (trail : List ℕ) (from : ℕ) (r : Label) (buffer : List ℕ) (at : ℕ) (buffer' : List ℕ)
    : Type 0 where
  pub bases : r.bases ≡ length (label_from K x (drop from trail))
  pub end : r.end ≡ from + piece_length (drop from trail)
  pub letters : buffer' ≡ paste buffer at (label_from K x (drop from trail)) (length (label_from K x (drop from trail)))

-- Starts and lengths of entries.
abbrev pub starts_of : List Entry → List ℕ
starts_of es = map (λ (e : Entry). e.start) es

abbrev pub lengths_of : List Entry → List ℕ
lengths_of es = map (λ (e : Entry). length e.label) es

-- The labels of a run and their index in a buffer and two slices; entries are in the order given.
pub record Lists (r : Run) (es : List Entry) (buffer buffer' starts starts' lengths lengths' : List ℕ) : Type 0 where
  pub letters : buffer' ≡ over (end_to_end r.labels) buffer
  pub starts_after : starts' ≡ over (starts_of es) starts
  pub lengths_after : lengths' ≡ over (lengths_of es) lengths

-- The labels of the first a vertices, written end to end, with their index in anchor order.
pub record Writes (K : ℕ) (keys ms : List ℕ) (a labels at : ℕ) (buffer buffer' starts starts' lengths lengths' : List ℕ)
    : Type 0 where
  pub number : labels ≡ length (run_in K keys ms a).labels
  pub total : at ≡ length (end_to_end (run_in K keys ms a).labels)
  pub lists : Lists (run_in K keys ms a) (entries 0 (run_in K keys ms a).labels)
      buffer buffer' starts starts' lengths lengths'

-- The first n entries of an index put in order of the labels that they name in a buffer; those behind them stay.
pub record Ordered (buffer starts lengths : List ℕ) (n : ℕ) (starts' lengths' : List ℕ) : Type 0 where
  pub starts_after : starts' ≡ over (map (λ (p : Spot). p.start) (sorted_spots buffer n starts lengths)) starts
  pub lengths_after : lengths' ≡ over (map (λ (p : Spot). p.length) (sorted_spots buffer n starts lengths)) lengths

-- What is left to do once the table is known to be fit and to have marks.
abbrev pub finish_in : Kind → ℕ → ℕ → ℕ → List ℕ → List ℕ → List ℕ → List ℕ → List ℕ → List ℕ → Contracted
finish_in κ K cutoff n keys counts labels starts lengths marks =
    let t = table_of n keys counts in
    finish κ K cutoff n keys counts labels starts lengths marks (run K t.keys (ends_in κ cutoff t) n)
