-- The labels of a graph: one for each anchor. Assumes nothing.
use Rattle.std.specs.Prelude.{ℕ, zero, suc, Bool, false, cond, ◌||◌, List, [], ◌∷◌, ◌++◌, map, length, get_or, replicate}
use Rattle.dna.specs.Letters.{letter_of, reverse_complement}
use Rattle.dna.specs.Order.{before}
use Rattle.kmer.specs.Kmer.{rc, letters}
use Rattle.state.specs.declared.Side.TheVariants.{Front, Back}
use Rattle.graph.specs.Walks.{Ends, Walk, walk, closed, missing, visited, isolated}

-- The smaller of a label and its reverse complement.
unfoldable pub lesser : List ℕ → List ℕ
lesser l = let r = reverse_complement l in cond (before r l) r l

-- A k-mer's letters with those of a walk's bases behind them.
abbrev pub spelt : ℕ → ℕ → Walk → List ℕ
spelt K x w = letters K x ++ map letter_of w.bases

-- After some anchors: the marks, the labels in anchor order, and whether a vertex was missing.
pub record Run : Type 0 where
  pub marks : List ℕ
  pub labels : List (List ℕ)
  pub missed : Bool

module _ (K : ℕ) (ks : List ℕ) (es : List Ends) where
  -- The label of k-mer x. If the Back walk closed, its label alone counts; else the label is the reverse complement of the Front
  -- walk followed by the Back walk past K.
  abbrev pub label_of : ℕ → Walk → Walk → List ℕ
  label_of x back front =
      lesser (cond (closed back.last) (spelt K x back)
      (reverse_complement (spelt K (rc K x) front) ++ map letter_of back.bases))

  -- One anchor: the Back walk, then the Front walk unless the first has closed.
  unfoldable pub extract : Run → ℕ → Run
  extract r a =
      let back = walk K ks es a Back r.marks in
      let front = walk K ks es a Front back.marks in
      let done = closed back.last in
      record {
        marks = cond done back.marks front.marks;
        labels = r.labels ++ (label_of (get_or ks a 0) back front ∷ []);
        missed = r.missed || missing back.last || cond done false (missing front.last);
      }

  -- The first so many anchors, in ascending order, skipping visited and isolated ones.
  unfoldable pub run : ℕ → Run
  run zero = record { marks = replicate (length ks) 0; labels = []; missed = false }
  run (suc a) = let r = run a in cond (visited r.marks a || isolated es a) r (extract r a)

-- Opens this file's definitions to a proof that computes.
unfoldable pub open_labels : Unit {0}
unfolding lesser extract run
open_labels = tt
