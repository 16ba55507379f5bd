-- What the parts of a judgement say. Assumes nothing.
use Rattle.std.specs.Prelude.{ℕ, suc, ◌-◌, ◌^◌, ◌<◌, ◌≡◌, Bool, true, cond, ◌&&◌, List, ltb, eqb, length, drop}
use Rattle.kmer.specs.Kmer.{ok_k, rc, forward}
use Rattle.kmer.specs.Says.{value_of}
use Rattle.kmer.specs.declared.Kmer.{Kmer}
use Rattle.state.specs.declared.Side.{Side}
use Rattle.state.specs.declared.Side.TheVariants.{Front, Back}
use Rattle.state.specs.Counted.{opposite}
use Rattle.graph.specs.Walks.{Ends, leaving}
use Rattle.laws.specs.Windows.{windows_from}
use Rattle.laws.specs.Demand.{retained}
use Rattle.marks.specs.Marks.{end_in}
use Rattle.judging.specs.declared.Seen.{Seen}

-- ---- a k-mer that was looked up

-- k-mer x with its reverse complement, and with what the table retains on its sides.
pub record Sees (K : ℕ) (ks : List ℕ) (es : List Ends) (x : ℕ) (r : Seen) : Type 0 where
  pub below : x < 4 ^ K
  pub here : value_of r.here ≡ x
  pub other : value_of r.other ≡ rc K x
  pub edges : (s : Side) → end_in r.mark s ≡ retained K ks es x s

-- The same on the other strand.
abbrev pub turned_of : Seen → Seen
turned_of x = record { here = x.other; other = x.here; mark = x.mark }

-- The side by which it is left as it stands.
abbrev pub exit_of : Seen → Side
exit_of x = cond (ltb (value_of x.other) (value_of x.here)) Front Back

-- The k-mer that follows by the edge on a side.
abbrev pub after_of : ℕ → Seen → Side → ℕ
after_of K x s = forward K (value_of x.here) (leaving s (end_in x.mark s))

-- The only edge on a side leads to y.
abbrev pub leads_by : ℕ → Seen → Side → ℕ → Bool
leads_by K x s y = ltb (end_in x.mark s) 4 && eqb (after_of K x s) y

-- One edge leads from x to y and, on the other strand, back.
abbrev pub step_by : ℕ → Seen → Seen → Bool
step_by K x y =
    leads_by K x (exit_of x) (value_of y.here)
    && leads_by K (turned_of y) (opposite (exit_of y)) (value_of x.other)

-- The smaller of two k-mers.
abbrev pub lesser_of : Kmer → Kmer → ℕ
lesser_of here other = cond (ltb (value_of other) (value_of here)) (value_of other) (value_of here)

-- Its two strands are k-mers.
pub record Kmers (K : ℕ) (x : Seen) : Type 0 where
  pub ok : ok_k K ≡ true
  pub here : value_of x.here < 4 ^ K
  pub other : value_of x.other < 4 ^ K

-- ---- the windows of a label, one after the other

-- The windows from window o on.
abbrev pub row_from : ℕ → List ℕ → ℕ → List ℕ
row_from K label o = windows_from K (suc (length label - K - o)) (drop o label)
