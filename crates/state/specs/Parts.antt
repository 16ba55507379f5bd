-- What the parts of a call say. Assumes nothing.
use Rattle.std.specs.Prelude.{ℕ, ◌≡◌, cond, [], eqb}
use Rattle.dna.specs.Answer.{Answer, gives, refuses}
use Rattle.state.specs.Counted.{Kind, edge_at, edge_count, counted}
use Rattle.state.specs.declared.Side.{Side}
use Rattle.state.specs.declared.Layout.{Layout}

-- A kind as the code is given it.
abbrev pub kind_in : Layout → Kind
kind_in l = record { width = l.width; first = l.first }

-- One of two neighbours counted on its side; 10 for N.
abbrev pub neighbour_call : Kind → ℕ → Side → ℕ → Answer ℕ
neighbour_call κ w s b = cond (eqb b 4) (refuses 10 []) (gives (counted κ w s b))

-- n is how many edges a side retains; where that is one, sum is its base.
pub record Tallied (κ : Kind) (cutoff w : ℕ) (s : Side) (n sum : ℕ) : Type 0 where
  pub edges : n ≡ edge_count κ cutoff w s
  pub codes : n ≡ 1 → sum ≡ edge_at κ cutoff w s
