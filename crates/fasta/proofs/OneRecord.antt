-- A record is three cells, a label behind them and one cell more. Assumes nothing.
use Rattle.std.proofs.Common.{◌≡◌, ℕ, ◌+◌, ◌≤◌, ◌<◌, List, ◌∷◌, length, set, take, get_or, refl, ap, ◌∙◌, arith}
use lib.Seq.{length-take-le, take-suc, take_all}
use native.Mathlib.Numerals.{add-one}
use Rattle.dna.specs.Text.{over}
use Rattle.dna.proofs.Overwriting.{over_one}
use Rattle.graph.specs.Fasta.{record_of}

-- The header and the first letters of a label.
abbrev pub begun : List ℕ → ℕ → List ℕ
begun label i = 62 ∷ 48 ∷ 10 ∷ take i label

-- They are written one behind the other, and the newline behind the last.
module _ (label slice : List ℕ) (room : length label + 4 ≤ length slice) {out : List ℕ} (i : ℕ)
    (so : out ≡ over (begun label i) slice) where
  pub lettered : i < length label → set out (3 + i) (get_or label i 0) ≡ over (begun label (i + 1)) slice
  lettered h =
      let n : length (take i label) ≡ i = length-take-le i label (omega arith) in
      over_one (begun label i) slice {next = begun label (i + 1)} (3 + i) (get_or label i 0) so (omega (arith, n))
      (omega arith) (ap (λ (l : List ℕ). 62 ∷ 48 ∷ 10 ∷ l) (rw (add-one i) (take-suc label i 0 h)))

  pub framed : length label ≤ i → set out (3 + length label) 10 ≡ over (record_of label) slice
  framed h =
      over_one (62 ∷ 48 ∷ 10 ∷ label) slice (3 + length label) 10
      (so ∙ ap (λ (l : List ℕ). over (62 ∷ 48 ∷ 10 ∷ l) slice) (take_all i label h)) (omega arith) (omega arith) refl
