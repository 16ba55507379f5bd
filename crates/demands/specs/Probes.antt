-- The probes that the answers of a panel name, and the k-mers that they use. Assumes nothing.
use Rattle.std.specs.Prelude.{ℕ, ◌≤◌, ◌<◌, ◌≡◌, List, get_or}
use Rattle.dna.specs.Text.{part}
use Rattle.label_index.specs.Entries.{label_at}
use Rattle.laws.specs.Windows.{occurs}

-- The L bases that the answer for label i names; none of them where it names no start in the label.
abbrev pub probe_at : ℕ → List ℕ → List ℕ → List ℕ → List ℕ → ℕ → List ℕ
probe_at L labels starts lengths answers i = part (label_at labels starts lengths i) (get_or answers i 0) L

-- No k-mer is used twice by the answers for so many labels: one that stands in an answer, on either strand, stands
-- there once and in no other answer.
pub record Unshared (K L : ℕ) (labels starts lengths : List ℕ) (count : ℕ) (answers : List ℕ) : Type 0 where
  pub once : (x i : ℕ) → i < count → occurs K x (probe_at L labels starts lengths answers i) ≤ 1
  pub apart : (x i j : ℕ) → i < count → j < count → (i ≡ j → ⊥)
      → 1 ≤ occurs K x (probe_at L labels starts lengths answers i)
      → 1 ≤ occurs K x (probe_at L labels starts lengths answers j) → ⊥
