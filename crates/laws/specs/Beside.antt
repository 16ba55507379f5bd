-- Tables of two kinds to which the same labels are given, refused ones too. Assumes nothing.
use Rattle.std.specs.Prelude.{ℕ, ◌≡◌, List, [], ◌∷◌, length}
use Rattle.dna.specs.Answer.{Answer}
use Rattle.state.specs.Counted.{Kind}
use Rattle.graph.specs.Sightings.{Rule}
use Rattle.graph.specs.Adding.{Edges}
use Rattle.graph.specs.Several.{Several, add_next}
use Rattle.laws.specs.Grown.{Grown}

-- Labels given one after the other, last one first: one that is refused changes nothing, and the next is tried.
unfoldable pub after_each : Kind → Rule → ℕ → Several → List (List ℕ) → Several
after_each κ rule K s [] = s
after_each κ rule K s (l ∷ ls) = add_next κ rule K (after_each κ rule K s ls) l

-- What is answered to each of them.
unfoldable pub answers_to : Kind → Rule → ℕ → Several → List (List ℕ) → List (Answer Edges)
answers_to κ rule K s [] = []
answers_to κ rule K s (l ∷ ls) = (after_each κ rule K s (l ∷ ls)).answer ∷ answers_to κ rule K s ls

-- Two tables after the same labels: the last answer, how many labels were added, the number stored and the keys are the same, there are as
-- many words, and the same labels have grown both.
pub record Beside (κ μ : Kind) (rule : Rule) (K : ℕ) (s u : Several) : Type 0 where
  pub answer : u.answer ≡ s.answer
  pub labels : u.labels ≡ s.labels
  pub stored : u.stored ≡ s.stored
  pub keys : u.keys ≡ s.keys
  pub long : length u.counts ≡ length s.counts
  pub done : List (List ℕ)
  pub grown : Grown κ rule K done s.stored s.keys s.counts
  pub grown' : Grown μ rule K done u.stored u.keys u.counts
