-- The answers' definitions tell their cases apart. Assumes nothing.
use mathlib.Core.Path.{◌≡◌, refl, ap}
use mathlib.Core.Bool.{Bool}
use Prim.Native.Nat.{ℕ}
use Rattle.std.specs.Prelude.{Result}
use Rattle.dna.specs.Calls.{code_in}
use Rattle.dna.specs.declared.Base.{Base}
use Rattle.dna.proofs.Answers.{told_apart}
use Rattle.dna.proofs.Calls.{code_inj}
use Rattle.state.specs.Says.{word_answer, counting_answer, marking_answer, frequency_answer}
use Rattle.state.specs.Says.{edge_answer, number_answer, test_answer}
use Rattle.state.specs.declared.EdgeFrequency.{EdgeFrequency}
use Rattle.state.specs.declared.EdgePresence.{EdgePresence}
use Rattle.state.specs.declared.NoBase.{NoBase}
use Rattle.state.specs.declared.WrongCutoff.{WrongCutoff}

-- What was counted is known by its answer.
pub counting_inj : (a b : Result EdgeFrequency NoBase) → counting_answer a ≡ counting_answer b → a ≡ b
counting_inj =
    told_apart counting_answer (λ f. f.packed) (λ _. 10) (λ _. refl) (λ _. refl)
    (λ _ _ h. ap (λ n. record { packed = n }) h) (λ _ _ _. refl)

-- So is a count.
pub frequency_inj : (a b : Result ℕ NoBase) → frequency_answer a ≡ frequency_answer b → a ≡ b
frequency_inj = told_apart frequency_answer (λ n. n) (λ _. 10) (λ _. refl) (λ _. refl) (λ _ _ h. h) (λ _ _ _. refl)

-- So are a word of either kind, presence bits, and what is asked of these.
pub word_inj : (a b : Result ℕ NoBase) → word_answer a ≡ word_answer b → a ≡ b
word_inj = told_apart word_answer (λ w. w) (λ _. 10) (λ _. refl) (λ _. refl) (λ _ _ h. h) (λ _ _ _. refl)

pub marking_inj : (a b : Result EdgePresence NoBase) → marking_answer a ≡ marking_answer b → a ≡ b
marking_inj =
    told_apart marking_answer (λ p. p.flags) (λ _. 10) (λ _. refl) (λ _. refl)
    (λ _ _ h. ap (λ n. record { flags = n }) h) (λ _ _ _. refl)

pub edge_inj : (a b : Result Base WrongCutoff) → edge_answer a ≡ edge_answer b → a ≡ b
edge_inj = told_apart edge_answer code_in (λ _. 15) (λ _. refl) (λ _. refl) code_inj (λ _ _ _. refl)

pub number_inj : (a b : Result ℕ WrongCutoff) → number_answer a ≡ number_answer b → a ≡ b
number_inj = told_apart number_answer (λ n. n) (λ _. 15) (λ _. refl) (λ _. refl) (λ _ _ h. h) (λ _ _ _. refl)

pub test_inj : (a b : Result Bool WrongCutoff) → test_answer a ≡ test_answer b → a ≡ b
test_inj = told_apart test_answer (λ t. t) (λ _. 15) (λ _. refl) (λ _. refl) (λ _ _ h. h) (λ _ _ _. refl)
