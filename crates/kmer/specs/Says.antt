-- What this crate's k-mers and results say in document 01's terms. Assumes nothing.
use Rattle.std.specs.Prelude.{ℕ, ◌≡◌, List, [], ◌∷◌, get_or, Result, Ok, Err, IfOk}
use Rattle.dna.specs.Answer.{Answer, gives, refuses, Filled}
use Rattle.kmer.specs.Kmer.{low, high, joined}
use Rattle.kmer.specs.declared.Kmer.{Kmer}
use Rattle.kmer.specs.declared.KmerError.{KmerError}
use Rattle.kmer.specs.declared.KmerError.TheVariants as error

-- The number that a k-mer holds.
abbrev pub value_of : Kmer → ℕ
value_of x = joined (get_or x.words 0 0) (get_or x.words 1 0)

-- The k-mer that holds a number.
abbrev pub kmer_of : ℕ → Kmer
kmer_of n = record { words = low n ∷ high n ∷ [] }

-- A refusal's number, and what is returned beside it.
abbrev pub refusal : {A : Type 0} → KmerError → Answer A
refusal (error.UnsupportedK K) = refuses 1 (K ∷ [])
refusal (error.TooShort n) = refuses 2 (n ∷ [])
refusal (error.InvalidBase place byte) = refuses 3 (place ∷ byte ∷ [])
refusal error.NoRoom = refuses 9 []
refusal error.OutOfRange = refuses 10 []
refusal error.NotBelow = refuses 14 []

-- What a call says: f of the value that it returns, or its refusal.
abbrev pub says : {A B : Type 0} → (A → B) → Result A KmerError → Answer B
says f (Ok a) = gives (f a)
says f (Err e) = refusal e

-- The number in an answer; zero in a refusal.
abbrev pub number_in : Answer ℕ → ℕ
number_in (gives n) = n
number_in (refuses r values) = 0

-- A call that makes a k-mer: what it says, and which k-mer it returns where it is not refused.
pub record Answers (r : Result Kmer KmerError) (a : Answer ℕ) : Type 0 where
  pub answer : says value_of r ≡ a
  pub kmer : IfOk r (λ x. x ≡ kmer_of (number_in a))

-- A call that writes a k-mer's letters: what it says, and the slice at exit.
pub record Spells (r : Result ℕ KmerError) (out : List ℕ) (f : Filled) : Type 0 where
  pub answer : says (λ n. n) r ≡ f.answer
  pub slice : out ≡ f.slice
