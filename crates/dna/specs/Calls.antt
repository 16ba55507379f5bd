-- What this crate's types say in document 01's numbers. Assumes nothing.
use Rattle.std.specs.Prelude.{ℕ, ◌≡◌, cond, List, [], Option, Some, None, Result, Ok, Err}
use Rattle.dna.specs.Answer.{Answer, gives, refuses, Filled}
use Rattle.dna.specs.Letters.{code_of, is_base}
use Rattle.dna.specs.declared.Base.{Base}
use Rattle.dna.specs.declared.Base.TheVariants.{A, C, G, T, N, E}
use Rattle.dna.specs.declared.NoRoom.{NoRoom}

-- The code of a `Base`.
abbrev pub code_in : Base → ℕ
code_in A = 0
code_in C = 1
code_in G = 2
code_in T = 3
code_in N = 4
code_in E = 5

-- Two bits where a byte is a base; what they are is f's.
abbrev pub bits_where : (ℕ → ℕ) → ℕ → Option ℕ
bits_where f b = cond (is_base b) (Some (f (code_of b))) None

-- A text was written with this many bytes, or did not fit.
abbrev pub written_answer : Result ℕ NoRoom → Answer ℕ
written_answer (Ok n) = gives n
written_answer (Err e) = refuses 9 []

-- A call that writes one text: its answer, and the slice at exit.
pub record Writes (r : Result ℕ NoRoom) (out : List ℕ) (f : Filled) : Type 0 where
  pub answer : written_answer r ≡ f.answer
  pub slice : out ≡ f.slice
