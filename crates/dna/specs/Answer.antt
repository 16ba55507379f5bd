-- What a call answers, and what it leaves in a slice that was lent to it. Assumes nothing.
use Rattle.std.specs.Prelude.{ℕ, cond, List, [], ltb, length}
use Rattle.dna.specs.Text.{over}

-- The values asked for, or a refusal: its number in document 01's table and what is returned beside it.
pub data Answer (A : Type 0) : Type 0 where
  gives : A → Answer A
  refuses : ℕ → List ℕ → Answer A

-- An answer, and the content of the one lent slice afterwards.
pub record Filled : Type 0 where
  pub answer : Answer ℕ
  pub slice : List ℕ

-- A text is written where it fits and the answer is its length; else refusal r, and nothing changes.
abbrev pub fill : ℕ → List ℕ → List ℕ → Filled
fill r text slice =
    cond (ltb (length slice) (length text)) (record { answer = refuses r []; slice = slice })
    (record { answer = gives (length text); slice = over text slice })
