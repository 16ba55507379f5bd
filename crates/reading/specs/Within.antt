-- How much of a buffer was read. Assumes nothing.
use Rattle.std.specs.Prelude.{ℕ, ◌≤◌, List, length, Result, IfOk}

-- No more than it holds.
abbrev pub Within : {E : Type 0} → Result ℕ E → List ℕ → Type 0
Within r buffer = IfOk r (λ n. n ≤ length buffer)
