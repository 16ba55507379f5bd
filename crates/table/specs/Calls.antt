-- What the test of a table answers, on every table. Assumes nothing.
use Rattle.std.specs.Prelude.{ℕ, cond, List, [], ◌∷◌, Result, Ok, Err}
use Rattle.dna.specs.Answer.{Answer, gives, refuses}
use Rattle.kmer.specs.Calls.{with_k}
use Rattle.state.specs.Counted.{Kind}
use Rattle.graph.specs.Table.{fit_for}
use Rattle.table.specs.declared.FitError.{FitError}
use Rattle.table.specs.declared.FitError.TheVariants.{Unfit, UnsupportedK}

-- Whether a table is fit for its kind: 1, then 5.
abbrev pub fit_call : Kind → ℕ → ℕ → List ℕ → List ℕ → Answer (Unit {0})
fit_call κ K n keys counts = with_k K (cond (fit_for κ K n keys counts) (gives tt) (refuses 5 []))

abbrev pub fit_answer : Result (Unit {0}) FitError → Answer (Unit {0})
fit_answer (Ok _) = gives tt
fit_answer (Err Unfit) = refuses 5 []
fit_answer (Err (UnsupportedK K)) = refuses 1 (K ∷ [])
