-- The definition of the answers tells them apart. Assumes nothing.
use Rattle.std.proofs.Common.{◌≡◌, refl, Result, Ok, Err}
use Rattle.table.specs.Calls.{fit_answer}
use Rattle.table.specs.declared.FitError.{FitError}
use Rattle.table.specs.declared.FitError.TheVariants.{Unfit, UnsupportedK}

-- What the test of a table found is known by its answer.
pub fit_inj : (a b : Result (Unit {0}) FitError) → fit_answer a ≡ fit_answer b → a ≡ b
fit_inj (Ok s) (Ok t) h = refl
fit_inj (Ok t) (Err Unfit) h = cc
fit_inj (Ok t) (Err (UnsupportedK k)) h = cc
fit_inj (Err Unfit) (Ok t) h = cc
fit_inj (Err Unfit) (Err Unfit) h = refl
fit_inj (Err Unfit) (Err (UnsupportedK k)) h = cc
fit_inj (Err (UnsupportedK k)) (Ok t) h = cc
fit_inj (Err (UnsupportedK k)) (Err Unfit) h = cc
fit_inj (Err (UnsupportedK k)) (Err (UnsupportedK l)) h = cc
