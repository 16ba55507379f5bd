-- By what contraction and writing the list answer. Assumes nothing.
use Rattle.std.proofs.lemmas.Result.{err_from_is_err_and}
use Rattle.label_file.proofs.Listing.{listed_refused, listed_all, listed_large}
use Rattle.label_file.proofs.list.list_table.Goals as goal

pub returns-in_err-listed : goal.returns-in_err-listed
returns-in_err-listed c =
    let e = err_from_is_err_and c.from_residual.result c.from_residual.ensures.1 in
    rw e.1 (λ p. listed_refused p _ _ _ _ _ _ _ c.in_err-listed.ensures e.2)

pub returns-in_err-size : goal.returns-in_err-size
returns-in_err-size c =
    let e = err_from_is_err_and c.from_residual-in_err-size.result c.from_residual-in_err-size.ensures.1 in
    rw e.1 (λ p. listed_large p _ _ _ _ _ _ _ c.in_ok-listed.ensures _ c.in_err-size.ensures e.2)

pub returns : goal.returns
returns c = λ p. listed_all p _ _ _ _ _ _ _ c.in_ok-listed.ensures c.in_ok-size.ensures
