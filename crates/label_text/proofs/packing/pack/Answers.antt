-- Whether the text is mixed, the file's size, and its copy into the slice choose the answer. Assumes nothing.
use mathlib.Core.Path.{sym, ◌∙◌}
use native.Mathlib.Omega.{arith}
use Rattle.std.proofs.lemmas.Result.{err_from_is_err_and}
use Rattle.label_text.proofs.Says.{packs_mixed, packs_large, packs_copied}
use Rattle.label_text.proofs.packing.pack.Goals as goal

pub returns-then-is_mixed : goal.returns-then-is_mixed
returns-then-is_mixed c =
    let a = c.args in packs_mixed a.k a.cutoff a.text.now a.out.now (sym c.if-is_mixed.true ∙ c.is_mixed.ensures)

pub returns-in_err-size : goal.returns-in_err-size
returns-in_err-size c =
    let a = c.args in
    let e = err_from_is_err_and c.from_residual.result c.from_residual.ensures.1 in
    rw (e.1, e.2)
    (packs_large a.k a.cutoff a.text.now a.out.now (sym c.if-is_mixed.false ∙ c.is_mixed.ensures) c.in_err-size.ensures)

pub returns-in_err-copy : goal.returns-in_err-copy
returns-in_err-copy c =
    let a = c.args in
    let m = c.in_ok-size.ensures in
    let e = err_from_is_err_and c.from_residual-in_err-copy.result c.from_residual-in_err-copy.ensures.1 in
    rw (e.1, e.2)
    (packs_copied a.k a.cutoff a.text.now a.out.now (sym c.if-is_mixed.false ∙ c.is_mixed.ensures)
    (omega (arith, m.0, m.1)) (rw m.2 at c.in_err-copy.ensures))

pub returns : goal.returns
returns c =
    let a = c.args in
    let m = c.in_ok-size.ensures in
    packs_copied a.k a.cutoff a.text.now a.out.now (sym c.if-is_mixed.false ∙ c.is_mixed.ensures)
    (omega (arith, m.0, m.1)) (rw m.2 at c.in_ok-copy.ensures)
