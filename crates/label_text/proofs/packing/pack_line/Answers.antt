-- Each kind of line keeps the file that is to come. Assumes nothing.
use mathlib.Core.Path.{sym, ◌∙◌}
use Rattle.std.proofs.lemmas.Result.{err_from_is_err_and}
use Rattle.label_text.proofs.Steps.{header_closes, line_joins, line_closes, line_too_large}
use Rattle.label_text.proofs.packing.pack_line.Goals as goal

pub returns-then-is_header : goal.returns-then-is_header
returns-then-is_header c =
    header_closes _ _ _ _ c.requires.0 _ c.if-fasta.true (sym c.is_header.ensures ∙ c.if-is_header.true)
    _ _ c.close-at.ensures

pub returns-then-fasta : goal.returns-then-fasta
returns-then-fasta c =
    let a = c.args in
    line_joins a.line.now a.out.now a.open.at a.open.size c.requires.0 a.fasta
    c.if-fasta.true (sym c.is_header.ensures ∙ c.if-is_header.false) c.add_letters.result _ c.add_letters.ensures

pub returns-in_err-grown : goal.returns-in_err-grown
returns-in_err-grown c =
    let a = c.args in
    let f = c.if-fasta.false in
    let p = err_from_is_err_and c.from_residual.result c.from_residual.ensures.1 in
    rw p.1
    (line_too_large a.line.now a.out.now a.open.at a.open.size c.requires.0 a.fasta f (c.requires.1 f)
    c.in_err-grown.ensures.0 c.in_err-grown.ensures.1)

pub returns : goal.returns
returns c =
    let a = c.args in
    let f = c.if-fasta.false in
    line_closes a.line.now a.out.now a.open.at a.open.size c.requires.0 a.fasta f (c.requires.1 f)
    _ _ _ c.in_ok-grown.ensures _ _ c.close-at-2.ensures
