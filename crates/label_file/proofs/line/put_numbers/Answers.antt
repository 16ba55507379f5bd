-- The line from its end: newline, number, space, number. Assumes nothing.
use native.Mathlib.Omega.{arith}
use Rattle.label_file.proofs.Lines.{places, numbers_made}
use Rattle.label_file.proofs.line.put_numbers.Goals as goal

pub returns : goal.returns
returns c =
    let q = c.put_decimal in
    let p = c.put_decimal-i in
    let b = places c.args.line.now _ _ _ _ _ _ c.requires p.ensures p.auto.out q.ensures in
    (numbers_made c.args.line.now _ _ _ _ _ _ c.requires p.ensures p.auto.out q.ensures, b.0, omega (arith, b.1, b.3))
