use mathlib.Core.Path.{sym, ◌∙◌}
use native.Mathlib.Omega.{arith}
use Rattle.labels.proofs.Spelling.{spelled_empty, read_none, read_all, read_other, read_above, read_digit}
use Rattle.labels.proofs.number_of.Goals as goal

pub returns-then-is_empty : goal.returns-then-is_empty
returns-then-is_empty c = spelled_empty _ _ c.if-is_empty.ensures

pub loop-digit-init : goal.loop-digit-init
loop-digit-init c = read_none _ _ c.if-is_empty.ensures

pub returns-then-not-is_ascii_digit : goal.returns-then-not-is_ascii_digit
returns-then-not-is_ascii_digit c =
    let l = c.loop-digit in
    read_other _ _ l.invariant c.loop-digit-test.true (sym c.if-not-is_ascii_digit.ensures.value)

pub returns-then-from-x : goal.returns-then-from-x
returns-then-from-x c =
    let l = c.loop-digit in
    read_above _ _ l.invariant c.loop-digit-test.true (sym c.if-not-is_ascii_digit.ensures.value) (omega arith)

pub loop-digit-preserved : goal.loop-digit-preserved
loop-digit-preserved c =
    let l = c.loop-digit in
    rw c.from.ensures
    (read_digit _ _ l.invariant c.loop-digit-test.true (sym c.if-not-is_ascii_digit.ensures.value) (omega arith))

pub returns : goal.returns
returns c = read_all _ _ c.loop-digit.invariant (omega arith)
