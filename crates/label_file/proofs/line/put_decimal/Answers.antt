use mathlib.Core.Path.{refl}
use Rattle.label_file.proofs.Digits.{digits_one, digits_next, digits_all}
use Rattle.label_file.proofs.line.put_decimal.Goals as goal

pub loop-x-init : goal.loop-x-init
loop-x-init c = digits_one c.args.number c.args.out.now c.args.at c.ranges.number.fits c.requires.0 c.requires.1

pub loop-x-preserved : goal.loop-x-preserved
loop-x-preserved c = digits_next c.loop-x.invariant c.loop-x-test.true

pub returns : goal.returns
returns c = digits_all c.loop-x.invariant c.loop-x-test.false c.args.out.now _ refl
