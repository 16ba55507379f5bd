-- Both neighbours are at most 5, so they fit a byte. Assumes nothing.
use mathlib.Core.Path.{◌∙◌}
use native.Mathlib.Omega.{arith}
use Rattle.adding.specs.Says.{rule_of}
use Rattle.adding.proofs.Neighbours.{straight_code, turned_code}
use Rattle.adding.proofs.Coding.{predecessor_most, successor_most, complement_most}
use Rattle.adding.proofs.windows.code_of.Goals as goal

pub overflow_mul-result : goal.overflow_mul-result
overflow_mul-result c =
    let q = successor_most c.args.k c.args.label.now c.args.o in
    record { fits = omega (arith, c.bits-then-seen.ensures, c.after_of-after.ensures, q) }

pub overflow_add-result : goal.overflow_add-result
overflow_add-result c =
    let p = predecessor_most c.args.k c.args.label.now c.args.o (rule_of c.args.mode) in
    let q = successor_most c.args.k c.args.label.now c.args.o in
    record {
      fits = omega (arith, c.bits.ensures, c.bits-then-seen.ensures, c.after_of-after.ensures, c.before_of-before.ensures, p, q);
    }

pub overflow_mul-result-else-seen : goal.overflow_mul-result-else-seen
overflow_mul-result-else-seen c =
    let p = predecessor_most c.args.k c.args.label.now c.args.o (rule_of c.args.mode) in
    let h = complement_most (c.bits-else-seen-2.ensures ∙ c.complement-else-seen.ensures) c.before_of-before.ensures p in
    record { fits = omega (arith, h) }

pub overflow_add-result-else-seen : goal.overflow_add-result-else-seen
overflow_add-result-else-seen c =
    let p = predecessor_most c.args.k c.args.label.now c.args.o (rule_of c.args.mode) in
    let q = successor_most c.args.k c.args.label.now c.args.o in
    let h = complement_most (c.bits-else-seen-2.ensures ∙ c.complement-else-seen.ensures) c.before_of-before.ensures p in
    let j = complement_most (c.bits-else-seen.ensures ∙ c.complement.ensures) c.after_of-after.ensures q in
    record { fits = omega (arith, h, j) }

pub returns-then-seen : goal.returns-then-seen
returns-then-seen c =
    straight_code (rule_of c.args.mode) c.args.k c.args.label.now c.args.o
    (c.bits.ensures ∙ c.before_of-before.ensures) (c.bits-then-seen.ensures ∙ c.after_of-after.ensures)
    c.requires.2.here.straight c.if-seen.true

pub returns-else-seen : goal.returns-else-seen
returns-else-seen c =
    turned_code (rule_of c.args.mode) c.args.k c.args.label.now c.args.o c.before_of-before.ensures
    c.after_of-after.ensures c.requires.2.here.straight c.if-seen.false
    (c.bits-else-seen-2.ensures ∙ c.complement-else-seen.ensures) (c.bits-else-seen.ensures ∙ c.complement.ensures)
