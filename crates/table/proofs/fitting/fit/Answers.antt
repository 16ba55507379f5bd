-- Each end is one of the test's. Assumes nothing.
use Rattle.std.proofs.Common.{true, false, sym, arith}
use Rattle.kmer.proofs.Bounds.{bounds_ok}
use Rattle.state.specs.Says.{kind_of}
use Rattle.table.proofs.Verdict.{fit_refused, fit_over, fit_keys, fit_words}
use Rattle.table.proofs.fitting.fit.Goals as goal
use Rattle.table.proofs.fitting.fit.Goals.{else-n-capacity-via-then-n-capacity+then-keys_fit+else-words_fit, else-n-capacity-via-then-n-capacity+else-keys_fit, else-n-capacity-via-else-n-capacity}

pub returns-then-k-eq0 : goal.returns-then-k-eq0
returns-then-k-eq0 c =
    let a = c.args in
    fit_refused (kind_of a.kind) a.k a.n a.keys.now a.counts.now (λ l m. omega arith)

pub keys_fit-requires : goal.keys_fit-requires
keys_fit-requires c = (bounds_ok c.args.k (omega arith) (omega arith), omega (arith, c.capacity.ensures))

pub words_fit-requires : goal.words_fit-requires
words_fit-requires c = omega (arith, c.capacity.ensures)

pub returns-then-words_fit : goal.returns-then-words_fit
returns-then-words_fit c =
    let a = c.args in
    fit_words (kind_of a.kind) a.k a.n a.keys.now a.counts.now (omega arith) (omega arith)
    (omega (arith, c.capacity.ensures))
    (sym c.if-keys_fit.ensures) true c.if-words_fit.ensures

pub returns : goal.returns
returns c =
    let a = c.args in
    elim c.else-n-capacity.branch [
      | else-n-capacity-via-then-n-capacity+then-keys_fit+else-words_fit w ↦
          fit_words (kind_of a.kind) a.k a.n a.keys.now a.counts.now (omega arith) (omega arith)
          (omega (arith, c.capacity.ensures)) (sym w.if-keys_fit.ensures) false w.if-words_fit.ensures
      | else-n-capacity-via-then-n-capacity+else-keys_fit w ↦
          fit_keys (kind_of a.kind) a.k a.n a.keys.now a.counts.now (omega arith) (omega arith)
          (omega (arith, c.capacity.ensures)) (sym w.if-keys_fit.ensures)
      | else-n-capacity-via-else-n-capacity w ↦
          fit_over (kind_of a.kind) a.k a.n a.keys.now a.counts.now (omega arith) (omega arith)
          (omega (arith, c.capacity.ensures))
    ]
