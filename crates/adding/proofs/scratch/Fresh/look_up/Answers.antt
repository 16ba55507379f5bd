use native.Mathlib.Omega.{arith}
use Rattle.kmer.specs.Says.{value_of}
use Rattle.adding.specs.Says.{rule_of}
use Rattle.adding.proofs.Coding.{code_small}
use Rattle.adding.proofs.Finding.{finds_ok, finds_err, finds_below}
use Rattle.adding.proofs.Looking.{looking_none, looking_known, looking_new}
use Rattle.adding.proofs.scratch.Fresh.look_up.Goals as goal
use Rattle.adding.proofs.scratch.Fresh.look_up.Goals.{in-Ok, in-Err}

pub loop-o-init : goal.loop-o-init
loop-o-init g c = looking_none (rule_of c.args.mode) _

pub overflow_add-note : goal.overflow_add-note
overflow_add-note g c =
    let small = code_small c.args.k c.args.label.now c.loop-o.o (rule_of c.args.mode) in
    record { fits = omega (arith, c.code_of-code.ensures, small) }

pub overflow_cast-noted : goal.overflow_cast-noted
overflow_cast-noted g c =
    let k = c.args.k in
    let n = c.args.n in
    let keys = c.args.keys.now in
    let cells = c.args.directory.now in
    let x = value_of c.see-seen.result.kmer in
    let y = c.requires.sought in
    elim c.match-find.branch [
      | in-Ok w ↦
          let f = finds_ok k n keys cells x y.fits c.find.ensures w.in-Ok.is in
          rw w.note-is (record { fits = omega (arith, finds_below n keys f, y.few) })
      | in-Err w ↦
          let f = finds_err k n keys cells x y.fits c.find.ensures w.in-Err.is in
          rw w.note-is (record { fits = omega (arith, finds_below n keys f, y.few) })
    ]

pub loop-o-preserved : goal.loop-o-preserved
loop-o-preserved g c =
    let rule = rule_of c.args.mode in
    let k = c.args.k in
    let n = c.args.n in
    let keys = c.args.keys.now in
    let cells = c.args.directory.now in
    let x = value_of c.see-seen.result.kmer in
    let y = c.requires.sought in
    let v = c.loop-o.invariant in
    elim c.match-find.branch [
      | in-Ok w ↦ rw (w.new-is, w.note-is, w.self-is)
          (looking_known rule _ v (omega arith) (omega arith) c.see-seen.ensures c.code_of-code.ensures
          (finds_ok k n keys cells x y.fits c.find.ensures w.in-Ok.is))
      | in-Err w ↦ rw (w.new-is, w.note-is, w.self-is)
          (looking_new rule _ v (omega arith) (omega arith) c.see-seen.ensures c.code_of-code.ensures
          (finds_err k n keys cells x y.fits c.find.ensures w.in-Err.is) (omega arith) (omega arith) w.put_key.ensures)
    ]
