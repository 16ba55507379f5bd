use Rattle.std.proofs.Common.{arith}
use Rattle.table.proofs.Entering.{upto_none, upto_more}
use Rattle.table.proofs.KeysIn.{words_none, words_more, words_all}
use Rattle.table.proofs.joining.join_keys.Goals as goal

pub loop-j-init : goal.loop-j-init
loop-j-init c =
    let a = c.args in
    let p = c.requires in
    let k = c.type_inv.keys in (
      upto_none a.n a.m a.places.now p.1 p.3,
      words_none a.n a.m a.places.now p.1 a.new_keys.now a.keys.now p.2 p.0
          (λ i. (k i).fits),
    )

pub loop-j-preserved : goal.loop-j-preserved
loop-j-preserved c =
    let l = c.loop-j in
    let a = c.args in
    let p = c.requires in
    let k = c.type_inv.new_keys in
    let e = c.copy_within.ensures in (
      upto_more a.n a.m a.places.now p.1 p.3 l.invariant.0 (omega arith),
      words_more a.n a.m a.places.now p.1 a.new_keys.now a.keys.now p.2 p.0 l.end l.j l.invariant.0 l.invariant.1
          l.auto.keys (omega arith) e.after e.len (λ i. (k i).fits) c.put_key.ensures,
    )

pub returns : goal.returns
returns c =
    let l = c.loop-j in
    let a = c.args in
    let p = c.requires in
    words_all a.n a.m a.places.now p.1 a.new_keys.now a.keys.now p.2 p.0 l.end l.j l.invariant.1 l.auto.keys
    (omega arith)
