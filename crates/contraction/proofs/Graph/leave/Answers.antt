-- In the order of the definition. Assumes nothing.
use Rattle.std.proofs.Common.{◌≡◌, arith}
use Rattle.dna.specs.Calls.{code_in}
use Rattle.kmer.specs.Says.{value_of}
use Rattle.contraction.proofs.Rolling.{both_here}
use Rattle.contraction.proofs.Stepping.{leave_none, leave_several, leave_code, leave_on}
use Rattle.contraction.proofs.Graph.leave.Goals as goal

pub returns-in-5 : goal.returns-in-5
returns-in-5 c =
    let a = c.args in
    leave_none c.requires.0 a.start.anchor a.start.side a.stand.vertex a.stand.side c.requires.1.inside
    c.edge_in.ensures c.in-5.is

pub returns-in-4 : goal.returns-in-4
returns-in-4 c =
    let a = c.args in
    leave_several c.requires.0 a.start.anchor a.start.side a.stand.vertex a.stand.side c.requires.1.inside
    c.edge_in.ensures c.in-4.is

pub rolled-next-requires : goal.rolled-next-requires
rolled-next-requires c =
    let a = c.args in
    let some : c.edge_in.result ≡ 5 → ⊥ = λ e. omega (arith, c.in_default) in
    let single : c.edge_in.result ≡ 4 → ⊥ = λ e. omega (arith, c.in_default) in
    let code =
    leave_code c.requires.0 a.start.anchor a.start.side a.stand.vertex a.stand.side c.requires.1.inside
    c.edge_in.ensures some single
    (code_in c.leaving_base-base.result) c.leaving_base-base.ensures in
    (c.requires.0.ok, code, both_here c.requires.1.both)

pub returns-in_default : goal.returns-in_default
returns-in_default c =
    let a = c.args in
    let some : c.edge_in.result ≡ 5 → ⊥ = λ e. omega (arith, c.in_default) in
    let single : c.edge_in.result ≡ 4 → ⊥ = λ e. omega (arith, c.in_default) in
    leave_on c.requires.0 a.start.anchor a.start.side a.stand.vertex a.stand.side c.requires.1.inside c.edge_in.ensures
    some single
    (code_in c.leaving_base-base.result) c.leaving_base-base.ensures
    (value_of a.stand.strands.here) c.requires.1.both.here c.rolled-next.ensures.here c.bits.ensures c.arrive.ensures
