-- All bases, none, or the first. Assumes nothing.
use Rattle.std.proofs.Common.{◌≡◌, ◌-◌, get_or, ◌∙◌, arith, rules, Fits, w64}
use Rattle.kmer.specs.Says.{value_of}
use Rattle.directory.proofs.Leading.{slot_long, slot_past}
use Rattle.directory.proofs.slots.slot_of.Goals as goal

pub returns-then-k-b : goal.returns-then-k-b
returns-then-k-b c = let e : c.args.k - c.args.b ≡ 0 = omega arith in rw e c.bases_before.ensures

pub returns-then-k-b-gt63 : goal.returns-then-k-b-gt63
returns-then-k-b-gt63 c =
    let a = c.args in
    let f : Fits w64 (get_or c.args.x.words 0 0) = search rules in
    let g : Fits w64 (get_or c.args.x.words 1 0) = search rules in
    slot_past a.b a.k (get_or a.x.words 0 0) (get_or a.x.words 1 0) f.fits g.fits c.if-k-b-gt63.true

pub returns : goal.returns
returns c = c.bases_before-2.ensures ∙ slot_long c.args.b c.args.k (value_of c.args.x)
