-- Where the k-mer is stored, it is marked unless it was or is isolated, and its edges are compared. Assumes nothing.
use Rattle.kmer.specs.Says.{value_of}
use Rattle.judging.proofs.Finding.{at_lt}
use Rattle.judging.proofs.Marking.{kmer_gap, kmer_skipped, kmer_fine, kmer_bad}
use Rattle.judging.proofs.standing.test_kmer.Goals as goal

pub returns-in_default : goal.returns-in_default
returns-in_default c =
    let a = c.args in
    let g = a.graph.now in
    kmer_gap c.requires.0 g.directory.now a.label.now a.o (value_of a.c) a.side c.find.ensures
    c.in_default.is

pub returns-then-is_skipped : goal.returns-then-is_skipped
returns-then-is_skipped c =
    let a = c.args in
    let g = a.graph.now in
    kmer_skipped c.requires.0 g.directory.now a.label.now a.o (value_of a.c) a.side c.find.ensures
    c.in-Ok.is c.is_skipped.ensures c.if-is_skipped.true

pub bounds-marks-v : goal.bounds-marks-v
bounds-marks-v c =
    let a = c.args in
    let g = a.graph.now in
    at_lt c.requires.0 g.directory.now (value_of a.c) c.find.ensures c.in-Ok.is

pub bounds-marks-v-2 : goal.bounds-marks-v-2
bounds-marks-v-2 c =
    let a = c.args in
    let g = a.graph.now in
    at_lt c.requires.0 g.directory.now (value_of a.c) c.find.ensures c.in-Ok.is

pub returns-then-is_joined : goal.returns-then-is_joined
returns-then-is_joined c =
    let a = c.args in
    let g = a.graph.now in
    kmer_fine c.requires.0 g.directory.now a.label.now a.o (value_of a.c) a.side c.find.ensures
    c.in-Ok.is c.is_skipped.ensures c.if-is_skipped.false
    c.is_joined.ensures c.if-is_joined.true

pub returns-else-is_joined : goal.returns-else-is_joined
returns-else-is_joined c =
    let a = c.args in
    let g = a.graph.now in
    kmer_bad c.requires.0 g.directory.now a.label.now a.o (value_of a.c) a.side c.find.ensures
    c.in-Ok.is c.is_skipped.ensures c.if-is_skipped.false
    c.is_joined.ensures c.if-is_joined.false
