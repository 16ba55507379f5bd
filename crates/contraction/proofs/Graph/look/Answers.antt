-- Where the k-mer is stored, its vertex is entered. Assumes nothing.
use mathlib.Core.Path.{◌∙◌}
use lib.ListN.{length}
use Rattle.kmer.specs.Says.{value_of}
use Rattle.graph.specs.Table.{keys_of}
use Rattle.directory.proofs.Confirmed.{found_by}
use Rattle.contraction.proofs.Entering.{look_found, look_missing}
use Rattle.contraction.proofs.Graph.look.Goals as goal

pub returns-in-Ok : goal.returns-in-Ok
returns-in-Ok c =
    let a = c.args in
    let told-by = found_by a.self.now.k (keys_of (length a.marks.now) a.self.now.keys.now) c.requires.fits a.self.now.k
    a.self.now.directory.now (value_of a.y) in
    look_found c.requires a.start.anchor a.start.side (value_of a.y)
    (c.find.ensures ∙ told-by) c.in-Ok.is a.side a.base c.enter.ensures

pub returns-in-Err : goal.returns-in-Err
returns-in-Err c =
    let a = c.args in
    let told-by = found_by a.self.now.k (keys_of (length a.marks.now) a.self.now.keys.now) c.requires.fits a.self.now.k
    a.self.now.directory.now (value_of a.y) in
    look_missing c.requires a.start.anchor a.start.side (value_of a.y)
    (c.find.ensures ∙ told-by) c.in-Err.is a.side a.base
