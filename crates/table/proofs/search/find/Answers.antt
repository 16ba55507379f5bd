-- From the first place to the last it is the search among all. Assumes nothing.
use Rattle.kmer.specs.Says.{value_of}
use Rattle.table.proofs.Searching.{find_all}
use Rattle.table.proofs.search.find.Goals as goal

pub returns : goal.returns
returns c =
    let a = c.args in
    find_all a.n a.keys.now (value_of a.x) c.find_between.ensures
