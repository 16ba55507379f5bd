-- By what adding the labels of the index says. Assumes nothing.
use native.Mathlib.Omega.{arith}
use Rattle.label_file.proofs.TakingLabels.{tried, taken_few, takes_all, takes_some}
use Rattle.label_file.proofs.list.take_labels.Goals as goal

pub unwrap-labels-requires : goal.unwrap-labels-requires
unwrap-labels-requires c = tried _ _ _ _ c.index_labels-count.ensures c.add_labels-added.ensures

pub overflow_add-records : goal.overflow_add-records
overflow_add-records c =
    omega (arith, taken_few _ _ _ _ c.index_labels-count.ensures c.add_labels-added.ensures c.unwrap-labels.ensures)

pub returns-in-Ok : goal.returns-in-Ok
returns-in-Ok c =
    takes_all _ _ _ _ c.index_labels-count.ensures c.add_labels-added.ensures c.unwrap-labels.ensures c.in-Ok.is

pub returns-in-Err : goal.returns-in-Err
returns-in-Err c =
    takes_some _ _ _ _ c.index_labels-count.ensures c.add_labels-added.ensures c.unwrap-labels.ensures
    c.in-Err.is c.from.ensures
