-- A refusal's line is put into the text. Assumes nothing.
use Rattle.label_file.proofs.Whole.{leaves_line}
use Rattle.label_file.proofs.list.list_unitigs.Goals as goal

pub returns-in-Err : goal.returns-in-Err
returns-in-Err c = leaves_line _ _ _ c.in-Err.ensures c.refuse.ensures
