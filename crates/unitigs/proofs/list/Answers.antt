-- What the call leaves is what is printed. Assumes nothing.
use Rattle.label_file.specs.Output.{zeros, output}
use Rattle.label_file.proofs.Within.{output_within}
use Rattle.label_file.proofs.Printing.{prints}
use Rattle.unitigs.proofs.list.Goals as goal

pub returns : goal.returns
returns c =
    let file = c.args.file.now in
    rw c.unwrap_or.ensures
    (prints _ (output zeros file) (rw c.requires at c.list_unitigs-printed.ensures) (output_within zeros file))
