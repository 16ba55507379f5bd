-- What the call leaves is what is printed. Assumes nothing.
use Rattle.label_file.specs.Judged.{few_zeros, judgement}
use Rattle.label_file.proofs.Within.{judgement_within}
use Rattle.label_file.proofs.Printing.{prints}
use Rattle.judge.proofs.judgement.Goals as goal

pub returns : goal.returns
returns c =
    let file = c.args.file.now in
    let list = c.args.list.now in
    rw c.unwrap_or.ensures
    (prints _ (judgement few_zeros file list) (rw c.requires at c.judge_list.ensures)
    (judgement_within few_zeros file list))
