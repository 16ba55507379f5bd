-- Rules 2 and 3, then the ends. Assumes nothing.
use Rattle.judging.proofs.Refusing.{one_missing, third_broken, third_kept}
use Rattle.judging.proofs.judgement.judge_kmers.Goals as goal

pub returns-then-lacks : goal.returns-then-lacks
returns-then-lacks c = one_missing c.requires.0 c.try_labels.ensures c.in-Ok.is c.lacks.ensures c.if-lacks.true

pub returns-in-Some : goal.returns-in-Some
returns-in-Some c =
    third_broken c.requires.0 c.try_labels.ensures c.in-Ok.is c.lacks.ensures c.if-lacks.false c.in-Some.is

pub returns-in-None : goal.returns-in-None
returns-in-None c =
    third_kept c.requires.0 c.try_labels.ensures c.in-Ok.is c.lacks.ensures c.if-lacks.false c.in-None.is
    c.judge_ends.ensures
