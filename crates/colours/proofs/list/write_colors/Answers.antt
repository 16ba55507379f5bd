-- The tests of the runs and of the room choose the answer. Assumes nothing.
use Rattle.colours.proofs.Says.{checked, writes_none, writes_all}
use Rattle.colours.proofs.list.write_colors.Goals as goal

pub returns-then-out-kmers : goal.returns-then-out-kmers
returns-then-out-kmers c = writes_none _ _ _ (checked _ _ c.in_ok-check_runs.ensures) c.if-out-kmers.true

pub returns : goal.returns
returns c = writes_all _ _ _ (checked _ _ c.in_ok-check_runs.ensures) c.if-out-kmers.false _ c.paint_runs.ensures
