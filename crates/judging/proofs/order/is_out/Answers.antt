-- By the label before, then by the other strand. Assumes nothing.
use Rattle.judging.proofs.Orderly.{out_first, out_second}
use Rattle.judging.proofs.order.is_out.Goals as goal

pub returns-then-is_not_behind : goal.returns-then-is_not_behind
returns-then-is_not_behind c = λ done f. out_first done _ (c.is_not_behind.ensures done f) c.if-is_not_behind.true

pub returns-else-is_not_behind : goal.returns-else-is_not_behind
returns-else-is_not_behind c =
    λ done f. out_second done _ (c.is_not_behind.ensures done f) c.if-is_not_behind.false c.is_above.ensures
