-- `read` meets its contract: the shift and the mask read the counter (`read_laid`). Assumes nothing.
use Rattle.state.proofs.Laid.{read_laid}
use Rattle.state.proofs.Layout.read.Goals as goal

pub returns : goal.returns
returns c = rw c.place.ensures.0 (read_laid c.args.self c.args.slot c.requires c.args.word)
