use Rattle.label_file.proofs.Verdicts.{refusal_said}
use Rattle.label_file.proofs.judgement.refused.Goals as goal

pub returns-in_default : goal.returns-in_default
returns-in_default c = refusal_said _ c.args.error _ c.in_default.not-EvenK c.from.ensures
