-- Letter by letter. Assumes nothing.
use mathlib.Core.Path.{sym, ◌∙◌}
use Rattle.std.proofs.Common.{rules, tests}
use Rattle.std.proofs.lemmas.Iterator.{YieldsList-from_slice}
use Rattle.std.proofs.lemmas.Iterator.Search.{all_from_yields_List}
use Rattle.dna.specs.Text.{bytes, among}
use Rattle.judging.proofs.Lines.{plain_all}
use Rattle.judging.proofs.places.is_plain.Goals as goal

pub returns : goal.returns
returns c =
    all_from_yields_List (λ b. among b (bytes "ACGT")) _ _ _ c.all.ensures.ran
    (YieldsList-from_slice c.args.label.now cc)
    (λ x b q k. search (rules, tests)) ∙ sym (plain_all c.args.label.now)
