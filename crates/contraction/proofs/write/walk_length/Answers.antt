-- The letters before the first byte that is none. Assumes nothing.
use Rattle.std.proofs.Common.{◌≡◌, ℕ, List, ◌-◌, length, take, ltb, drop, ap, ◌∙◌, arith, rules, tests, length-drop}
use Rattle.std.proofs.Common.{take_all}
use Rattle.std.proofs.lemmas.Iterator.{YieldsList-from_slice}
use Rattle.std.proofs.lemmas.Iterator.Consumers.{count_from_yields_List}
use Rattle.std.proofs.lemmas.Iterator.Search.{YieldsList-from_take_while}
use Rattle.std.proofs.lemmas.List.Folds.{length-prefix_len}
use Rattle.contraction.proofs.Reading.{count_prefix}
use Rattle.contraction.proofs.write.walk_length.Goals as goal

-- What is lent as `text[from..]`.
from_on : (from : ℕ) (text : List ℕ) → take (length text - from) (drop from text) ≡ drop from text
from_on from text = take_all _ (drop from text) (omega (arith, length-drop from text))

pub returns : goal.returns
returns c =
    let text = c.args.trail.now in
    let lent = ap (λ i. i.rest.now) c.take_while.ensures.source ∙ c.iter.ensures.rest ∙ from_on c.args.from text in
    count_from_yields_List c.take_while.result c.count.result c.count.ensures.ran
    (YieldsList-from_take_while _ (ltb 2) (YieldsList-from_slice (drop c.args.from text) lent)
    c.take_while.ensures.closure
    c.take_while.ensures.done (λ x b q k. search (rules, tests)))
    ∙ length-prefix_len (ltb 2) (drop c.args.from text) ∙ count_prefix (drop c.args.from text)
