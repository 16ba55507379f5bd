-- The sum over the bytes is their number. Assumes nothing.
use Rattle.std.proofs.Common.{◌<◌, ◌^◌, ◌∙◌, sym, arith, rules, tests}
use Rattle.std.specs.List.{sum_by}
use Rattle.std.proofs.lemmas.Iterator.{YieldsList-from_slice, YieldsList-from_map}
use Rattle.std.proofs.lemmas.Iterator.Consumers.{sum_by_from_yields_List, fits_by_from_yields_list}
use Rattle.panel.specs.Probes.{gc_of}
use Rattle.panel.proofs.Sliding.{gcs_le, gcs_sum}
use Rattle.panel.proofs.gc_in.Goals as goal

pub sum-requires-clause-fits : goal.sum-requires-clause-fits
sum-requires-clause-fits c =
    let s = c.args.text.now in
    let few : sum_by gc_of s < 2 ^ 64 = omega (arith, gcs_sum s, gcs_le s) in
    fits_by_from_yields_list gc_of s c.map.result _
    (YieldsList-from_map _ gc_of (YieldsList-from_slice s cc) c.map.ensures.closure (λ x r q k. search (rules, tests)))
    few

pub returns : goal.returns
returns c =
    let s = c.args.text.now in
    sum_by_from_yields_List gc_of s c.map.result _ c.sum.ensures.ran
    (YieldsList-from_map _ gc_of (YieldsList-from_slice s cc) c.map.ensures.closure (λ x r q k. search (rules, tests)))
    ∙ sym (gcs_sum s)
