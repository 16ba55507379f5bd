-- Counters fill their word; presence bits are tested. Assumes nothing.
use Rattle.std.proofs.Common.{sym}
use Rattle.state.specs.Counted.{four_bits}
use Rattle.table.proofs.Presence.{words_all, four_fits}
use Rattle.table.proofs.words.words_fit.Goals as goal

pub returns-in-Counted : goal.returns-in-Counted
returns-in-Counted c =
    let known = c.type_inv.counts in
    rw c.in-Counted.is
    (sym (words_all four_bits c.args.n c.args.counts.now c.requires (λ i b. four_fits _ (known i).fits)))
