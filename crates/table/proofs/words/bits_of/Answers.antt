-- Each word is put to those before it. Assumes nothing.
use Rattle.std.proofs.Common.{◌≡◌, take, bit_or, rules}
use Rattle.std.specs.List.{fold}
use Rattle.state.specs.Counted.{presence}
use Rattle.table.proofs.Presence.{gathered}
use Rattle.table.proofs.words.bits_of.Goals as goal

pub returns : goal.returns
returns c =
    let words = take c.args.n c.args.counts.now in
    let e : c.fold.result ≡ fold (λ b w. bit_or b w) 0 words = search rules in
    rw e (gathered presence words 0)
