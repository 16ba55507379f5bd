-- The rows gathered are sorted; so they are listed as grouping asks. Assumes nothing.
use native.Mathlib.Omega.{arith}
use borrow.Author.Rules.{rules}
use Rattle.graph.specs.Table.{keys_of}
use Rattle.adding.specs.Says.{rule_of}
use Rattle.adding.proofs.Listing.{rowed, sorted_grouped}
use Rattle.adding.proofs.Settings.make_vertices.Goals as goal

pub group-requires : goal.group-requires
group-requires g c =
    let ks = keys_of c.args.n c.args.keys.now in
    let fresh = c.gather-rows.new.self in
    let z = c.sort_rows in (
      search rules,
      (
        search rules,
        rowed {ks = ks} c.requires.sought.given c.gather-rows.ensures (omega (arith, fresh.keys_long, fresh.pairs))
            (rw fresh.offsets_long c.requires.room) z.ensures z.auto.keys z.auto.numbers c.requires.room,
      ),
    )

pub returns-clause-grouped : goal.returns-clause-grouped
returns-clause-grouped g c =
    let ks = keys_of c.args.n c.args.keys.now in
    let y = c.requires.sought in
    let fresh = c.gather-rows.new.self in
    let z = c.sort_rows in
    sorted_grouped {ks = ks} y.given c.gather-rows.ensures (omega (arith, fresh.keys_long, fresh.pairs))
    (rw fresh.offsets_long c.requires.room) z.ensures z.auto.keys z.auto.numbers
    (c.group.ensures (rule_of c.args.self.mode) c.args.self.k c.args.label.now ks)
