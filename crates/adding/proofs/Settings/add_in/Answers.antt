-- Without room the table stays; with room counting the stored and putting in the new leaves what the definition says.
-- Assumes nothing.
use mathlib.Core.Path.{◌≡◌}
use Prim.Native.Nat.{◌+◌, ◌-◌}
use native.Mathlib.Omega.{arith}
use lib.ListN.{length}
use borrow.Author.Rules.{rules}
use Rattle.graph.specs.Table.{keys_of}
use Rattle.graph.specs.Sightings.{windows}
use Rattle.graph.proofs.Accepted.{fit_room, fit_sound}
use Rattle.adding.specs.Says.{rule_of}
use Rattle.adding.proofs.Batch.{batch_few}
use Rattle.adding.proofs.Noted.{looked_all, known}
use Rattle.adding.proofs.Finish.{adds_full, not_refused, adds_joined}
use Rattle.adding.proofs.Settings.add_in.Goals as goal

pub overflow_add-n : goal.overflow_add-n
overflow_add-n g c =
    let y = c.requires.addable in
    let room = fit_room c.args.self.k c.args.n c.args.keys.now c.args.counts.now y.fits in
    record { fits = omega (arith, room, batch_few y c.make_vertices-new.ensures.grouped, y.given.short) }

pub returns-then-capacity-n : goal.returns-then-capacity-n
returns-then-capacity-n g c =
    adds_full c.requires.addable c.make_vertices-new.ensures.grouped
    (omega (arith, c.capacity.ensures, c.if-capacity-n.true))

pub raise_known-requires : goal.raise_known-requires
raise_known-requires g c =
    let y = c.requires.addable in (
      search rules,
      (
        known y c.make_vertices-new.ensures.looked (omega (arith, y.given.long)),
        omega (arith, y.given.long, c.requires.room),
      ),
    )

pub returns-in_err-stored : goal.returns-in_err-stored
returns-in_err-stored g c =
    let y = c.requires.addable in
    let fresh = c.make_vertices-new.new.fresh in
    let label = c.args.label.now in
    let k = c.args.self.k in
    let all : length label - k + 1 ≡ windows k label = omega (arith, y.given.long) in
    absurd
    (not_refused y c.make_vertices-new.ensures.grouped (omega (arith, c.capacity.ensures, c.if-capacity-n.false))
    (rw fresh.places_long c.requires.room) (rw fresh.counts_long c.requires.room) all
    (c.raise_known.ensures (rule_of c.args.self.mode) k label (keys_of c.args.n c.args.keys.now)
    (fit_sound k c.args.n c.args.keys.now c.args.counts.now y.fits).fits
    (looked_all y c.make_vertices-new.ensures.looked all))
    c.join.ensures c.in_err-stored.was)

pub returns : goal.returns
returns g c =
    let y = c.requires.addable in
    let fresh = c.make_vertices-new.new.fresh in
    let label = c.args.label.now in
    let k = c.args.self.k in
    let all : length label - k + 1 ≡ windows k label = omega (arith, y.given.long) in
    adds_joined y c.make_vertices-new.ensures.grouped (omega (arith, c.capacity.ensures, c.if-capacity-n.false))
    (rw fresh.places_long c.requires.room) (rw fresh.counts_long c.requires.room) all
    (c.raise_known.ensures (rule_of c.args.self.mode) k label (keys_of c.args.n c.args.keys.now)
    (fit_sound k c.args.n c.args.keys.now c.args.counts.now y.fits).fits
    (looked_all y c.make_vertices-new.ensures.looked all))
    c.join.ensures c.in_ok-stored.was
