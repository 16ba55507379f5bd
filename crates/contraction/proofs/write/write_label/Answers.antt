-- The texts of the label are placed one behind the other, and made the smaller strand. Assumes nothing.
use native.Mathlib.Omega.{arith}
use Rattle.kmer.specs.Says.{value_of}
use Rattle.contraction.proofs.Writing.{Legible, back_inside, fits_closed, room_closed, whole_closed, written_closed}
use Rattle.contraction.proofs.Writing.{front_inside, fits_open, kmer_room, back_room, whole_open, written_open}
use Rattle.contraction.proofs.write.write_label.Goals as goal

pub put_letters-requires : goal.put_letters-requires
put_letters-requires c =
    let a = c.args in
    let y : Legible a.k (value_of a.x) a.trail.now a.from a.buffer.now a.at c.walk_length-back.result =
    record { piece = c.requires.2; room = c.requires.3; back = c.walk_length-back.ensures } in
    (c.requires.0, c.requires.1, omega (arith, fits_closed y c.if-trail-stop-eq-CLOSED.true))

pub copy_walk-requires : goal.copy_walk-requires
copy_walk-requires c =
    let a = c.args in
    let y : Legible a.k (value_of a.x) a.trail.now a.from a.buffer.now a.at c.walk_length-back.result =
    record { piece = c.requires.2; room = c.requires.3; back = c.walk_length-back.ensures } in
    (omega (arith, back_inside y), room_closed y c.if-trail-stop-eq-CLOSED.true c.put_letters.ensures)

pub canonicalize_part-requires : goal.canonicalize_part-requires
canonicalize_part-requires c =
    let a = c.args in
    let y : Legible a.k (value_of a.x) a.trail.now a.from a.buffer.now a.at c.walk_length-back.result =
    record { piece = c.requires.2; room = c.requires.3; back = c.walk_length-back.ensures } in
    whole_closed y c.if-trail-stop-eq-CLOSED.true c.put_letters.ensures c.copy_walk.ensures

pub returns-then-trail-stop-eq-CLOSED : goal.returns-then-trail-stop-eq-CLOSED
returns-then-trail-stop-eq-CLOSED c =
    let a = c.args in
    let y : Legible a.k (value_of a.x) a.trail.now a.from a.buffer.now a.at c.walk_length-back.result =
    record { piece = c.requires.2; room = c.requires.3; back = c.walk_length-back.ensures } in
    written_closed y c.if-trail-stop-eq-CLOSED.true c.put_letters.ensures c.copy_walk.ensures
    c.canonicalize_part.ensures

pub copy_turned-requires : goal.copy_turned-requires
copy_turned-requires c =
    let a = c.args in
    let y : Legible a.k (value_of a.x) a.trail.now a.from a.buffer.now a.at c.walk_length-back.result =
    record { piece = c.requires.2; room = c.requires.3; back = c.walk_length-back.ensures } in
    let o = c.if-trail-stop-eq-CLOSED.false in
    let m = c.walk_length-front.ensures in
    (front_inside y o m, omega (arith, fits_open y o m))

pub put_letters-requires-2 : goal.put_letters-requires-2
put_letters-requires-2 c =
    let a = c.args in
    let y : Legible a.k (value_of a.x) a.trail.now a.from a.buffer.now a.at c.walk_length-back.result =
    record { piece = c.requires.2; room = c.requires.3; back = c.walk_length-back.ensures } in (
      c.requires.0,
      c.requires.1,
      kmer_room y c.if-trail-stop-eq-CLOSED.false c.walk_length-front.ensures
          c.copy_turned.ensures,
    )

pub overflow_add-at-4 : goal.overflow_add-at-4
overflow_add-at-4 c =
    let a = c.args in
    let y : Legible a.k (value_of a.x) a.trail.now a.from a.buffer.now a.at c.walk_length-back.result =
    record { piece = c.requires.2; room = c.requires.3; back = c.walk_length-back.ensures } in
    omega (arith, fits_open y c.if-trail-stop-eq-CLOSED.false c.walk_length-front.ensures, c.well_formed)

pub copy_walk-requires-2 : goal.copy_walk-requires-2
copy_walk-requires-2 c =
    let a = c.args in
    let y : Legible a.k (value_of a.x) a.trail.now a.from a.buffer.now a.at c.walk_length-back.result =
    record { piece = c.requires.2; room = c.requires.3; back = c.walk_length-back.ensures } in (
      omega (arith, back_inside y),
      back_room y c.if-trail-stop-eq-CLOSED.false c.walk_length-front.ensures c.copy_turned.ensures
          c.put_letters-2.ensures,
    )

pub canonicalize_part-requires-2 : goal.canonicalize_part-requires-2
canonicalize_part-requires-2 c =
    let a = c.args in
    let y : Legible a.k (value_of a.x) a.trail.now a.from a.buffer.now a.at c.walk_length-back.result =
    record { piece = c.requires.2; room = c.requires.3; back = c.walk_length-back.ensures } in
    whole_open y c.if-trail-stop-eq-CLOSED.false c.walk_length-front.ensures c.copy_turned.ensures
    c.put_letters-2.ensures c.copy_walk-2.ensures

pub returns : goal.returns
returns c =
    let a = c.args in
    let y : Legible a.k (value_of a.x) a.trail.now a.from a.buffer.now a.at c.walk_length-back.result =
    record { piece = c.requires.2; room = c.requires.3; back = c.walk_length-back.ensures } in
    written_open y c.if-trail-stop-eq-CLOSED.false c.walk_length-front.ensures c.copy_turned.ensures
    c.put_letters-2.ensures c.copy_walk-2.ensures c.canonicalize_part-2.ensures
