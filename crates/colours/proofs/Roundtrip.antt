-- Packing and unpacking return each other's input, and a coordinate in process is never packed. Assumes nothing.
use mathlib.Core.Path.{◌≡◌, refl, sym, ap}
use mathlib.Core.Bool.{Bool, true, false, ◌&&◌}
use mathlib.Core.List.{[]}
use Prim.Native.Nat.{ℕ, ◌+◌, ◌*◌, ◌/◌, ◌%◌, ◌^◌, ◌≤◌, ◌<◌}
use native.Mathlib.Omega.{arith}
use borrow.Author.Tests.{lt-ltb, le-ltb, ltb-true, eqb-true, ne_eqb}
use lib.Dec.{ltb}
use lib.Pow.{high, low, split, shr_lt}
use Rattle.lemmas.proofs.Tests.{both}
use Rattle.dna.specs.Answer.{gives, refuses}
use Rattle.colours.specs.Packed.{coordinate_of, in_process, offset_in, coordinate_in, in_range}
use Rattle.colours.specs.Packed.{discovered_call, u40_call, worker_call, index_call, parts_call, run_call}
use Rattle.colours.proofs.Packing.{answered, parts_both, parts_each}

-- What a coordinate is packed from is in range, and so is the coordinate.
module _ (worker index : ℕ) {coordinate : ℕ} (h : discovered_call worker index ≡ gives coordinate) where
  made : (worker < 2 ^ 8) × (index < 2 ^ 32) × (coordinate_of worker index ≡ coordinate)
  made =
      let r = answered (ltb worker (2 ^ 8) && ltb index (2 ^ 32)) h in
      let b = both (ltb worker (2 ^ 8)) (ltb index (2 ^ 32)) r.0 in
      (ltb-true worker (2 ^ 8) b.0, ltb-true index (2 ^ 32) b.1, r.1)

  pub made_short : coordinate < 2 ^ 40
  made_short = omega (arith, made.0, made.1, made.2)

  -- It has the parts that it was packed from,
  pub parts_of : (worker_call coordinate ≡ gives worker) × (index_call coordinate ≡ gives index)
  parts_of =
      rw (lt-ltb coordinate (2 ^ 40) made_short, sym made.2)
      (ap gives (low index 8 made.0), ap gives (high index 8 made.0))

-- and is what its parts pack to.
pub of_parts : {worker index coordinate : ℕ}
    → worker_call coordinate ≡ gives worker → index_call coordinate ≡ gives index
    → discovered_call worker index ≡ gives coordinate
of_parts {worker} {index} {coordinate} h k =
    let r = answered (ltb coordinate (2 ^ 40)) h in
    let s = answered (ltb coordinate (2 ^ 40)) k in
    let c : coordinate < 2 ^ 40 = ltb-true coordinate (2 ^ 40) r.0 in
    let w : coordinate % 2 ^ 8 < 2 ^ 8 = omega arith in
    let i : coordinate / 2 ^ 8 < 2 ^ 32 = shr_lt {n = coordinate} 32 8 c in
    rw (sym r.1, sym s.1, lt-ltb (coordinate % 2 ^ 8) (2 ^ 8) w, lt-ltb (coordinate / 2 ^ 8) (2 ^ 32) i)
    (ap gives (split coordinate 8))

-- The same of both parts at once.
pub both_of : (worker index : ℕ) {coordinate : ℕ} → discovered_call worker index ≡ gives coordinate
    → parts_call coordinate ≡ gives (worker, index)
both_of worker index {coordinate} h =
    let p = parts_of worker index h in
    parts_both coordinate p.0 p.1

pub of_both : {worker index coordinate : ℕ} → parts_call coordinate ≡ gives (worker, index)
    → discovered_call worker index ≡ gives coordinate
of_both {coordinate = coordinate} h = let p = parts_each coordinate h in of_parts p.0 p.1

-- The 40 bits of a coordinate make it again, and it has those that it was made from.
pub u40_back : {value coordinate : ℕ} → u40_call value ≡ gives coordinate → u40_call coordinate ≡ gives value
u40_back {value} h = let r = answered (ltb value (2 ^ 40)) h in rw (sym r.1, r.0)

-- A run has the offset and the coordinate that it was packed from,
pub run_parts : {offset coordinate run : ℕ} → run_call offset coordinate ≡ gives run
    → (offset_in run ≡ offset) × (coordinate_in run ≡ coordinate)
run_parts {offset} {coordinate} h =
    let r = answered (ltb offset (2 ^ 24) && ltb coordinate (2 ^ 40)) h in
    let o = ltb-true offset (2 ^ 24) (both (ltb offset (2 ^ 24)) (ltb coordinate (2 ^ 40)) r.0).0 in
    rw (sym r.1) (low coordinate 24 o, high coordinate 24 o)

-- and every word is the run that its offset and its coordinate pack to.
pub run_of_parts : (run : ℕ) → run < 2 ^ 64 → run_call (offset_in run) (coordinate_in run) ≡ gives run
run_of_parts run h =
    let o : run % 2 ^ 24 < 2 ^ 24 = omega arith in
    let c : run / 2 ^ 24 < 2 ^ 40 = shr_lt {n = run} 40 24 h in
    rw (lt-ltb (run % 2 ^ 24) (2 ^ 24) o, lt-ltb (run / 2 ^ 24) (2 ^ 40) c) (ap gives (split run 24))

-- A coordinate in process is refused its 40 bits and its parts, and is packed into no run.
module _ (coordinate : ℕ) (p : in_process coordinate ≡ true) where
  long : 2 ^ 40 ≤ coordinate
  long = let e : coordinate / 2 ^ 63 % 2 ≡ 1 = eqb-true (coordinate / 2 ^ 63 % 2) 1 p in omega arith

  pub in_process_none : (u40_call coordinate ≡ refuses 22 []) × (worker_call coordinate ≡ refuses 22 [])
      × (index_call coordinate ≡ refuses 22 [])
  in_process_none = rw (le-ltb coordinate (2 ^ 40) long) (refl, refl, refl)

  pub never_packed : (offset : ℕ) → run_call offset coordinate ≡ refuses 22 []
  never_packed offset =
      rw (le-ltb coordinate (2 ^ 40) long) (go (ltb offset (2 ^ 24)) (coordinate * 2 ^ 24 + offset))
    where
      go : (t : Bool) (x : ℕ) → in_range (t && false) (gives x) ≡ refuses 22 []
      go true x = refl
      go false x = refl

-- None is ever made: from parts, from 40 bits, or as the coordinate of a run.
short_free : (coordinate : ℕ) → coordinate < 2 ^ 40 → in_process coordinate ≡ false
short_free coordinate h = ne_eqb (coordinate / 2 ^ 63 % 2) 1 (λ e. absurd (omega (arith, e)))

pub made_free : (worker index : ℕ) {coordinate : ℕ} → discovered_call worker index ≡ gives coordinate
    → in_process coordinate ≡ false
made_free worker index {coordinate} h = short_free coordinate (made_short worker index h)

pub u40_free : (value : ℕ) {coordinate : ℕ} → u40_call value ≡ gives coordinate → in_process coordinate ≡ false
u40_free value {coordinate} h =
    let r = answered (ltb value (2 ^ 40)) h in
    short_free coordinate (rw r.1 at (ltb-true value (2 ^ 40) r.0))

pub run_free : (run : ℕ) → run < 2 ^ 64 → in_process (coordinate_in run) ≡ false
run_free run h = short_free (run / 2 ^ 24) (shr_lt {n = run} 40 24 h)
