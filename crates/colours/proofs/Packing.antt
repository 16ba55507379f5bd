-- What was answered was in range; what a call for both parts answers, part by part; two parts in one word. Assumes
-- nothing.
use mathlib.Core.Path.{◌≡◌, refl, ap}
use mathlib.Core.Bool.{Bool, true, false}
use mathlib.Core.List.{[]}
use Prim.Native.Nat.{ℕ, ◌*◌, ◌%◌, ◌^◌, ◌≤◌, ◌<◌}
use native.Mathlib.Omega.{arith}
use borrow.Author.Tests.{lt-ltb}
use lib.Bits.{bit_or, or_shifted_r}
use lib.Dec.{ltb}
use lib.Pow.{shl_exact}
use Rattle.dna.specs.Answer.{gives, refuses}
use Rattle.colours.specs.Packed.{worker_in, index_in, in_range}
use Rattle.colours.specs.Packed.{discovered_call, worker_call, index_call, parts_call}

-- What was answered was in range, and what was refused was not.
pub answered : {A : Type 0} (t : Bool) {x y : A} → in_range t (gives x) ≡ gives y → (t ≡ true) × (x ≡ y)
answered true h = (refl, cc)
answered false {x} {y} h = let e : false ≡ true = cc in (e, cc)

refused : (t : Bool) (x : ℕ) → in_range t (gives x) ≡ refuses 22 [] → t ≡ false
refused true x h = cc
refused false x h = refl

module _ (coordinate : ℕ) where
  abbrev fits : Bool
  fits = ltb coordinate (2 ^ 40)

  -- Both parts are answered where each is, and neither where one is not.
  pub parts_both : {worker index : ℕ} → worker_call coordinate ≡ gives worker → index_call coordinate ≡ gives index
      → parts_call coordinate ≡ gives (worker, index)
  parts_both h k = let r = answered fits h in rw (r.0, r.1, (answered fits k).1)

  pub parts_each : {worker index : ℕ} → parts_call coordinate ≡ gives (worker, index)
      → (worker_call coordinate ≡ gives worker) × (index_call coordinate ≡ gives index)
  parts_each h =
      let r = answered fits h in
      rw r.0 (ap (λ (p : ℕ × ℕ). gives p.0) r.1, ap (λ (p : ℕ × ℕ). gives p.1) r.1)

  pub worker_none : worker_call coordinate ≡ refuses 22 [] → parts_call coordinate ≡ refuses 22 []
  worker_none h = rw (refused fits (worker_in coordinate) h)

  pub index_none : index_call coordinate ≡ refuses 22 [] → parts_call coordinate ≡ refuses 22 []
  index_none h = rw (refused fits (index_in coordinate) h)

module _ (worker index : ℕ) where
  pub discovers : worker ≤ 255 → index ≤ 4294967295
      → gives (bit_or worker ((index * 2 ^ 8) % 2 ^ 64)) ≡ discovered_call worker index
  discovers w i =
      let u : worker < 2 ^ 8 = omega arith in
      let v : index < 2 ^ 32 = omega arith in
      let s = shl_exact {a = index} 32 8 64 v (omega arith) in
      rw (lt-ltb worker (2 ^ 8) u, lt-ltb index (2 ^ 32) v, s, or_shifted_r index 8 worker u)
