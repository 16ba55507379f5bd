-- The counters of a word of N bits, read and raised by shifts and masks. Assumes nothing.
use mathlib.Core.Path.{◌≡◌, sym}
use Prim.Native.Nat.{ℕ, ◌+◌, ◌-◌, ◌*◌, ◌/◌, ◌%◌, ◌^◌, ◌<◌, ◌≤◌}
use lib.Bits.{bit_and, bit_or, and_mask}
use Rattle.state.specs.Counted.{Kind, top, unit, count, raise}
use Rattle.state.proofs.Counters.{raise_more, raise_full}
use Rattle.state.proofs.Field.{masked, one_more_lem}

-- (w >> off) & top
pub read_bits : (κ : Kind) (w j : ℕ) → bit_and (w / unit κ j) (top κ) ≡ count κ w j
unfolding count
read_bits κ w j = and_mask (w / unit κ j) κ.width

module _ (κ : Kind) (N w j : ℕ) (room : κ.width + (κ.first + κ.width * j) ≤ N) (fits : w < 2 ^ N) where
  -- What the code calls the counter: (w & mask) >> off, with mask = top << off.
  abbrev pub cur : ℕ
  cur = bit_and w ((top κ * unit κ j) % 2 ^ N) / unit κ j

  cur_bits : cur ≡ count κ w j
  unfolding count
  cur_bits = masked N κ.width (κ.first + κ.width * j) w room fits

  -- (w & !mask) | ((cur + 1) << off) below the top
  pub raise_bits :
      cur < top κ →
      bit_or (bit_and w ((2 ^ N - 1) - (top κ * unit κ j) % 2 ^ N)) (((cur + 1) * unit κ j) % 2 ^ N) ≡ raise κ w j
  unfolding count
  raise_bits h =
      let l : count κ w j < top κ = rw cur_bits at h in
      rw (cur_bits, raise_more κ w j l) (one_more_lem N κ.width (κ.first + κ.width * j) w room fits l)

  -- The word itself at the top.
  pub raise_stays : top κ ≤ cur → w ≡ raise κ w j
  raise_stays h = sym (raise_full κ w j (rw cur_bits at h))
