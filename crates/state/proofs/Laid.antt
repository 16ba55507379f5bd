-- A layout's counters within a word of 32 bits. Assumes nothing.
use mathlib.Core.Path.{◌≡◌}
use Prim.Native.Nat.{ℕ, suc, ◌+◌, ◌-◌, ◌*◌, ◌/◌, ◌%◌, ◌^◌, ◌<◌, ◌≤◌}
use native.Mathlib.Nat.{mul-suc, mul-le-mul_left}
use native.Mathlib.Omega.{arith}
use lib.Bits.{bit_and, bit_or}
use Rattle.state.specs.Counted.{count, raise}
use Rattle.state.specs.Parts.{kind_in}
use Rattle.state.specs.declared.Layout.{Layout}
use Rattle.state.proofs.Words.{read_bits, raise_bits, raise_stays}

module _ (l : Layout) (j : ℕ) (b : j < 8) where
  -- The bits up to the end of counter j.
  pub within : l.width + (l.first + l.width * j) ≤ 32
  within =
      let m : l.width * suc j ≤ l.width * 8 = mul-le-mul_left l.width b in
      omega (arith, l.room, mul-suc l.width j)

  pub read_laid : (w : ℕ) → bit_and (w / 2 ^ (l.first + l.width * j)) l.top ≡ count (kind_in l) w j
  read_laid w = rw l.full (read_bits (kind_in l) w j)

  module _ (w : ℕ) (fits : w < 2 ^ 32) (off : ℕ) (at : off ≡ l.first + l.width * j) where
    -- What the code calls the counter.
    abbrev here : ℕ
    here = bit_and w ((l.top * 2 ^ off) % 2 ^ 32) / 2 ^ off

    pub more_laid : here < l.top
        → bit_or (bit_and w ((2 ^ 32 - 1) - (l.top * 2 ^ off) % 2 ^ 32)) (((here + 1) * 2 ^ off) % 2 ^ 32)
        ≡ raise (kind_in l) w j
    more_laid lt = rw (at, l.full) (raise_bits (kind_in l) 32 w j within fits (rw (at, l.full) at lt))

    pub full_laid : l.top ≤ here → w ≡ raise (kind_in l) w j
    full_laid le = raise_stays (kind_in l) 32 w j within fits (rw (at, l.full) at le)
