-- Each step of the code is a step of the swap network, and then the bytes turn round; what comes out and the reverse
-- complement add up to 2 ^ 64 - 1. Assumes nothing.
use mathlib.Core.Path.{◌≡◌, refl, ap, ◌∙◌}
use Prim.Native.Nat.{ℕ, ◌^◌, ◌<◌}
use native.Mathlib.Omega.{arith}
use lib.Dec.{lit<}
use mir.Syntax.{w64}
use Rattle.std.specs.Int.{swap_bytes}
use Rattle.kmer.proofs.Turned.{turned, same, comp_same, rc_turned}
use Rattle.kmer.proofs.Fields.{lows}
use Rattle.kmer.proofs.Swaps.{swaps, step, step_is, flipped, bytes_flipped}
use Rattle.kmer.proofs.reverse.flip.Goals as goal

abbrev m₂ : ℕ
m₂ = 0x3333_3333_3333_3333

abbrev m₄ : ℕ
m₄ = 0x0f0f_0f0f_0f0f_0f0f

two-steps : (x : ℕ) → x < 2 ^ 64 → swap_bytes w64 (step m₄ 4 (step m₂ 2 x)) ≡ turned same 32 x
unfolding lows
two-steps x h =
    let e₁ = step_is m₂ 2 16 x refl (lit< tt) in
    let e₂ = step_is m₄ 4 8 (step m₂ 2 x) refl (lit< tt) ∙ ap (swaps 4 8) e₁ in
    ap (swap_bytes w64) (e₂ ∙ flipped x h) ∙ bytes_flipped x

pub returns : goal.returns
returns c =
    let x = c.args.word in
    rw (c.swap_bytes.ensures, two-steps x c.ranges.word.fits, rc_turned 32 x) (omega (arith, comp_same 32 x))
