-- The answer and the text of a call are what is printed. Assumes nothing.
use mathlib.Core.Path.{◌≡◌, sym, ap}
use mathlib.Core.List.{List, []}
use Prim.Native.Nat.{ℕ, ◌≤◌}
use native.Mathlib.Omega.{arith}
use lib.ListN.{length, take}
use Rattle.std.specs.Prelude.{Result, Ok, Err}
use Rattle.std.specs.Result.{result_unwrap_or}
use Rattle.dna.specs.Answer.{gives, refuses}
use Rattle.dna.specs.declared.NoRoom.{NoRoom}
use Rattle.label_file.specs.Output.{Buffers, Left, printing}
use Rattle.label_file.specs.Says.{Lists}
use Rattle.label_file.proofs.Within.{Within}

-- Nothing is printed where not even a line fits.
pub prints : (r : Result ℕ NoRoom) {b : Buffers} (l : Left) → Lists r b l → Within l
    → (take (result_unwrap_or r 0) b.text ≡ printing l) × (result_unwrap_or r 0 ≤ length b.text)
prints (Ok n) l h w =
    let a : l.answer ≡ gives n = sym h.answer in
    let t = ap (λ (x : Buffers). x.text) h.after in
    (rw (a, t), rw t (w n a))
prints (Err e) l h w =
    let a : l.answer ≡ refuses 11 [] = sym h.answer in
    (rw a, omega arith)
