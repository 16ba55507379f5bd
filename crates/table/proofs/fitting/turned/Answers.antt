-- Both sides make one list of the 256 bytes, which antt computes, and `everywhere` carries that to each. Assumes
-- nothing.
use mathlib.Core.Path.{refl}
use Prim.Native.Nat.{ℕ, ◌-◌, ◌*◌, ◌/◌, ◌%◌}
use borrow.Author.Rules.{rules}
use lib.Bits.{bit_and, bit_or}
use Rattle.lemmas.proofs.Tables.{everywhere}
use Rattle.kmer.specs.Kmer.{rc}
use Rattle.table.proofs.fitting.turned.Goals as goal

abbrev pairs : ℕ → ℕ
pairs b = bit_or (bit_and b 51 * 4 % 256) (bit_and (b / 4) 51)

pub returns : goal.returns
unfolding rc
returns c = everywhere (λ b. 255 - bit_or (pairs b * 16 % 256) (pairs b / 16)) (λ b. rc 4 b) 256 refl c.args.byte
    (search rules)
