-- The reverse complement is not smaller. Assumes nothing.
use mathlib.Core.Path.{ap, ◌∙◌}
use mathlib.Core.Bool.{not}
use Prim.Native.Nat.{ℕ}
use native.Mathlib.Omega.{arith}
use lib.Dec.{ltb}
use Rattle.kmer.specs.Kmer.{rc}
use Rattle.kmer.specs.Says.{value_of}
use Rattle.kmer.proofs.Wide.{value_back}
use Rattle.kmer.proofs.Orders.{canon_test}
use Rattle.kmer.proofs.Kmer.is_canonical.Goals as goal

pub returns : goal.returns
returns c =
    let k = c.in_ok-k.k.bases in
    let x = value_of c.args.self in
    let t = c.is_less.ensures ∙ ap (λ (n : ℕ). ltb n x) (value_back (rc k x) c.reversed-turned.ensures) in
    rw (ap not t ∙ canon_test k x) (grind arith)
