-- Letters that passed the test are packed by their bits. Assumes nothing.
use mathlib.Core.Path.{◌≡◌, refl}
use mathlib.Core.List.{List, [], ◌∷◌}
use Prim.Native.Nat.{ℕ}
use native.Mathlib.Omega.{arith}
use lib.ListN.{take}
use Rattle.dna.specs.Answer.{gives}
use Rattle.dna.specs.Letters.{first_bad}
use Rattle.kmer.specs.Kmer.{packed}
use Rattle.kmer.specs.Calls.{pack_bases, with_letters, pack_call}
use Rattle.kmer.proofs.Testing.{no_bad_bases}
use Rattle.kmer.proofs.Packing.{valid_packed_lem}
use Rattle.kmer.proofs.Kmer.from_ascii.Goals as goal

none_bad : (s bad : List ℕ) → gives (packed s) ≡ pack_bases s bad → bad ≡ []
unfolding pack_bases
none_bad s [] e = refl
none_bad s (place ∷ byte) e = cc

pub returns : goal.returns
unfolding pack_call with_letters
returns c =
    let s = take c.in_ok-k.k.bases c.args.seq.now in
    let bases = no_bad_bases 0 s (none_bad s (first_bad 0 s) c.in_ok-letters_verdict.ensures) in
    rw (c.pack-p.ensures.kmer, valid_packed_lem s bases) (grind arith)
