-- A window packed from its own part of the label. Assumes nothing.
use mathlib.Core.Path.{◌≡◌, sym, ap, ◌∙◌}
use mathlib.Core.Bool.{true}
use mathlib.Core.List.{List}
use Prim.Native.Nat.{ℕ, ◌+◌, ◌≤◌}
use native.Mathlib.Omega.{arith}
use lib.ListN.{length, take, drop, length-drop}
use lib.Seq.{length-take-le, take-length}
use Rattle.kmer.specs.Kmer.{ok_k}
use Rattle.kmer.specs.Calls.{pack_call}
use Rattle.kmer.specs.Says.{kmer_of, Answers}
use Rattle.kmer.specs.declared.Kmer.{Kmer}
use Rattle.kmer.specs.declared.KmerError.{KmerError}
use Rattle.std.proofs.Common.{Result, Ok}
use Rattle.kmer.proofs.Windows.{Bases, bases_take, bases_drop}
use Rattle.kmer.proofs.Given.{packs_given}
use Rattle.graph.specs.Sightings.{window}

pub window_packed : (K : ℕ) → ok_k K ≡ true → (label : List ℕ) → Bases label → (i : ℕ) → i + K ≤ length label
    → {x : Result Kmer KmerError} → Answers x (pack_call K (take K (drop i label))) → x ≡ Ok (kmer_of (window K label i))
window_packed K ok label bases i h p =
    let long : length (take K (drop i label)) ≡ K = length-take-le K (drop i label) (simp length-drop (omega arith)) in
    let whole : take K (take K (drop i label)) ≡ take K (drop i label) =
    ap (λ (n : ℕ). take n (take K (drop i label))) (sym long) ∙ take-length (take K (drop i label)) in
    let b : Bases (take K (take K (drop i label))) = rw whole (bases_take K (drop i label) (bases_drop i label bases)) in
    rw whole at (packs_given K (take K (drop i label)) ok (omega (arith, long)) b p)
