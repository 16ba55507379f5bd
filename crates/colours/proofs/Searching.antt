-- The last run at or before a vertex stands just before the place that `partition_point` finds. Assumes nothing.
use mathlib.Core.Path.{◌≡◌}
use mathlib.Core.Bool.{Bool, true, false}
use mathlib.Core.List.{List}
use mathlib.Core.Logic.{⊎_elim}
use Prim.Native.Nat.{ℕ, ◌-◌, ◌≤◌, ◌<◌}
use native.Mathlib.Omega.{arith}
use borrow.Author.Tests.{leb-true, leb-false}
use lib.Dec.{leb}
use lib.ListN.{length}
use denote.Param.Members.{Mut}
use denote.Ref.{Bor}
use Rattle.std.specs.Fn.{Called, ComputesKey}
use Rattle.std.specs.List.Sorted.{IsPartitionedBy, IsPartitionPoint}
use Rattle.std.proofs.lemmas.List.Sorted.{IsPartitionedBy-leb, IsPartitionPoint-from_clause}
use Rattle.std.proofs.lemmas.List.Sorted.{IsNonDecreasingBy-from_default}
use Rattle.lemmas.proofs.Numbers.{lt_or_ge}
use Rattle.colours.specs.Packed.{offset_in}
use Rattle.colours.specs.Runs.{sound_runs, Last}
use Rattle.colours.proofs.Listing.{sound_says, ascend_on}

module _ (vertex : ℕ) where
  abbrev pub reaches : ℕ → Bool
  reaches run = leb (offset_in run) vertex

  module _ (kmers : ℕ) (runs : List ℕ) (sound : sound_runs kmers runs ≡ true) where
    parted : IsPartitionedBy reaches runs
    parted =
        IsPartitionedBy-leb offset_in runs vertex
        (IsNonDecreasingBy-from_default offset_in runs 0 (λ i j h l. ascend_on (sound_says kmers runs sound) i j h l))

    -- What the call says, whose closure tests whether a run reaches the vertex.
    pub last_before : {F : Type 0} {g : Mut F (Bor ℕ × Unit {0}) Bool} {f : F} {n : ℕ} → n ≤ length runs
        → ((p : ℕ → Bool) → ComputesKey g p f → IsPartitionedBy p runs
        → IsPartitionPoint (λ r. p r ≡ true) (λ r. p r ≡ false) runs n)
        → ((a : Bor ℕ × Unit {0}) (t : Bool) (f' : F) → Called g f a t f' → (t ≡ reaches a.0.now) × (f' ≡ f))
        → (0 < n) × Last vertex runs (n - 1)
    last_before {n = n} h point tested =
        let s = sound_says kmers runs sound in
        let p = IsPartitionPoint-from_clause reaches runs n point parted tested in
        let none : n ≤ 0 → 0 < n = λ l. absurd (omega (arith, s.first, leb-false _ _ (p.1 0 0 l s.some))) in
        let some : 0 < n = ⊎_elim (λ l. l) none (lt_or_ge 0 n) in (
          some,
          record {
            within = omega arith;
            reached = leb-true _ _ (p.0 (n - 1) 0 (omega arith) (omega arith));
            later = λ j l k. leb-false _ _ (p.1 j 0 (omega arith) k);
          },
        )
