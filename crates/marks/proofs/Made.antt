-- A fit table of which the first n marks are lent, and the marks that its words give: they are ready, and none is
-- visited. Assumes nothing.
use mathlib.Core.Path.{◌≡◌, ap, ◌∙◌}
use mathlib.Core.Bool.{true}
use mathlib.Core.List.{List, map}
use Prim.Native.Nat.{ℕ, ◌≤◌}
use native.Mathlib.Omega.{arith}
use lib.Dec.{leb}
use lib.ListN.{length, take, length-map}
use lib.Seq.{length-take-le}
use Rattle.lemmas.proofs.Tests.{both}
use Rattle.dna.specs.Text.{over}
use Rattle.kmer.specs.Kmer.{ok_k}
use Rattle.state.specs.Counted.{Kind}
use Rattle.graph.specs.Table.{keys_of, capacity, fit_from, fit}
use Rattle.graph.specs.Walks.{ends_of}
use Rattle.graph.proofs.Accepted.{fit_room}
use Rattle.marks.specs.Marks.{mark_of, ends}
use Rattle.marks.specs.Ready.{FitTable, Ready, Unvisited}
use Rattle.marks.proofs.Digesting.{first_whole}
use Rattle.marks.proofs.Digested.{marks_ends, marks_clean, known}

pub fit_first : (K n : ℕ) (keys counts marks : List ℕ) → ok_k K ≡ true → fit K n keys counts ≡ true → n ≤ length marks
    → FitTable K keys counts (take n marks)
fit_first K n keys counts marks ok f h =
    let l : length (take n marks) ≡ n = length-take-le n marks h in
    let m = fit_room K n keys counts f in
    record {
      ok = ok;
      room = omega arith;
      counted = omega arith;
      few = omega arith;
      fits = ap (λ (z : ℕ). fit_from K 0 (keys_of z keys)) l
          ∙ (both (leb n (capacity keys counts)) (fit_from K 0 (keys_of n keys)) f).1;
    }

module _ (κ : Kind) (K cutoff : ℕ) (keys counts ms₀ : List ℕ) (t : FitTable K keys counts ms₀) {ms : List ℕ}
    (digested : ms ≡ over (map (mark_of κ cutoff) (take (length ms₀) counts)) ms₀) where
  marks_are : ms ≡ map (mark_of κ cutoff) (take (length ms₀) counts)
  marks_are = digested ∙ first_whole (mark_of κ cutoff) counts ms₀ t.counted

  pub long : length ms ≡ length ms₀
  long = ap length marks_are ∙ length-map (take (length ms₀) counts) (mark_of κ cutoff)
      ∙ length-take-le (length ms₀) counts t.counted

  pub ends_are : ends ms ≡ map (ends_of κ cutoff) (take (length ms₀) counts)
  ends_are = ap ends marks_are ∙ marks_ends κ cutoff (take (length ms₀) counts)

  pub ready : Ready K keys ms
  ready = record {
    ok = t.ok;
    room = omega (arith, long, t.room);
    few = omega (arith, long, t.few);
    fits = ap (λ (n : ℕ). fit_from K 0 (keys_of n keys)) long ∙ t.fits;
    known = λ v s. rw ends_are (known κ cutoff (take (length ms₀) counts) v s);
  }

  pub clean : Unvisited ms
  clean = rw marks_are (marks_clean κ cutoff (take (length ms₀) counts))
