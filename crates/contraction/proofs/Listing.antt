-- The labels of a run, written end to end with their index: put in order it is the definition's. Assumes nothing.
use mathlib.Core.Path.{◌≡◌, refl, sym, ◌∙◌}
use mathlib.Core.List.{List, []}
use Prim.Native.Nat.{ℕ, ◌+◌}
use native.Mathlib.Omega.{arith}
use lib.ListN.{length, drop}
use Rattle.kmer.proofs.Bounds.{ok_bounds}
use Rattle.graph.specs.Contraction.{Entry, entries, sorted, end_to_end}
use Rattle.laws.specs.Demand.{Each}
use Rattle.laws.proofs.Indexed.{entries_each}
use Rattle.laws.proofs.Apart.{Apart, Apart.alone, Apart.beside, each_map}
use Rattle.laws.proofs.Idle.{run_apart}
use Rattle.laws.proofs.Listed.{entries_right}
use Rattle.marks.specs.Marks.{ends, visits}
use Rattle.marks.specs.Ready.{keys_for, Ready}
use Rattle.marks.proofs.Still.{keys_marks}
use Rattle.contraction.specs.Over.{run_in}
use Rattle.contraction.specs.Says.{Lists, Writes, Ordered}
use Rattle.contraction.proofs.Appending.{length_entries}
use Rattle.contraction.proofs.Indexing.{Reads, index_is}

entries_apart : (at : ℕ) {ls : List (List ℕ)} → Apart (λ l. l) ls → Apart (λ (e : Entry). e.label) (entries at ls)
unfolding entries
entries_apart at alone = alone
entries_apart at (beside {x = l} f a) = beside (entries_each (λ m. l ≡ m → ⊥) (at + length l) f)
    (entries_apart (at + length l) a)

module _ (K : ℕ) (keys ms : List ℕ) (rd : Ready K keys ms) {count : ℕ} {b₀ b s₀ s l₀ l : List ℕ}
    (w : Writes K keys ms (length ms) count (length (end_to_end (run_in K keys ms (length ms)).labels)) b₀ b s₀ s l₀ l)
  where
    abbrev ls : List (List ℕ)
    ls = (run_in K keys ms (length ms)).labels

    abbrev es : List Entry
    es = entries 0 ls

    reads : Each (Reads b) es
    reads = each_map (λ e r. r.0) (entries_right 0 [] ls (drop (length (end_to_end ls)) b₀) b refl w.lists.letters)

    apart : Apart (λ (e : Entry). e.label) es
    apart =
        entries_apart 0
        (run_apart K (keys_for ms keys) (ends ms) (ok_bounds K rd.ok).0 rd.fits (λ v s _. rd.known v s) (length ms)
        (omega (arith, keys_marks rd)))

    pub all_listed : {s' l' marks : List ℕ} → Ordered b s l count s' l' → marks ≡ visits ms
        → (marks ≡ visits ms) × Lists (run_in K keys ms (length ms)) (sorted es) b₀ b s₀ s' l₀ l'
    all_listed q m =
        let number : count ≡ length es = w.number ∙ sym (length_entries 0 ls) in
        let i = index_is b reads apart s₀ l₀ (rw (w.lists.starts_after, w.lists.lengths_after, number) at q) in
        (m, record { letters = w.lists.letters; starts_after = i.0; lengths_after = i.1 })
