-- A table made by calls of `add_label` and `add_labels`, between which its vertices may be copied to other slices. Assumes nothing.
use Rattle.std.specs.Prelude.{ℕ, ◌≡◌, List, [], ◌∷◌, take, Result, Ok, Err}
use Rattle.state.specs.declared.EdgeKind.{EdgeKind}
use Rattle.state.specs.Says.{kind_of}
use Rattle.label_index.specs.Entries.{listed}
use Rattle.graph.specs.Adding.{stored_after, add_label}
use Rattle.graph.specs.Table.{table_of}
use Rattle.graph.specs.Several.{add_labels}
use Rattle.adding.specs.declared.Addition.{Addition}
use Rattle.adding.specs.declared.AddError.{AddError}
use Rattle.adding.specs.declared.Additions.{Additions}
use Rattle.adding.specs.declared.OutOfText.{OutOfText}
use Rattle.adding.specs.declared.Mode.{Mode}
use Rattle.adding.specs.declared.Mode.TheVariants as mode
use Rattle.adding.specs.Says.{add_answer, rule_of, Adds, AddsLabels}
use Rattle.laws.specs.Demand.{OneBase, Nothing}

-- Labels put on others one by one, so that the last one comes first.
abbrev pub onto : List (List ℕ) → List (List ℕ) → List (List ℕ)
onto [] done = done
onto (l ∷ ls) done = onto ls (l ∷ done)

-- How many labels a call of `add_labels` added, and the number stored after it where n were before.
abbrev pub added_by : Result Additions OutOfText → ℕ
added_by (Ok a) = a.labels
added_by (Err e) = 0

abbrev pub stored_by : ℕ → Result Additions OutOfText → ℕ
stored_by n (Ok a) = a.stored
stored_by n (Err e) = n

-- The k-mers that the last sentence of demand 3 excepts: in the Rust's mode those of one repeated base, in document 02's none.
abbrev pub excepted : Mode → ℕ → ℕ → Type 0
excepted mode.SameCanonical = OneBase
excepted mode.Reversed = Nothing

-- Of one kind, in one mode, at one K and from none stored: the labels that were added, last one first, the number stored, and the two slices that hold the
-- vertices. A call is known by its contract. One of `add_labels` adds the first of its labels, up to one that is refused.
pub data Called (kind : EdgeKind) (m : Mode) (K : ℕ) : List (List ℕ) → ℕ → List ℕ → List ℕ → Type 0 where
  fresh : (keys counts : List ℕ) → Called kind m K [] 0 keys counts
  adds : {ls : List (List ℕ)} {n : ℕ} {keys counts : List ℕ} → Called kind m K ls n keys counts
      → (l : List ℕ) {r : Result Addition AddError} {keys' counts' : List ℕ} → Adds r keys' counts' (add_label (kind_of kind) (rule_of m) K n keys counts l)
      → {edges stored : ℕ} → r ≡ Ok (record { edges = edges; stored = stored }) → Called kind m K (l ∷ ls) stored keys' counts'
  adds_many : {ls : List (List ℕ)} {n : ℕ} {keys counts : List ℕ} → Called kind m K ls n keys counts
      → (text starts lengths : List ℕ) (count : ℕ) {r : Result Additions OutOfText} {keys' counts' : List ℕ}
      → AddsLabels n r keys' counts' (add_labels (kind_of kind) (rule_of m) K n keys counts text starts lengths count)
      → Called kind m K (onto (take (added_by r) (listed count text starts lengths)) ls) (stored_by n r) keys' counts'
  -- The same vertices in other slices, or other cells behind them: so a caller goes on who was refused with 6.
  moves : {ls : List (List ℕ)} {n : ℕ} {keys counts : List ℕ} → Called kind m K ls n keys counts
      → (keys' counts' : List ℕ) → table_of n keys' counts' ≡ table_of n keys counts → Called kind m K ls n keys' counts'

-- Labels given to `add_label` one after the other from none stored, refused ones too: each with its answer, last one first, the number stored,
-- and the two slices as the last call left them.
pub data Given (kind : EdgeKind) (m : Mode) (K : ℕ) (keys₀ counts₀ : List ℕ) : List (List ℕ) → List (Result Addition AddError) → ℕ → List ℕ → List ℕ → Type 0 where
  none : Given kind m K keys₀ counts₀ [] [] 0 keys₀ counts₀
  next : {ls : List (List ℕ)} {rs : List (Result Addition AddError)} {n : ℕ} {keys counts : List ℕ} → Given kind m K keys₀ counts₀ ls rs n keys counts
      → (l : List ℕ) {r : Result Addition AddError} {keys' counts' : List ℕ} → Adds r keys' counts' (add_label (kind_of kind) (rule_of m) K n keys counts l)
      → Given kind m K keys₀ counts₀ (l ∷ ls) (r ∷ rs) (stored_after n (add_answer r)) keys' counts'
