-- What adding answers in document 01's numbers, and what its parts say. Assumes nothing.
use Rattle.std.specs.Prelude.{ℕ, suc, ◌+◌, ◌*◌, ◌/◌, ◌%◌, ◌^◌, ◌≤◌, ◌<◌, ◌≡◌, Bool, true, false, cond, eqb}
use Rattle.std.specs.Prelude.{List, [], ◌∷◌, length, get_or, set, Option, Some, None, Result, Ok, Err}
use Rattle.std.specs.Bool.{beq}
use Rattle.dna.specs.Answer.{Answer, gives, refuses}
use Rattle.kmer.specs.Kmer.{low, high, ok_k, canon, is_canon}
use Rattle.kmer.specs.Says.{value_of}
use Rattle.kmer.proofs.Windows.{Bases}
use Rattle.state.specs.Counted.{Kind}
use Rattle.graph.specs.Table.{keys_of, fit, fit_for, fit_from, rank}
use Rattle.graph.specs.Sightings.{Rule, same_canonical, reversed, window}
use Rattle.graph.specs.Adding.{Edges, Added}
use Rattle.graph.specs.Several.{Several}
use Rattle.table.specs.declared.FitError.{FitError}
use Rattle.table.specs.declared.FitError.TheVariants as fit
use Rattle.table.specs.declared.JoinError.{JoinError}
use Rattle.table.specs.declared.JoinError.TheVariants as join
use Rattle.sorting.specs.Rows.{key_at}
use Rattle.adding.specs.Batch.{code_at}
use Rattle.adding.specs.declared.Seen.{Seen}
use Rattle.adding.specs.declared.Mode.{Mode}
use Rattle.adding.specs.declared.Mode.TheVariants as mode
use Rattle.adding.specs.declared.Addition.{Addition}
use Rattle.adding.specs.declared.AddError.{AddError}
use Rattle.adding.specs.declared.AddError.TheVariants as add
use Rattle.adding.specs.declared.Additions.{Additions}
use Rattle.adding.specs.declared.OutOfText.{OutOfText}

-- The rule for equal neighbours that a mode names: document 01's, and document 02's.
abbrev pub rule_of : Mode → Rule
rule_of mode.SameCanonical = same_canonical
rule_of mode.Reversed = reversed

-- The edges and the number stored afterwards, or a refusal.
abbrev pub add_answer : Result Addition AddError → Answer Edges
add_answer (Ok a) = gives (record { edges = a.edges; stored = a.stored })
add_answer (Err (add.UnsupportedK K)) = refuses 1 (K ∷ [])
add_answer (Err (add.InvalidBase place byte)) = refuses 3 (place ∷ byte ∷ [])
add_answer (Err (add.TooLong n)) = refuses 4 (n ∷ [])
add_answer (Err add.Unfit) = refuses 5 []
add_answer (Err add.Full) = refuses 6 []

-- Why a table is refused, as a refusal of the label that is to be added to it.
abbrev pub of_fit : FitError → AddError
of_fit fit.Unfit = add.Unfit
of_fit (fit.UnsupportedK K) = add.UnsupportedK K

-- The same of new vertices that are not put in.
abbrev pub of_join : JoinError → AddError
of_join join.Full = add.Full
of_join join.Misplaced = add.Unfit

-- A call that adds: its answer, and the slices at exit.
pub record Adds (r : Result Addition AddError) (keys counts : List ℕ) (a : Added) : Type 0 where
  pub answer : add_answer r ≡ a.answer
  pub keys_after : keys ≡ a.keys
  pub counts_after : counts ≡ a.counts

-- Many labels: how many were added, the number stored and the last answer; or a refusal before the first, with n
-- stored.
abbrev pub labels_say : ℕ → Result Additions OutOfText → Several → Type 0
labels_say n (Ok a) s = (a.labels ≡ s.labels) × (a.stored ≡ s.stored) × (add_answer a.last ≡ s.answer)
labels_say n (Err e) s = (0 ≡ s.labels) × (n ≡ s.stored) × (refuses 12 [] ≡ s.answer)

-- A call that adds many to n vertices: what it says, and the slices at exit.
pub record AddsLabels (n : ℕ) (r : Result Additions OutOfText) (keys counts : List ℕ) (s : Several) : Type 0 where
  pub says : labels_say n r s
  pub keys_after : keys ≡ s.keys
  pub counts_after : counts ≡ s.counts

-- The place and the byte that are no base; nothing where all are.
abbrev pub place_in : Option (ℕ × ℕ) → List ℕ
place_in None = []
place_in (Some (place, byte)) = place ∷ byte ∷ []

-- A K in its range, and a label of at least K bases and at most 4,096.
pub record Given (K : ℕ) (label : List ℕ) : Type 0 where
  pub low : 1 ≤ K
  pub high : K ≤ 63
  pub long : K ≤ length label
  pub short : length label ≤ 4096
  pub bases : Bases label

-- A K in its range, and slices that hold a fit table of n vertices.
abbrev pub Ready : Kind → ℕ → ℕ → List ℕ → List ℕ → Type 0
Ready κ K n keys counts = (ok_k K ≡ true) × (fit_for κ K n keys counts ≡ true)

-- Such a label, and slices that hold a fit table of n vertices to which it is to be added.
pub record Addable (K : ℕ) (label : List ℕ) (n : ℕ) (keys counts : List ℕ) : Type 0 where
  pub given : Given K label
  pub fits : fit K n keys counts ≡ true

-- A label, and the slice with a fit table's keys, among which its k-mers are sought.
pub record Sought (K : ℕ) (label : List ℕ) (n : ℕ) (keys : List ℕ) : Type 0 where
  pub given : Given K label
  pub fits : fit_from K 0 (keys_of n keys) ≡ true
  pub within : n ≤ length keys / 2
  pub few : n ≤ 65536

-- Window i of a label.
pub record Sees (K : ℕ) (label : List ℕ) (i : ℕ) (r : Seen) : Type 0 where
  pub kmer : value_of r.kmer ≡ canon K (window K label i)
  pub straight : r.straight ≡ is_canon K (window K label i)

-- A window's predecessor is left uncounted, by what is seen of the window before and of it: both have one k-mer, and
-- by document 02's rule they show it on different strands.
abbrev pub skipped : Mode → Seen → Seen → Bool
skipped mode.SameCanonical x y = eqb (value_of x.kmer) (value_of y.kmer)
skipped mode.Reversed x y = cond (beq x.straight y.straight) false (eqb (value_of x.kmer) (value_of y.kmer))

-- The window before window i; there is none before the first.
abbrev pub SeesBefore : ℕ → List ℕ → ℕ → Option Seen → Type 0
SeesBefore K label i None = i ≡ 0
SeesBefore K label i (Some x) = (j : ℕ) × ((i ≡ suc j) × Sees K label j x)

-- The window before window i, and window i.
pub record Follows (K : ℕ) (label : List ℕ) (i : ℕ) (x : Option Seen) (y : Seen) : Type 0 where
  pub previous : SeesBefore K label i x
  pub here : Sees K label i y

-- A note's two neighbours, each a base or E.
pub record Coded (note : ℕ) : Type 0 where
  pub front : note % 8 ≤ 5
  pub front_known : note % 8 ≡ 4 → ⊥
  pub back : note / 8 % 8 ≤ 5
  pub back_known : note / 8 % 8 ≡ 4 → ⊥

-- The two words of a k-mer put among those of others.
abbrev pub put_key : List ℕ → ℕ → ℕ → List ℕ
put_key keys at x = set (set keys (2 * at) (low x)) (2 * at + 1) (high x)

-- q new k-mers, where there is room for so many windows: their offsets lead to notes.
pub record Rowed (room q : ℕ) (notes offsets : List ℕ) : Type 0 where
  pub few : q ≤ room
  pub there : (i : ℕ) → i < q → get_or offsets i 0 < room
  pub coded : (i : ℕ) → i < q → Coded (get_or notes (get_or offsets i 0) 0)

-- The rows are of windows of a label and in the order of their k-mers, each with its window's note and the place of
-- its k-mer.
pub record Listed (rule : Rule) (K : ℕ) (label ks : List ℕ) (q : ℕ) (notes places offsets new-keys : List ℕ) :
    Type 0 where
  pub ascends : (i j : ℕ) → i ≤ j → j < q → key_at new-keys i ≤ key_at new-keys j
  pub below : (i : ℕ) → i < q → key_at new-keys i < 4 ^ K
  pub canonical : (i : ℕ) → i < q → is_canon K (key_at new-keys i) ≡ true
  pub noted : (i : ℕ) → i < q → get_or notes (get_or offsets i 0) 0 ≡ code_at rule K label (get_or offsets i 0) + 64
  pub placed : (i : ℕ) → i < q → get_or places (get_or offsets i 0) 0 ≡ rank ks (key_at new-keys i)

-- m notes and places: a note below 64 has two neighbours and the place of a counter.
pub record Known (m : ℕ) (notes places counts : List ℕ) : Type 0 where
  pub coded : (i : ℕ) → i < m → get_or notes i 0 < 64 → Coded (get_or notes i 0)
  pub counter_there : (i : ℕ) → i < m → get_or notes i 0 < 64 → get_or places i 0 < length counts
