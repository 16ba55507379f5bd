-- What rules 2 and 3 find of k-mers and labels, and what they leave in the marks. Assumes nothing.
use Rattle.std.specs.Prelude.{ℕ, ◌+◌, ◌-◌, ◌≤◌, ◌<◌, ◌≡◌, Bool, true, false, cond, not, ◌&&◌, ◌||◌, Option, Some, None}
use Rattle.std.specs.Prelude.{Result, Ok, Err, IfOk, OnOk, List, [], ◌∷◌, map, ltb, eqb, length, get_or, set, drop}
use Rattle.dna.specs.Letters.{code_of}
use Rattle.kmer.specs.Kmer.{canon}
use Rattle.state.specs.declared.Side.{Side}
use Rattle.state.specs.Counted.{opposite}
use Rattle.graph.specs.Table.{rank, stored}
use Rattle.graph.specs.Walks.{Ends, edge, visited, isolated, leaving}
use Rattle.graph.specs.Sightings.{window, windows}
use Rattle.laws.specs.Windows.{windows_from, windows_of, tally, occurrences}
use Rattle.laws.specs.Demand.{retained}
use Rattle.marks.specs.Marks.{ends, visits}
use Rattle.marks.specs.Ready.{keys_for, Ready}
use Rattle.rules.specs.Listing.{listing}
use Rattle.rules.specs.Verdict.{first_of, is_live, exit, bad_step, breaks2, breaks3}
use Rattle.judging.specs.declared.Tested.{Tested}
use Rattle.judging.specs.declared.Tested.TheVariants as tested
use Rattle.judging.specs.declared.AllPlaced.{AllPlaced}
use Rattle.judging.specs.Says.{row_from}
use Rattle.judging.specs.Passing.{labels_in, Finds, Passing}

-- ---- the edges of a window

-- A base's code is that of the letter behind window o, if there is one;
abbrev pub followed : ℕ → List ℕ → ℕ → ℕ → Bool
followed K label o b = cond (ltb (o + K) (length label)) (eqb b (code_of (get_or label (o + K) 0))) true

-- the complement of that of the letter before it, if there is one.
abbrev pub preceded : List ℕ → ℕ → ℕ → Bool
preceded label o b = cond (eqb o 0) true (eqb b (3 - code_of (get_or label (o - 1) 0)))

-- The edges on the sides of window o, which is left by side s, are those of its neighbours in the label.
abbrev pub joined_by : ℕ → List ℕ → ℕ → Side → (Side → ℕ) → Bool
joined_by K label o s edges =
    followed K label o (leaving s (edges s))
    && preceded label o (leaving (opposite s) (edges (opposite s)))

-- ---- what is found

abbrev pub is_misplaced : Tested → Bool
is_misplaced tested.Misplaced = true
is_misplaced tested.BadStep = false
is_misplaced tested.Fine = false

abbrev pub is_bad : Tested → Bool
is_bad tested.Misplaced = false
is_bad tested.BadStep = true
is_bad tested.Fine = false

-- The canonical k-mer c may not stand or has stood before; else its vertex is visited afterwards.
pub record Marked (K : ℕ) (keys ms : List ℕ) (c : ℕ) (r : Bool) (after : List ℕ) : Type 0 where
  pub told : r ≡ (not (is_live K (keys_for ms keys) (ends ms) c) || visited (visits ms) (rank (keys_for ms keys) c))
  pub ends_kept : ends after ≡ ends ms
  pub marked : r ≡ false → visits after ≡ set (visits ms) (rank (keys_for ms keys) c) 1

-- A k-mer is tested: where it stands, and its edges.
pub record TestsKmer (K : ℕ) (keys ms label : List ℕ) (o c : ℕ) (s : Side) (r : Tested) (after : List ℕ) : Type 0 where
  pub placed : Marked K keys ms c (is_misplaced r) after
  pub joined : is_misplaced r ≡ false
      → is_bad r ≡ not (joined_by K label o s (edge (ends ms) (rank (keys_for ms keys) c)))

-- The edge by which window o is left, and that by which it is entered.
abbrev pub left : ℕ → List ℕ → List Ends → List ℕ → ℕ → Bool
left K ks es label o =
    let x = window K label o in
    followed K label o (leaving (exit K ks es x) (retained K ks es x (exit K ks es x)))

abbrev pub entered : ℕ → List ℕ → List Ends → List ℕ → ℕ → Bool
entered K ks es label o =
    let x = window K label o in
    preceded label o (leaving (opposite (exit K ks es x)) (retained K ks es x (opposite (exit K ks es x))))

-- Both.
abbrev pub joined_at : ℕ → List ℕ → List Ends → List ℕ → ℕ → Bool
joined_at K ks es label o = left K ks es label o && entered K ks es label o

pub record TestsWindow (K : ℕ) (keys ms label : List ℕ) (o : ℕ) (r : Tested) (after : List ℕ) : Type 0 where
  pub placed : Marked K keys ms (canon K (window K label o)) (is_misplaced r) after
  pub joined : is_misplaced r ≡ false → is_bad r ≡ not (joined_at K (keys_for ms keys) (ends ms) label o)

-- A key's vertex is visited exactly where a count of the key is not 0.
abbrev pub Stood : List ℕ → List ℕ → (ℕ → ℕ) → Type 0
Stood ks ms count = (x : ℕ) → stored ks x ≡ true → visited (visits ms) (rank ks x) ≡ ltb 0 (count x)

-- How often a k-mer stands in labels.
abbrev pub stands_in : ℕ → List (List ℕ) → ℕ → ℕ
stands_in K ls x = occurrences K x ls

-- A label is tested, whatever labels stood before; where it keeps rule 2 its k-mers have stood too afterwards, and its
-- steps are told.
pub record Stands (K : ℕ) (keys ms label : List ℕ) (r : Tested) (after : List ℕ) : Type 0 where
  pub ends_kept : ends after ≡ ends ms
  pub told : (done : List (List ℕ)) → Stood (keys_for ms keys) ms (stands_in K done)
      → is_misplaced r ≡ breaks2 K (keys_for ms keys) (ends ms) done label
  pub stood : (done : List (List ℕ)) → Stood (keys_for ms keys) ms (stands_in K done) → is_misplaced r ≡ false
      → Stood (keys_for ms keys) after (stands_in K (label ∷ done))
  pub stepped : is_misplaced r ≡ false → (done : List (List ℕ))
      → is_bad r ≡ breaks3 K (keys_for ms keys) (ends ms) done label

-- The first label with a misplaced k-mer, if there is one.
abbrev pub first_in : Result AllPlaced ℕ → Option ℕ
first_in (Ok p) = None
first_in (Err i) = Some i

-- The pass over all labels; where none has a misplaced k-mer all k-mers have stood afterwards, and the first bad step
-- is told.
pub record Placed (K : ℕ) (keys ms text : List ℕ) (r : Result AllPlaced ℕ) (after : List ℕ) : Type 0 where
  pub ends_kept : ends after ≡ ends ms
  pub found : Finds (breaks2 K (keys_for ms keys) (ends ms)) (labels_in (listing K text)) (first_in r)
  pub stood : OnOk r (Stood (keys_for ms keys) after (stands_in K (labels_in (listing K text))))
  pub counted : IfOk r (λ p. length (labels_in (listing K text)) ≡ p.labels)
  pub stepped : IfOk r (λ p. Finds (breaks3 K (keys_for ms keys) (ends ms)) (labels_in (listing K text)) p.bad)

-- A vertex is visited or isolated.
abbrev pub skipped : List ℕ → ℕ → Bool
skipped ms v = visited (visits ms) v || isolated (ends ms) v

-- Whether one is neither.
pub record Lacking (ms : List ℕ) (r : Bool) : Type 0 where
  pub one : r ≡ true → (v : ℕ) × (v < length ms) × (skipped ms v ≡ false)
  pub none : r ≡ false → (v : ℕ) → v < length ms → skipped ms v ≡ true

-- ---- inside the loops

-- The first o k-mers of a label.
abbrev pub row_to : ℕ → List ℕ → ℕ → List ℕ
row_to K label o = map (canon K) (windows_from K o label)

-- They have stood beside the labels done, may stand, and stand for the first time.
pub record Sofar (K : ℕ) (ks : List ℕ) (es : List Ends) (ms label : List ℕ) (o : ℕ)
    (done : List (List ℕ)) : Type 0 where
  pub stood : Stood ks ms (λ x. tally x (row_to K label o) + occurrences K x done)
  pub fine : (x : ℕ) → 1 ≤ tally x (row_to K label o) → (is_live K ks es x ≡ true)
      × (tally x (row_to K label o) + occurrences K x done ≤ 1)

-- A label is tested up to its k-mer o.
pub record Testing (K : ℕ) (keys ms₀ label ms : List ℕ) (o : ℕ) : Type 0 where
  pub ready : Ready K keys ms
  pub kept : ends ms ≡ ends ms₀
  pub inside : o ≤ windows K label
  pub sofar : (done : List (List ℕ)) → Stood (keys_for ms₀ keys) ms₀ (stands_in K done)
      → Sofar K (keys_for ms₀ keys) (ends ms₀) ms label o done

-- What is told of the steps up to window o, and what is left: the step to it, and those behind it.
pub record Joining (K : ℕ) (ks : List ℕ) (es : List Ends) (label : List ℕ) (o : ℕ) (bad : Bool) : Type 0 where
  pub going : o + K ≤ length label
      → bad_step K ks es (windows_of K label)
      ≡ (bad || (not (entered K ks es label o) || bad_step K ks es (row_from K label o)))
  pub gone : length label < o + K → bad_step K ks es (windows_of K label) ≡ bad

-- Of the labels before label i a first one is found; or none is, and the rest decide.
abbrev pub Noted : Option ℕ → ℕ → ℕ → ℕ → Type 0
Noted (Some b) i first rest = (first ≡ b) × (b < i)
Noted None i first rest = first ≡ i + rest

-- Labels are tested up to a place of the text.
pub record Placing (K : ℕ) (keys ms₀ text ms : List ℕ) (done : List (List ℕ)) (bad : Option ℕ) (i at : ℕ) : Type 0 where
  pub ready : Ready K keys ms
  pub kept : ends ms ≡ ends ms₀
  pub passing : Passing K text (breaks2 K (keys_for ms₀ keys) (ends ms₀)) done i at
  pub stood : Stood (keys_for ms₀ keys) ms (stands_in K done)
  pub split : (x : ℕ) → stands_in K (labels_in (listing K text)) x
      ≡ stands_in K done x + stands_in K (labels_in (listing K (drop at text))) x
  pub noted : Noted bad i (first_of (breaks3 K (keys_for ms₀ keys) (ends ms₀)) [] (labels_in (listing K text)))
      (first_of (breaks3 K (keys_for ms₀ keys) (ends ms₀)) done (labels_in (listing K (drop at text))))
