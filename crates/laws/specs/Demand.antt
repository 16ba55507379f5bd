-- Demand 3, over the numbers of the keys and the bytes of the labels. Assumes nothing.
use Rattle.std.specs.Prelude.{ℕ, ◌%◌, ◌≤◌, ◌<◌, ◌≡◌, ◌⊎◌, true, false, cond, List, [], ◌∷◌, ◌++◌, map, reverse, length, get_or, replicate}
use Rattle.dna.specs.Letters.{reverse_complement}
use Rattle.dna.specs.Order.{before}
use Rattle.kmer.specs.Kmer.{rc, canon, forward, letters}
use Rattle.state.specs.declared.Side.{Side}
use Rattle.state.specs.declared.Side.TheVariants.{Front, Back}
use Rattle.state.specs.Counted.{opposite}
use Rattle.graph.specs.Table.{rank, stored}
use Rattle.graph.specs.Walks.{Ends, edge, isolated, leaving, entrance}
use Rattle.graph.specs.Labels.{Run}
use Rattle.graph.specs.Contraction.{Entry, entries, sorted}
use Rattle.laws.specs.Grown.{Joins}
use Rattle.laws.specs.Neighbours.{Together}
use Rattle.laws.specs.Windows.{windows_of, occurs, occurrences, Plain}

-- Each of a list.
pub data Each {A : Type 0} (P : A → Type 0) : List A → Type 0 where
  none : Each P []
  more : {x : A} {xs : List A} → P x → Each P xs → Each P (x ∷ xs)

-- One of a list.
pub data Some {A : Type 0} (P : A → Type 0) : List A → Type 0 where
  here : {x : A} {xs : List A} → P x → Some P (x ∷ xs)
  there : {x : A} {xs : List A} → Some P xs → Some P (x ∷ xs)

-- The labels in the order of the index.
abbrev pub in_order : Run → List (List ℕ)
in_order r = map (λ (e : Entry). e.label) (sorted (entries 0 r.labels))

-- Strictly, in byte order.
pub data Ascending : List (List ℕ) → Type 0 where
  asc_none : Ascending []
  asc_one : {l : List ℕ} → Ascending (l ∷ [])
  asc : {l m : List ℕ} {ls : List (List ℕ)} → before l m ≡ true → Ascending (m ∷ ls) → Ascending (l ∷ m ∷ ls)

-- One repeated base.
abbrev pub OneBase : ℕ → ℕ → Type 0
OneBase K x = (c : ℕ) × (letters K x ≡ replicate K c)

-- No k-mer at all.
abbrev pub Nothing : ℕ → ℕ → Type 0
Nothing K x = ⊥

module _ (K : ℕ) (ks : List ℕ) (es : List Ends) where
  -- What is retained on a side of a k-mer, seen on either strand: E, a base, or N; E where it is not stored.
  unfoldable pub retained : ℕ → Side → ℕ
  retained x s = cond (stored ks (canon K x)) (edge es (rank ks (canon K x)) s) 5

  -- Along k-mers as they are seen, the first left by side s: each step leaves by the only edge retained on that side and enters
  -- a stored k-mer by a side with at most one; one seen canonical is entered by Front and left by Back, any other the reverse.
  pub data Outward : Side → List ℕ → Type 0 where
    stays : {s : Side} {x : ℕ} → Outward s (x ∷ [])
    steps : {s : Side} {x y : ℕ} {ys : List ℕ} → retained x s < 4 → y ≡ forward K x (leaving s (retained x s))
        → stored ks (canon K y) ≡ true → (retained y (entrance K y) ≡ 4 → ⊥)
        → Outward (opposite (entrance K y)) (y ∷ ys) → Outward s (x ∷ y ∷ ys)

  -- Outward from the label's smallest k-mer that is not isolated, in the reading where that stands canonical: to its right by
  -- Back, and to its left, on the other strand, by Front.
  pub record FromSmallest (l : List ℕ) : Type 0 where
    pub reading : List ℕ
    pub strand : (l ≡ reading) ⊎ (l ≡ reverse_complement reading)
    pub smallest : ℕ
    pub stored_one : smallest < length ks
    pub not_isolated : isolated es smallest ≡ false
    pub least : (v : ℕ) → v < length ks → isolated es v ≡ false → 1 ≤ occurs K (get_or ks v 0) l → get_or ks smallest 0 ≤ get_or ks v 0
    pub left : List ℕ
    pub right : List ℕ
    pub stands : windows_of K reading ≡ reverse (map (rc K) left) ++ (get_or ks smallest 0 ∷ right)
    pub rightward : Outward Back (get_or ks smallest 0 ∷ right)
    pub leftward : Outward Front (rc K (get_or ks smallest 0) ∷ left)

  -- The label holds a k-mer that is not isolated.
  pub record HoldsLive (l : List ℕ) : Type 0 where
    pub vertex : ℕ
    pub stored_one : vertex < length ks
    pub not_isolated : isolated es vertex ≡ false
    pub holds : 1 ≤ occurs K (get_or ks vertex 0) l

  -- One edge, the only one retained on its side at both ends, joins u, left by s, and v, left by t.
  pub record Sole (u : ℕ) (s : Side) (v : ℕ) (t : Side) : Type 0 where
    pub at_u : edge es u s < 4
    pub at_v : edge es v t < 4
    pub joins : Joins K ks u s (edge es u s) v t (edge es v t)

  -- The last sentence of demand 3, some k-mers excepted.
  abbrev pub Maximal : (ℕ → Type 0) → List (List ℕ) → Type 0
  Maximal Excepted ls = (u v : ℕ) (s t : Side) → u < length ks → v < length ks → Sole u s v t → (u ≡ v → ⊥)
      → (Excepted (get_or ks u 0) → ⊥) → (Excepted (get_or ks v 0) → ⊥)
      → Some (λ l. Together (get_or ks u 0) (get_or ks v 0) (map (canon K) (windows_of K l))) ls

  -- All of demand 3 but its last sentence, in the customer's words, of a list of labels.
  pub record Always (ls : List (List ℕ)) : Type 0 where
    -- "On either strand, every stored k-mer with a retained edge occurs in the labels exactly once,
    pub exactly_once : (v : ℕ) → v < length ks → isolated es v ≡ false → occurrences K (get_or ks v 0) ls ≡ 1
    -- and no k-mer twice;
    pub never_twice : (x : ℕ) → occurrences K x ls ≤ 1
    -- the labels strictly ascend,
    pub ascend : Ascending ls
    -- none above its reverse complement.
    pub none_above : Each (λ l. before (reverse_complement l) l ≡ false) ls
    -- Outward from a label's smallest non-isolated k-mer, each step leaves by the only edge retained on that side and enters by a
    -- side with at most one."
    pub outward : Each FromSmallest ls
    -- Not in the customer's words: every letter is A, C, G or T.
    pub letters : Each Plain ls

  -- Demand 3. By document 01's rule its last sentence excepts the k-mers of one repeated base (`OneBase K`), by document 02's none
  -- (`Nothing K`).
  pub record Demand3 (Excepted : ℕ → Type 0) (ls : List (List ℕ)) : Type 0 where
    pub every : Always ls
    -- "If K is odd, two different stored k-mers, neither of one repeated base, whose edge is the only one retained on its side at
    -- both ends, are neighbours in a label or the two ends of one."
    pub maximal : K % 2 ≡ 1 → Maximal Excepted ls

-- Opens this file's definitions to a proof that computes.
unfoldable pub open_demand : Unit {0}
unfolding retained
open_demand = tt
