-- What a verdict says of a list: the first broken rule, and the lowest label concerned. Assumes nothing.
use Rattle.std.specs.Prelude.{ℕ, suc, ◌+◌, ◌≤◌, ◌<◌, ◌≡◌, ◌⊎◌, true, false, List, [], ◌∷◌, map, length, get_or}
use Rattle.dna.specs.Letters.{reverse_complement}
use Rattle.dna.specs.Order.{before}
use Rattle.kmer.specs.Kmer.{canon}
use Rattle.state.specs.declared.Side.{Side}
use Rattle.graph.specs.Walks.{Ends, isolated}
use Rattle.laws.specs.Windows.{windows_of, occurs, occurrences}
use Rattle.laws.specs.Neighbours.{Next, Together}
use Rattle.laws.specs.Demand.{Some, Sole, OneBase}
use Rattle.rules.specs.Rules.{Live, Step, Rule1, Rule2, Rule3, Passes}
use Rattle.rules.specs.Verdict.{Verdict, yes, no}

-- A statement of a label, of those before it, the last one first, and of those behind it.
abbrev pub Concern : Type 1
Concern = List (List ℕ) → List ℕ → List (List ℕ) → Type 0

-- It holds of label i of a list, before which some labels stand, the last one first.
pub data At (P : Concern) : List (List ℕ) → List (List ℕ) → ℕ → Type 0 where
  here : {done rest : List (List ℕ)} {l : List ℕ} → P done l rest → At P done (l ∷ rest) 0
  there : {done ls : List (List ℕ)} {l : List ℕ} {i : ℕ} → At P (l ∷ done) ls i → At P done (l ∷ ls) (suc i)

-- Label i is the lowest of which it holds.
pub record Lowest (P : Concern) (ls : List (List ℕ)) (i : ℕ) : Type 0 where
  pub concerned : At P [] ls i
  pub none_lower : (j : ℕ) → j < i → At P [] ls j → ⊥

-- The later of two labels out of order.
pub data Later : List (List ℕ) → List ℕ → Type 0 where
  later : {m l : List ℕ} {done : List (List ℕ)} → before m l ≡ false → Later (m ∷ done) l

-- Rule 1: the later of two out of order, or one above its reverse complement.
abbrev pub OutOfOrder : Concern
OutOfOrder done l rest = Later done l ⊎ (before (reverse_complement l) l ≡ true)

module _ (K : ℕ) (ks : List ℕ) (es : List Ends) where
  -- Rule 2: the one where a k-mer stands a second time or may not stand.
  pub record Misplaced (done : List (List ℕ)) (l : List ℕ) (rest : List (List ℕ)) : Type 0 where
    pub kmer : ℕ
    pub stands : 1 ≤ occurs K kmer l
    pub why : (Live K ks es kmer → ⊥) ⊎ (2 ≤ occurs K kmer l + occurrences K kmer done)

  -- A k-mer that has to stand in the list is missing.
  pub record Missing (ls : List (List ℕ)) : Type 0 where
    pub vertex : ℕ
    pub stored_one : vertex < length ks
    pub not_isolated : isolated es vertex ≡ false
    pub nowhere : occurrences K (get_or ks vertex 0) ls ≡ 0

  -- Rule 3: the one with the bad step.
  pub record BadStep (done : List (List ℕ)) (l : List ℕ) (rest : List (List ℕ)) : Type 0 where
    pub from : ℕ
    pub to : ℕ
    pub follows : Next from to (windows_of K l)
    pub bad : Step K ks es from to → ⊥

  -- Two k-mers that rule 4 wants together, and that stand together in no label.
  pub record Apart (ls : List (List ℕ)) (u v : ℕ) : Type 0 where
    pub u_stored : u < length ks
    pub v_stored : v < length ks
    pub u_side : Side
    pub v_side : Side
    pub sole : Sole K ks es u u_side v v_side
    pub differ : u ≡ v → ⊥
    pub u_bases : OneBase K (get_or ks u 0) → ⊥
    pub v_bases : OneBase K (get_or ks v 0) → ⊥
    pub nowhere : Some (λ l. Together (get_or ks u 0) (get_or ks v 0) (map (canon K) (windows_of K l))) ls → ⊥

  -- Rule 4: the lower of a pair not joined: the other stands in the same label or behind it.
  pub record Unjoined (ls done : List (List ℕ)) (l : List ℕ) (rest : List (List ℕ)) : Type 0 where
    pub u : ℕ
    pub v : ℕ
    pub apart : Apart ls u v
    pub here : 1 ≤ occurs K (get_or ks u 0) l
    pub not_before : 1 ≤ occurrences K (get_or ks v 0) (l ∷ rest)

  -- What a verdict says of a list.
  pub data Judged (ls : List (List ℕ)) : Verdict → Type 0 where
    passes : Passes K ks es ls → Judged ls yes
    breaks_1 : {i : ℕ} → Lowest OutOfOrder ls i → Judged ls (no 1 i)
    breaks_2 : {i : ℕ} → Rule1 K ks es ls → Lowest Misplaced ls i → Judged ls (no 2 i)
    only_missing : {i : ℕ} → Rule1 K ks es ls → ((j : ℕ) → At Misplaced [] ls j → ⊥) → Missing ls → i ≡ length ls → Judged ls (no 2 i)
    breaks_3 : {i : ℕ} → Rule1 K ks es ls → Rule2 K ks es ls → Lowest BadStep ls i → Judged ls (no 3 i)
    breaks_4 : {i : ℕ} → Rule1 K ks es ls → Rule2 K ks es ls → Rule3 K ks es ls → Lowest (Unjoined ls) ls i → Judged ls (no 4 i)
