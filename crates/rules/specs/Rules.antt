-- The four rules for a list of labels over fit keys and their ends, in the customer's words. Assumes nothing.
use Rattle.std.specs.Prelude.{ℕ, ◌≤◌, ◌<◌, ◌≡◌, false, List, length, get_or}
use Rattle.dna.specs.Letters.{reverse_complement}
use Rattle.dna.specs.Order.{before}
use Rattle.state.specs.declared.Side.{Side}
use Rattle.state.specs.Counted.{opposite}
use Rattle.graph.specs.Walks.{Ends, isolated, seen}
use Rattle.laws.specs.Windows.{windows_of, occurrences}
use Rattle.laws.specs.Neighbours.{Next}
use Rattle.laws.specs.Demand.{Each, Ascending, Sole, OneBase, Maximal}

module _ (K : ℕ) (ks : List ℕ) (es : List Ends) where
  -- A k-mer that is stored and not isolated.
  pub record Live (x : ℕ) : Type 0 where
    pub vertex : ℕ
    pub stored_one : vertex < length ks
    pub not_isolated : isolated es vertex ≡ false
    pub is : get_or ks vertex 0 ≡ x

  -- Two windows, of which y follows x, are joined by an edge that is the only retained one on its side at both ends.
  pub record Step (x y : ℕ) : Type 0 where
    pub from : ℕ
    pub out : Side
    pub to : ℕ
    pub into : Side
    pub from_stored : from < length ks
    pub to_stored : to < length ks
    pub leaves : seen K ks from out ≡ x
    pub arrives : seen K ks to (opposite into) ≡ y
    pub sole : Sole K ks es from out to into

  -- Each window of a row is joined so with the next.
  abbrev pub Steps : List ℕ → Type 0
  Steps ws = (x y : ℕ) → Next x y ws → Step x y

  -- 1. "its labels strictly ascend, none above its reverse complement;
  pub record Rule1 (ls : List (List ℕ)) : Type 0 where
    pub ascend : Ascending ls
    pub none_above : Each (λ l. before (reverse_complement l) l ≡ false) ls

  -- 2. every non-isolated k-mer occurs exactly once and no other k-mer at all;
  pub record Rule2 (ls : List (List ℕ)) : Type 0 where
    pub exactly_once : (v : ℕ) → v < length ks → isolated es v ≡ false → occurrences K (get_or ks v 0) ls ≡ 1
    pub no_other : (x : ℕ) → 1 ≤ occurrences K x ls → Live x

  -- 3. neighbouring windows are joined by an edge that is the only retained one on its side at both ends;
  abbrev pub Rule3 : List (List ℕ) → Type 0
  Rule3 ls = Each (λ l. Steps (windows_of K l)) ls

  -- 4. and no two different stored k-mers, neither of one repeated base, are so joined except as neighbours or as the two ends of
  -- one label."
  abbrev pub Rule4 : List (List ℕ) → Type 0
  Rule4 = Maximal K ks es (OneBase K)

  pub record Passes (ls : List (List ℕ)) : Type 0 where
    pub rule1 : Rule1 ls
    pub rule2 : Rule2 ls
    pub rule3 : Rule3 ls
    pub rule4 : Rule4 ls
