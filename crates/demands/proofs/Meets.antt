-- The customer's demand 3 as a fact about every run of the code: a table made by calls of `add_label` and `add_labels`, and a call of `contract`
-- over it that is not refused; and what else is known of such a call's answer and slices. Assumes nothing.
use mathlib.Core.Path.{◌≡◌, sym, ap, ap₂, ◌∙◌}
use mathlib.Core.Bool.{true}
use mathlib.Core.Logic.{◌⊎◌}
use mathlib.Core.List.{List, []}
use Prim.Native.Nat.{ℕ, ◌*◌, ◌%◌, ◌≤◌, ◌<◌}
use lib.ListN.{length, get_or, take}
use Rattle.dna.specs.Answer.{gives, refuses}
use Rattle.state.specs.declared.EdgeKind.{EdgeKind}
use Rattle.state.specs.Says.{kind_of}
use Rattle.label_index.specs.Entries.{listed}
use Rattle.graph.specs.Table.{table_of, keys_of}
use Rattle.graph.specs.Adding.{add_label}
use Rattle.graph.specs.Walks.{isolated}
use Rattle.graph.specs.Contraction.{Totals, Contracted, ends_in, contract}
use Rattle.graph.proofs.Keys.{keys_copied}
use Rattle.graph.proofs.Accepted.{refused_same}
use Rattle.adding.specs.declared.Addition.{Addition}
use Rattle.adding.specs.declared.AddError.{AddError}
use Rattle.adding.specs.declared.Mode.{Mode}
use Rattle.adding.specs.declared.Mode.TheVariants as mode
use Rattle.adding.specs.Says.{add_answer, rule_of, Adds}
use Rattle.contraction.specs.declared.Unitigs.{Unitigs}
use Rattle.contraction.specs.declared.ContractError.{ContractError}
use Rattle.contraction.specs.declared.ContractError.TheVariants as answers
use Rattle.contraction.specs.Says.{contract_answer, Contracts}
use Rattle.laws.specs.Grown.{Grown, Grown.fresh, Grown.accepts, Grown.moves}
use Rattle.laws.specs.Windows.{occurrences}
use Rattle.laws.specs.Demand.{Each, HoldsLive, Always, Demand3}
use Rattle.laws.proofs.Symmetry.{Lawful, lawful_canonical, lawful_reversed}
use Rattle.laws.proofs.Demand.{demand3}
use Rattle.laws.proofs.Listed.{contract_always, contract_occurrences}
use Rattle.laws.proofs.Returned.{contract_live, contract_marks, contract_few, contract_fits}
use Rattle.laws.proofs.Isolated.{grown_isolated}
use Rattle.laws.proofs.Found.{grown_contract}
use Rattle.laws.proofs.Again.{contract_again}
use Rattle.demands.specs.Calls.{
  excepted,
  Called,
  Called.fresh as start,
  Called.adds as next,
  Called.adds_many as several,
  Called.moves as elsewhere,
}
use Rattle.demands.proofs.Growing.{added_grown}
use Rattle.std.specs.Prelude.{Result, Ok, Err}

-- Each mode has a rule that demand 3 can do with.
pub lawful : (m : Mode) (K : ℕ) → Lawful (excepted m K) (rule_of m) K
lawful mode.SameCanonical = lawful_canonical
lawful mode.Reversed = lawful_reversed

-- What calls make is a grown table.
pub called_grown : {kind : EdgeKind} {m : Mode} {K : ℕ} {ls : List (List ℕ)} {n : ℕ} {keys counts : List ℕ} → Called kind m K ls n keys counts
    → Grown (kind_of kind) (rule_of m) K ls n keys counts
called_grown (start keys counts) = fresh keys counts
called_grown (next c l a {edges} {stored} e) =
    rw (a.keys_after, a.counts_after)
    (accepts (called_grown c) l (record { edges = edges; stored = stored }) (sym a.answer ∙ ap add_answer e))
called_grown (several c text starts lengths count a) = added_grown (called_grown c) text starts lengths count a
called_grown (elsewhere c keys' counts' e) = moves (called_grown c) keys' counts' e

-- A refused call leaves the table as it was.
pub called_refused : {kind : EdgeKind} {m : Mode} {K : ℕ} {ls : List (List ℕ)} {n : ℕ} {keys counts : List ℕ} → Called kind m K ls n keys counts
    → (l : List ℕ) {r : Result Addition AddError} {keys' counts' : List ℕ} → Adds r keys' counts' (add_label (kind_of kind) (rule_of m) K n keys counts l)
    → (x : ℕ) (vs : List ℕ) → add_answer r ≡ refuses x vs → Called kind m K ls n keys' counts'
called_refused {kind} {m} {K} {n = n} {keys = keys} {counts = counts} c l a x vs e =
    let s = refused_same (kind_of kind) (rule_of m) K n keys counts l x vs (sym a.answer ∙ e) in
    rw (a.keys_after, a.counts_after, s.keys_same, s.counts_same) c

-- A caller may copy the vertices: two words of keys and one of counts for each.
pub called_copied : {kind : EdgeKind} {m : Mode} {K : ℕ} {ls : List (List ℕ)} {n : ℕ} {keys counts : List ℕ} → Called kind m K ls n keys counts
    → (keys' counts' : List ℕ) → take (2 * n) keys' ≡ take (2 * n) keys → take n counts' ≡ take n counts → Called kind m K ls n keys' counts'
called_copied {n = n} {keys = keys} c keys' counts' p q =
    let ks : keys_of n keys' ≡ keys_of n keys = sym (keys_copied n keys') ∙ ap (keys_of n) p ∙ keys_copied n keys in
    elsewhere c keys' counts' (ap₂ (λ (k w : List ℕ). record { keys = k; counts = w }) ks q)

-- A call of `contract`, known by its contract.
module _ (kind : EdgeKind) (K cutoff n : ℕ) (keys counts labels starts lengths marks : List ℕ)
    {r : Result Unitigs ContractError} {labels' starts' lengths' marks' : List ℕ}
    (c : Contracts r labels' starts' lengths' marks' (contract (kind_of kind) K cutoff n keys counts labels starts lengths marks)) where
  abbrev result : Contracted
  result = contract (kind_of kind) K cutoff n keys counts labels starts lengths marks

  module _ {number bases : ℕ} (e : r ≡ Ok (record { labels = number; bases = bases })) where
    abbrev totals : Totals
    totals = record { labels = number; bases = bases }

    answered : result.answer ≡ gives totals
    answered = sym c.answer ∙ ap contract_answer e

    -- Over every fit table: all but the last sentence.
    pub call_always : Always K (keys_of n keys) (ends_in (kind_of kind) cutoff (table_of n keys counts)) (listed number labels' starts' lengths')
    call_always =
        rw (c.labels_after, c.starts_after, c.lengths_after)
        (contract_always (kind_of kind) K cutoff n keys counts labels starts lengths marks totals answered)

    -- Every label holds a k-mer that is not isolated;
    pub call_live : Each (HoldsLive K (keys_of n keys) (ends_in (kind_of kind) cutoff (table_of n keys counts))) (listed number labels' starts' lengths')
    call_live =
        rw (c.labels_after, c.starts_after, c.lengths_after)
        (contract_live (kind_of kind) K cutoff n keys counts labels starts lengths marks totals answered)

    -- a mark is 1 where its k-mer stands in a label, and else 0: it is how often the k-mer occurs;
    pub call_marks : (v : ℕ) → v < n → get_or marks' v 0 ≡ occurrences K (get_or (keys_of n keys) v 0) (listed number labels' starts' lengths')
    call_marks =
        rw (c.labels_after, c.starts_after, c.lengths_after, c.marks_after)
        (contract_marks (kind_of kind) K cutoff n keys counts labels starts lengths marks totals answered)

    -- there are at most n labels, with at most n times K bases.
    pub call_few : (number ≤ n) × (bases ≤ K * n)
    call_few = contract_few (kind_of kind) K cutoff n keys counts labels starts lengths marks totals answered

    -- Over a table that calls have made: all of it.
    pub call_meets : {m : Mode} {ls : List (List ℕ)} → Called kind m K ls n keys counts
        → Demand3 K (keys_of n keys) (ends_in (kind_of kind) cutoff (table_of n keys counts)) (excepted m K) (listed number labels' starts' lengths')
    call_meets {m} g =
        rw (c.labels_after, c.starts_after, c.lengths_after)
        (demand3 (lawful m K) (called_grown g) cutoff labels starts lengths marks totals answered)

    -- Over such a table an isolated k-mer stands in a label only for even K and cutoff 2 or more.
    pub call_isolated : {m : Mode} {ls : List (List ℕ)} → Called kind m K ls n keys counts → (K % 2 ≡ 1) ⊎ (cutoff ≤ 1)
        → (v : ℕ) → v < n → isolated (ends_in (kind_of kind) cutoff (table_of n keys counts)) v ≡ true
        → occurrences K (get_or (keys_of n keys) v 0) (listed number labels' starts' lengths') ≡ 0
    call_isolated {m} g h v l i =
        rw (c.labels_after, c.starts_after, c.lengths_after)
        (contract_occurrences (kind_of kind) K cutoff n keys counts labels starts lengths marks totals answered (get_or (keys_of n keys) v 0)
        ∙ grown_isolated (lawful m K) (called_grown g) cutoff h v l i)

  -- Over such a table no vertex is ever missing.
  pub call_finds : {m : Mode} {ls : List (List ℕ)} → Called kind m K ls n keys counts → r ≡ Err answers.MissingVertex → ⊥
  call_finds g e = grown_contract (called_grown g) cutoff labels starts lengths marks [] (sym c.answer ∙ ap contract_answer e)

  -- Room for n times K bases and n entries is always enough: it is never refused with 9.
  pub call_fits : K * n ≤ length labels → n ≤ length starts → n ≤ length lengths → r ≡ Err answers.NoRoom → ⊥
  call_fits b s l e =
      contract_fits (kind_of kind) K cutoff n keys counts labels starts lengths marks b s l [] (sym c.answer ∙ ap contract_answer e)

  -- A second call over what the first left answers the same and leaves the same.
  pub call_again : {s : Result Unitigs ContractError} {labels'' starts'' lengths'' marks'' : List ℕ}
      → Contracts s labels'' starts'' lengths'' marks'' (contract (kind_of kind) K cutoff n keys counts labels' starts' lengths' marks')
      → Contracts s labels'' starts'' lengths'' marks'' result
  call_again d =
      rw (contract_again (kind_of kind) K cutoff n keys counts labels starts lengths marks)
      at (rw (c.labels_after, c.starts_after, c.lengths_after, c.marks_after) at d)
