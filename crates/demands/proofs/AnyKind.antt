-- Runs of the calls over tables of two kinds that are given the same labels: they are answered the same, and contraction answers and leaves the
-- same at a cutoff up to both tops for which both kinds answer. Assumes nothing.
use mathlib.Core.Path.{◌≡◌, refl, sym, ap, ap₂, ◌∙◌}
use mathlib.Core.Bool.{true}
use mathlib.Core.List.{List, [], ◌∷◌, map}
use Prim.Native.Nat.{ℕ, ◌≤◌}
use native.Mathlib.Omega.{arith}
use lib.ListN.{length}
use Rattle.dna.specs.Answer.{Answer}
use Rattle.state.specs.Counted.{top, answers_for}
use Rattle.state.specs.declared.EdgeKind.{EdgeKind}
use Rattle.state.specs.declared.EdgeKind.TheVariants.{Counted, Presence}
use Rattle.state.specs.Says.{kind_of}
use Rattle.graph.specs.Adding.{Edges, Added, stored_after, add_label}
use Rattle.graph.specs.Several.{Several, untried, add_labels}
use Rattle.graph.specs.Contraction.{contract}
use Rattle.adding.specs.declared.Addition.{Addition}
use Rattle.adding.specs.declared.AddError.{AddError}
use Rattle.adding.specs.declared.Additions.{Additions}
use Rattle.adding.specs.declared.OutOfText.{OutOfText}
use Rattle.adding.specs.declared.Mode.{Mode}
use Rattle.adding.specs.Says.{add_answer, rule_of, AddsLabels}
use Rattle.adding.proofs.Says.{add_inj, labels_inj}
use Rattle.contraction.specs.declared.Unitigs.{Unitigs}
use Rattle.contraction.specs.declared.ContractError.{ContractError}
use Rattle.contraction.specs.Says.{Contracts}
use Rattle.contraction.proofs.Says.{contracts_one}
use Rattle.laws.specs.Beside.{after_each, answers_to}
use Rattle.laws.proofs.AnyKind.{lists_alike}
use Rattle.laws.proofs.Beside.{call, next_is, given_beside, answers_alike, given_alike, labels_beside}
use Rattle.demands.specs.Calls.{Called, Given, none, next}
use Rattle.demands.proofs.Meets.{called_grown}
use Rattle.std.specs.Prelude.{Result}

-- ---- contraction

module _ (kind kind' : EdgeKind) (cutoff : ℕ) where
  -- Up to both tops, and both kinds answer.
  pub record Answered : Type 0 where
    pub low : cutoff ≤ top (kind_of kind)
    pub low' : cutoff ≤ top (kind_of kind')
    pub answers : answers_for (kind_of kind) cutoff ≡ true
    pub answers' : answers_for (kind_of kind') cutoff ≡ true

-- Cutoff 1 of counts and presence bits.
pub presence_answered : Answered Counted Presence 1
presence_answered = record { low = omega arith; low' = omega arith; answers = refl; answers' = refl }

-- Two tables that calls have made by the same labels.
pub call_lists : {kind kind' : EdgeKind} {m : Mode} {K : ℕ} {ls : List (List ℕ)} {n n' : ℕ} {keys counts keys' counts' : List ℕ}
    → Called kind m K ls n keys counts → Called kind' m K ls n' keys' counts' → {cutoff : ℕ} → Answered kind kind' cutoff
    → (labels starts lengths marks : List ℕ)
    → (r s : Result Unitigs ContractError) {labels₁ starts₁ lengths₁ marks₁ labels₂ starts₂ lengths₂ marks₂ : List ℕ}
    → Contracts r labels₁ starts₁ lengths₁ marks₁ (contract (kind_of kind) K cutoff n keys counts labels starts lengths marks)
    → Contracts s labels₂ starts₂ lengths₂ marks₂ (contract (kind_of kind') K cutoff n' keys' counts' labels starts lengths marks)
    → (r ≡ s) × (labels₁ ≡ labels₂) × (starts₁ ≡ starts₂) × (lengths₁ ≡ lengths₂) × (marks₁ ≡ marks₂)
call_lists g h {cutoff} a labels starts lengths marks r s c d =
    let e = lists_alike (called_grown g) (called_grown h) cutoff a.low a.low' a.answers a.answers' labels starts lengths marks in
    contracts_one r s (rw e at c) d

-- ---- labels given one by one, refused ones too

answers_inj : (rs ss : List (Result Addition AddError)) → map add_answer rs ≡ map add_answer ss → rs ≡ ss
answers_inj [] [] e = refl
answers_inj [] (s ∷ ss) e = absurd (let z : ◌≡◌ {A = ℕ} 0 1 = cc in omega arith)
answers_inj (r ∷ rs) [] e = absurd (let z : ◌≡◌ {A = ℕ} 0 1 = cc in omega arith)
answers_inj (r ∷ rs) (s ∷ ss) e =
    let p : add_answer r ≡ add_answer s = cc in
    let q : map add_answer rs ≡ map add_answer ss = cc in
    ap₂ (λ (a : Result Addition AddError) (rest : List (Result Addition AddError)). a ∷ rest) (add_inj r s p) (answers_inj rs ss q)

-- Such a run is the definition's.
module _ (kind : EdgeKind) (m : Mode) (K : ℕ) (keys₀ counts₀ : List ℕ) where
  abbrev after : List (List ℕ) → Several
  after ls = after_each (kind_of kind) (rule_of m) K (untried 0 keys₀ counts₀) ls

  record Is (ls : List (List ℕ)) (rs : List (Result Addition AddError)) (n : ℕ) (keys counts : List ℕ) : Type 0 where
    answers : map add_answer rs ≡ answers_to (kind_of kind) (rule_of m) K (untried 0 keys₀ counts₀) ls
    stored : n ≡ (after ls).stored
    keys_are : keys ≡ (after ls).keys
    counts_are : counts ≡ (after ls).counts

  given_is : {ls : List (List ℕ)} {rs : List (Result Addition AddError)} {n : ℕ} {keys counts : List ℕ} → Given kind m K keys₀ counts₀ ls rs n keys counts
      → Is ls rs n keys counts
  unfolding after_each answers_to
  given_is none = record { answers = refl; stored = refl; keys_are = refl; counts_are = refl }
  given_is (next {ls = ls} {n = n} {keys = keys} {counts = counts} g l {r = r} a) =
      let i = given_is g in
      let w = next_is (kind_of kind) (rule_of m) K (after ls) l in
      let e : add_label (kind_of kind) (rule_of m) K n keys counts l ≡ call (kind_of kind) (rule_of m) K (after ls) l =
      rw (i.stored, i.keys_are, i.counts_are) in
      let answer : add_answer r ≡ (call (kind_of kind) (rule_of m) K (after ls) l).answer = a.answer ∙ ap (λ (t : Added). t.answer) e in
      record {
        answers = ap₂ (λ (x : Answer Edges) (xs : List (Answer Edges)). x ∷ xs) (answer ∙ sym w.0) i.answers;
        stored = ap₂ stored_after i.stored answer ∙ sym w.1;
        keys_are = a.keys_after ∙ ap (λ (t : Added). t.keys) e ∙ sym w.2;
        counts_are = a.counts_after ∙ ap (λ (t : Added). t.counts) e ∙ sym w.3;
      }

module _ {kind kind' : EdgeKind} {m : Mode} {K : ℕ} {keys₀ counts₀ counts₀' : List ℕ} (long : length counts₀' ≡ length counts₀)
    {ls : List (List ℕ)} {rs rs' : List (Result Addition AddError)} {n n' : ℕ} {keys counts keys' counts' : List ℕ}
    (g : Given kind m K keys₀ counts₀ ls rs n keys counts) (h : Given kind' m K keys₀ counts₀' ls rs' n' keys' counts') where
  i : Is kind m K keys₀ counts₀ ls rs n keys counts
  i = given_is kind m K keys₀ counts₀ g

  j : Is kind' m K keys₀ counts₀' ls rs' n' keys' counts'
  j = given_is kind' m K keys₀ counts₀' h

  -- Each label is answered the same, the number stored and the keys are the same.
  pub given_same : (rs' ≡ rs) × (n' ≡ n) × (keys' ≡ keys)
  given_same =
      let b = given_beside (kind_of kind) (kind_of kind') (rule_of m) K keys₀ counts₀ counts₀' long ls in (
        answers_inj rs' rs (j.answers ∙ answers_alike (kind_of kind) (kind_of kind') (rule_of m) K keys₀ counts₀ counts₀' long ls ∙ sym i.answers),
        j.stored ∙ b.stored ∙ sym i.stored,
        j.keys_are ∙ b.keys ∙ sym i.keys_are,
      )

  -- Contraction answers and leaves the same.
  pub given_lists : {cutoff : ℕ} → Answered kind kind' cutoff → (labels starts lengths marks : List ℕ)
      → (r s : Result Unitigs ContractError) {labels₁ starts₁ lengths₁ marks₁ labels₂ starts₂ lengths₂ marks₂ : List ℕ}
      → Contracts r labels₁ starts₁ lengths₁ marks₁ (contract (kind_of kind) K cutoff n keys counts labels starts lengths marks)
      → Contracts s labels₂ starts₂ lengths₂ marks₂ (contract (kind_of kind') K cutoff n' keys' counts' labels starts lengths marks)
      → (r ≡ s) × (labels₁ ≡ labels₂) × (starts₁ ≡ starts₂) × (lengths₁ ≡ lengths₂) × (marks₁ ≡ marks₂)
  given_lists {cutoff} a labels starts lengths marks r s c d =
      let e = given_alike (kind_of kind) (kind_of kind') (rule_of m) K keys₀ counts₀ counts₀' long ls cutoff a.low a.low' a.answers a.answers'
      labels starts lengths marks in
      contracts_one r s (rw e at (rw (i.stored, i.keys_are, i.counts_are) at c)) (rw (j.stored, j.keys_are, j.counts_are) at d)

-- ---- labels by one call

-- To two tables with the same keys that calls have made by the same labels.
pub labels_same : {kind kind' : EdgeKind} {m : Mode} {K : ℕ} {ls : List (List ℕ)} {n : ℕ} {keys counts counts' : List ℕ}
    → Called kind m K ls n keys counts → Called kind' m K ls n keys counts' → length counts' ≡ length counts
    → (text starts lengths : List ℕ) (count : ℕ) (r s : Result Additions OutOfText) {keys₁ counts₁ keys₂ counts₂ : List ℕ}
    → AddsLabels n r keys₁ counts₁ (add_labels (kind_of kind) (rule_of m) K n keys counts text starts lengths count)
    → AddsLabels n s keys₂ counts₂ (add_labels (kind_of kind') (rule_of m) K n keys counts' text starts lengths count)
    → (s ≡ r) × (keys₂ ≡ keys₁)
labels_same {kind} {kind'} {m} {K} {n = n} {keys = keys} {counts = counts} {counts' = counts'} g h long text starts lengths count r s a b =
    let t = labels_beside (kind_of kind) (kind_of kind') (rule_of m) K (called_grown g) (called_grown h) long text starts lengths count in (
      labels_inj n s r _ _ b.says a.says t.labels t.stored t.answer,
      b.keys_after ∙ t.keys ∙ sym a.keys_after,
    )
