-- Calls in the mode of document 02, for odd K: on which strand a label is read changes nothing that they leave, so that reads from either strand
-- give one table and one list. Assumes nothing.
use mathlib.Core.Path.{◌≡◌, refl, sym, ap, ◌∙◌}
use mathlib.Core.Bool.{true}
use mathlib.Core.List.{List}
use Prim.Native.Nat.{ℕ, ◌%◌}
use Rattle.dna.specs.Answer.{gives}
use Rattle.dna.proofs.Answers.{ungiven}
use Rattle.state.specs.declared.EdgeKind.{EdgeKind}
use Rattle.state.specs.Says.{kind_of}
use Rattle.label_index.specs.Entries.{listed, within}
use Rattle.graph.specs.Table.{table_of}
use Rattle.graph.specs.Sightings.{reversed}
use Rattle.graph.specs.Adding.{Edges, Added, stored_after, add_label}
use Rattle.graph.specs.Several.{Several, add_labels}
use Rattle.graph.specs.Contraction.{contract}
use Rattle.adding.specs.declared.Addition.{Addition}
use Rattle.adding.specs.declared.AddError.{AddError}
use Rattle.adding.specs.declared.Additions.{Additions}
use Rattle.adding.specs.declared.OutOfText.{OutOfText}
use Rattle.adding.specs.declared.Mode.TheVariants as mode
use Rattle.adding.specs.Says.{add_answer, labels_say, Adds, AddsLabels}
use Rattle.adding.proofs.Says.{adds_one, adds_labels_one}
use Rattle.contraction.specs.declared.Unitigs.{Unitigs}
use Rattle.contraction.specs.declared.ContractError.{ContractError}
use Rattle.contraction.specs.Says.{Contracts}
use Rattle.laws.specs.Strands.{EitherStrand, Turned, Alike, Alike.same, Alike.no_base, AllAlike, AllAlike.all_same, AllAlike.last_no_base}
use Rattle.laws.proofs.Keys.{grown_fit_for}
use Rattle.laws.proofs.Turned.{alike_given, either_alike, each_alike, grown_turned}
use Rattle.laws.proofs.Tables.{grown_same, contract_same}
use Rattle.demands.specs.Calls.{Called, added_by, stored_by}
use Rattle.demands.proofs.Meets.{called_grown}
use Rattle.std.specs.Prelude.{Result, Ok, Err}

-- What is the same where two results are alike.
left_alike : (n : ℕ) {a b : Added} → Alike a b → (a.keys ≡ b.keys) × (a.counts ≡ b.counts) × (stored_after n a.answer ≡ stored_after n b.answer)
left_alike n same = (refl, refl, refl)
left_alike n no_base = (refl, refl, refl)

all_left_alike : {s t : Several} → AllAlike s t → (s.keys ≡ t.keys) × (s.counts ≡ t.counts) × (s.labels ≡ t.labels) × (s.stored ≡ t.stored)
all_left_alike all_same = (refl, refl, refl, refl)
all_left_alike last_no_base = (refl, refl, refl, refl)

all_alike_given : {s t : Several} → AllAlike s t → (e : Edges) → t.answer ≡ gives e → s ≡ t
all_alike_given all_same e h = refl
all_alike_given (last_no_base {beside' = beside'}) e h = ungiven e 3 beside' (sym h)

-- What a call of `add_labels` tells of the labels added and the number stored.
told : (n : ℕ) (r : Result Additions OutOfText) (s : Several) → labels_say n r s → (added_by r ≡ s.labels) × (stored_by n r ≡ s.stored)
told n (Ok a) s h = (h.0, h.1)
told n (Err e) s h = (h.0, h.1)

module _ (kind : EdgeKind) (K : ℕ) (odd : K % 2 ≡ 1) where
  -- ---- two calls over the same table, known by their contracts

  module _ (n : ℕ) (keys counts : List ℕ) where
    -- `add_label`, of labels that read as each other on one strand or the other.
    module _ {l m : List ℕ} (t : EitherStrand l m) {r s : Result Addition AddError} {keys' counts' keys'' counts'' : List ℕ}
        (a : Adds r keys' counts' (add_label (kind_of kind) reversed K n keys counts l))
        (b : Adds s keys'' counts'' (add_label (kind_of kind) reversed K n keys counts m)) where
      -- Both slices and the number stored, whatever is answered;
      pub call_strands : (keys'' ≡ keys') × (counts'' ≡ counts') × (stored_after n (add_answer s) ≡ stored_after n (add_answer r))
      call_strands =
          let h = left_alike n (either_alike (kind_of kind) K odd n keys counts t) in (
            b.keys_after ∙ h.0 ∙ sym a.keys_after,
            b.counts_after ∙ h.1 ∙ sym a.counts_after,
            ap (stored_after n) b.answer ∙ h.2 ∙ sym (ap (stored_after n) a.answer),
          )

      -- and where the one is added, so is the other, with the same answer.
      pub call_answers : {edges stored : ℕ} → r ≡ Ok (record { edges = edges; stored = stored }) → s ≡ r
      call_answers {edges} {stored} q =
          let e : Edges = record { edges = edges; stored = stored } in
          let h = alike_given (either_alike (kind_of kind) K odd n keys counts t) e (sym a.answer ∙ ap add_answer q) in
          (adds_one s r (rw h at b) a).0

    -- `add_labels`, over two indices.
    module _ (text starts lengths text₂ starts₂ lengths₂ : List ℕ) (count count₂ : ℕ)
        (inside : within text count starts lengths ≡ true) (inside₂ : within text₂ count₂ starts₂ lengths₂ ≡ true)
        (ts : Turned (listed count text starts lengths) (listed count₂ text₂ starts₂ lengths₂))
        {r s : Result Additions OutOfText} {keys' counts' keys'' counts'' : List ℕ}
        (a : AddsLabels n r keys' counts' (add_labels (kind_of kind) reversed K n keys counts text starts lengths count))
        (b : AddsLabels n s keys'' counts'' (add_labels (kind_of kind) reversed K n keys counts text₂ starts₂ lengths₂ count₂)) where
      abbrev first : Several
      first = add_labels (kind_of kind) reversed K n keys counts text starts lengths count

      abbrev second : Several
      second = add_labels (kind_of kind) reversed K n keys counts text₂ starts₂ lengths₂ count₂

      labels_alike : AllAlike second first
      unfolding add_labels
      labels_alike = rw (inside, inside₂) (each_alike (kind_of kind) K odd ts all_same)

      -- Both slices, how many were added and the number stored, whatever is answered;
      pub calls_strands : (keys'' ≡ keys') × (counts'' ≡ counts') × (added_by s ≡ added_by r) × (stored_by n s ≡ stored_by n r)
      calls_strands =
          let h = all_left_alike labels_alike in
          let p = told n r first a.says in
          let q = told n s second b.says in (
            b.keys_after ∙ h.0 ∙ sym a.keys_after,
            b.counts_after ∙ h.1 ∙ sym a.counts_after,
            q.0 ∙ h.2 ∙ sym p.0,
            q.1 ∙ h.3 ∙ sym p.1,
          )

      -- and where none is refused, the answer.
      pub calls_answers : {labels stored edges now : ℕ} → r
          ≡ Ok (record { labels = labels; stored = stored; last = Ok (record { edges = edges; stored = now }) }) → s ≡ r
      calls_answers {labels} {stored} {edges} {now} q =
          let e : Edges = record { edges = edges; stored = now } in
          let w : labels_say n (Ok (record { labels = labels; stored = stored; last = Ok (record { edges = edges; stored = now }) })) first = rw q at a.says in
          let h = all_alike_given labels_alike e (sym w.2) in
          (adds_labels_one n s r (rw h at b) a).0

  -- ---- two runs, each from none stored

  module _ {ls ms : List (List ℕ)} {n n' : ℕ} {keys counts keys' counts' : List ℕ}
      (c : Called kind mode.Reversed K ls n keys counts) (d : Called kind mode.Reversed K ms n' keys' counts') (ts : Turned ls ms) where
    -- The number stored and the vertices, in whatever slices they stand.
    pub runs_strands : (n' ≡ n) × (table_of n' keys' counts' ≡ table_of n keys counts)
    runs_strands = grown_same (grown_turned (kind_of kind) K odd (called_grown c) ts) (called_grown d)

    contract_strands : (cutoff : ℕ) (labels starts lengths marks : List ℕ)
        → contract (kind_of kind) K cutoff n' keys' counts' labels starts lengths marks ≡ contract (kind_of kind) K cutoff n keys counts labels starts lengths marks
    contract_strands cutoff labels starts lengths marks =
        let q = runs_strands.0 in
        rw q
        (contract_same (kind_of kind) K cutoff n keys counts keys' counts' labels starts lengths marks (grown_fit_for (called_grown c))
        (rw q at (grown_fit_for (called_grown d))) (rw q at runs_strands.1))

    -- A call of `contract` over the one is a call over the other: they have one list.
    pub lists_strands : (cutoff : ℕ) (labels starts lengths marks : List ℕ) {r : Result Unitigs ContractError} {labels' starts' lengths' marks' : List ℕ}
        → Contracts r labels' starts' lengths' marks' (contract (kind_of kind) K cutoff n' keys' counts' labels starts lengths marks)
        → Contracts r labels' starts' lengths' marks' (contract (kind_of kind) K cutoff n keys counts labels starts lengths marks)
    lists_strands cutoff labels starts lengths marks a = rw (contract_strands cutoff labels starts lengths marks) at a
