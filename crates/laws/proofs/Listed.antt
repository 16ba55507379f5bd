-- What contraction gives back, read by its index: the labels of the run, in ascending order, which meet demand 3 but for its last
-- sentence. Assumes nothing.
use mathlib.Core.Path.{◌≡◌, refl, sym, ap, ap₂, ◌∙◌, subst}
use mathlib.Core.Bool.{true, not, ◌||◌}
use mathlib.Core.List.{List, [], ◌∷◌, ◌++◌, map, append_assoc}
use Prim.Native.Nat.{ℕ, ◌+◌, ◌≤◌}
use native.Mathlib.Omega.{arith}
use borrow.Author.Tests.{not-false, le-leb}
use lib.Dec.{ltb}
use lib.ListN.{length, take, drop, length-append}
use lib.Seq.{take_at, drop_at}
use Rattle.lemmas.proofs.Tests.{choose}
use Rattle.dna.specs.Answer.{gives}
use Rattle.kmer.specs.Kmer.{ok_k}
use Rattle.state.specs.Counted.{Kind, answers_for}
use Rattle.label_index.specs.Entries.{listed, within}
use Rattle.graph.specs.Table.{table_of, keys_of, fit, fit_for}
use Rattle.graph.specs.Walks.{Ends}
use Rattle.graph.specs.Labels.{Run, run}
use Rattle.graph.specs.Contraction.{Entry, Totals, Contracted, entries, sorted, end_to_end, ends_in, written, finish, contract}
use Rattle.laws.specs.Windows.{occurrences}
use Rattle.laws.specs.Demand.{Each, Each.none, Each.more, in_order, Always}
use Rattle.laws.proofs.Indexed.{sorted_length, sorted_each, sorted_occurrences}
use Rattle.graph.proofs.Accepted.{fit_for_both}
use Rattle.laws.proofs.Fits.{fit_always}

-- The entry's label stands where the entry says, within the bytes.
abbrev pub Right : List ℕ → Entry → Type 0
Right bytes e = (take (length e.label) (drop e.start bytes) ≡ e.label) × (e.start + length e.label ≤ length bytes)

pub entries_right : (at : ℕ) (first : List ℕ) (ls : List (List ℕ)) (rest bytes : List ℕ) → length first ≡ at
    → bytes ≡ first ++ (end_to_end ls ++ rest) → Each (Right bytes) (entries at ls)
unfolding entries end_to_end
entries_right at first [] rest bytes n e = none
entries_right at first (l ∷ ls) rest bytes n e =
    let flat : (l ++ end_to_end ls) ++ rest ≡ l ++ (end_to_end ls ++ rest) = append_assoc l (end_to_end ls) rest in
    more {x = record { start = at; label = l }} (
      ap (λ (b : List ℕ). take (length l) (drop at b)) e
          ∙ ap (take (length l)) (drop_at first ((l ++ end_to_end ls) ++ rest) at n ∙ flat) ∙ take_at l (end_to_end ls ++ rest) (length l) refl,
      omega (
        arith,
        ap length (e ∙ ap (λ (b : List ℕ). first ++ b) flat),
        length-append first (l ++ (end_to_end ls ++ rest)),
        length-append l (end_to_end ls ++ rest),
      ),
    )
    (entries_right (at + length l) (first ++ l) ls rest bytes (length-append first l ∙ ap (λ (m : ℕ). m + length l) n)
    (e ∙ ap (λ (b : List ℕ). first ++ b) flat ∙ sym (append_assoc first l (end_to_end ls ++ rest))))

listed_right : (bytes : List ℕ) {es : List Entry} → Each (Right bytes) es → (starts lengths : List ℕ)
    → listed (length es) bytes (map (λ (e : Entry). e.start) es ++ starts) (map (λ (e : Entry). length e.label) es ++ lengths)
    ≡ map (λ (e : Entry). e.label) es
unfolding listed
listed_right bytes none starts lengths = refl
listed_right bytes (more p q) starts lengths = ap₂ (λ (l : List ℕ) (ls : List (List ℕ)). l ∷ ls) p.0 (listed_right bytes q starts lengths)

within_right : (bytes : List ℕ) {es : List Entry} → Each (Right bytes) es → (starts lengths : List ℕ)
    → within bytes (length es) (map (λ (e : Entry). e.start) es ++ starts) (map (λ (e : Entry). length e.label) es ++ lengths) ≡ true
unfolding within
within_right bytes none starts lengths = refl
within_right bytes (more {x} p q) starts lengths = rw (le-leb (x.start + length x.label) (length bytes) p.1) (within_right bytes q starts lengths)

module _ (κ : Kind) (K cutoff n : ℕ) (keys counts labels starts lengths marks : List ℕ) where
  abbrev ks : List ℕ
  ks = keys_of n keys

  abbrev es : List Ends
  es = ends_in κ cutoff (table_of n keys counts)

  abbrev result : Contracted
  result = contract κ K cutoff n keys counts labels starts lengths marks

  -- What is written, read by its index: the labels in order, each within the bytes.
  record Index (c : Contracted) (r : Run) : Type 0 where
    lists : listed (length r.labels) c.labels c.starts c.lengths ≡ in_order r
    inside : within c.labels (length r.labels) c.starts c.lengths ≡ true

  written_index : (r : Run) → Index (written κ K cutoff n keys counts labels starts lengths marks r) r
  unfolding written
  written_index r =
      let ls = r.labels in
      let xs = sorted (entries 0 r.labels) in
      let bytes = end_to_end r.labels ++ drop (length (end_to_end r.labels)) labels in
      let right = sorted_each (Right bytes) (entries_right 0 [] ls (drop (length (end_to_end r.labels)) labels) bytes refl refl) in
      let sp = map (λ (e : Entry). e.start) xs in
      let lp = map (λ (e : Entry). length e.label) xs in
      record {
        lists = ap (λ (m : ℕ). listed m bytes (sp ++ drop (length sp) starts) (lp ++ drop (length lp) lengths)) (sym (sorted_length 0 ls))
            ∙ listed_right bytes right (drop (length sp) starts) (drop (length lp) lengths);
        inside = ap (λ (m : ℕ). within bytes m (sp ++ drop (length sp) starts) (lp ++ drop (length lp) lengths)) (sym (sorted_length 0 ls))
            ∙ within_right bytes right (drop (length sp) starts) (drop (length lp) lengths);
      }

  written_totals : (r : Run) (t : Totals) → (written κ K cutoff n keys counts labels starts lengths marks r).answer ≡ gives t
      → (t.labels ≡ length r.labels) × (t.bases ≡ length (end_to_end r.labels))
  unfolding written
  written_totals r t h = (cc, cc)

  -- A call that is not refused: K and the table were in order, and the labels of the run were written.
  pub record Accepted (c : Contracted) (t : Totals) : Type 0 where
    pub ok : ok_k K ≡ true
    pub fits : fit K n keys counts ≡ true
    pub is : c ≡ written κ K cutoff n keys counts labels starts lengths marks (run K ks es n)
    pub number : t.labels ≡ length (run K ks es n).labels
    pub bases : t.bases ≡ length (end_to_end (run K ks es n).labels)

  finished : (r : Run) (t : Totals) → (finish κ K cutoff n keys counts labels starts lengths marks r).answer ≡ gives t
      → finish κ K cutoff n keys counts labels starts lengths marks r ≡ written κ K cutoff n keys counts labels starts lengths marks r
  unfolding finish
  finished r t =
      choose Q r.missed (λ _ h. absurd (let z : ◌≡◌ {A = ℕ} 0 1 = cc in omega arith))
      (λ _. choose Q (ltb (length labels) (length (end_to_end r.labels)) || ltb (length starts) (length r.labels)
      || ltb (length lengths) (length r.labels))
      (λ _ h. absurd (let z : ◌≡◌ {A = ℕ} 0 1 = cc in omega arith)) (λ _ _. refl))
    where
      Q : Contracted → Type 0
      Q c = c.answer ≡ gives t → c ≡ written κ K cutoff n keys counts labels starts lengths marks r

  pub accepted : (t : Totals) → result.answer ≡ gives t → Accepted result t
  unfolding contract
  accepted t =
      let r = run K ks es n in
      choose P (not (ok_k K)) (λ _ h. absurd (let z : ◌≡◌ {A = ℕ} 0 1 = cc in omega arith))
      (λ p. choose P (not (fit_for κ K n keys counts)) (λ _ h. absurd (let z : ◌≡◌ {A = ℕ} 0 1 = cc in omega arith))
      (λ q. choose P (not (answers_for κ cutoff)) (λ _ h. absurd (let z : ◌≡◌ {A = ℕ} 0 1 = cc in omega arith))
      (λ _. choose P (ltb (length marks) n) (λ _ h. absurd (let z : ◌≡◌ {A = ℕ} 0 1 = cc in omega arith))
      (λ _ h.
      let w = finished r t h in
      let a : (written κ K cutoff n keys counts labels starts lengths marks (run K ks es n)).answer ≡ gives t =
      ap (λ (c : Contracted). c.answer) (sym w) ∙ h in
      let s = written_totals r t a in
      let f = (fit_for_both κ K n keys counts (not-false (fit_for κ K n keys counts) q)).0 in
      record { ok = not-false (ok_k K) p; fits = f; is = w; number = s.0; bases = s.1 }))))
    where
      P : Contracted → Type 0
      P c = c.answer ≡ gives t → Accepted c t

  -- The labels that the call's index lists are those of the run, in ascending order,
  pub contract_listed : (t : Totals) → result.answer ≡ gives t
      → listed t.labels result.labels result.starts result.lengths ≡ in_order (run K ks es n)
  contract_listed t h =
      let a = accepted t h in
      let r = run K ks es n in
      ap₂ (λ (m : ℕ) (c : Contracted). listed m c.labels c.starts c.lengths) a.number a.is ∙ (written_index r).lists

  -- and each lies within the label buffer.
  pub contract_within : (t : Totals) → result.answer ≡ gives t
      → within result.labels t.labels result.starts result.lengths ≡ true
  contract_within t h =
      let a = accepted t h in
      let r = run K ks es n in
      ap₂ (λ (m : ℕ) (c : Contracted). within c.labels m c.starts c.lengths) a.number a.is ∙ (written_index r).inside

  -- They meet demand 3 but for its last sentence.
  pub contract_always : (t : Totals) → result.answer ≡ gives t
      → Always K ks es (listed t.labels result.labels result.starts result.lengths)
  contract_always t h =
      let a = accepted t h in
      subst (Always K ks es) (sym (contract_listed t h)) (fit_always κ K cutoff n keys counts a.fits a.ok)

  -- A k-mer occurs in them as often as in the labels of the run.
  pub contract_occurrences : (t : Totals) → result.answer ≡ gives t → (x : ℕ)
      → occurrences K x (listed t.labels result.labels result.starts result.lengths) ≡ occurrences K x (run K ks es n).labels
  contract_occurrences t h x = ap (occurrences K x) (contract_listed t h) ∙ sorted_occurrences K x 0 (run K ks es n).labels
