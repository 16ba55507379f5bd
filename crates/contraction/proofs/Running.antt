-- The run of one vertex more: its labels only grow, and all of them together are short enough for 32 bits. Assumes
-- nothing.
use mathlib.Core.Path.{◌≡◌, refl, ap, ◌∙◌}
use mathlib.Core.Bool.{true, false, ◌||◌}
use mathlib.Core.Logic.{⊎_elim}
use mathlib.Core.List.{List, [], ◌∷◌, ◌++◌}
use Prim.Native.Nat.{ℕ, zero, suc, ◌+◌, ◌*◌, ◌≤◌}
use native.Mathlib.Nat.{mul-le-mul}
use native.Mathlib.Numerals.{add-one}
use native.Mathlib.Omega.{arith}
use lib.ListN.{length, get_or, length-append}
use Rattle.lemmas.proofs.Numbers.{lt_or_ge}
use Rattle.lemmas.proofs.Tests.{choose}
use Rattle.kmer.proofs.Bounds.{ok_bounds}
use Rattle.state.specs.declared.Side.TheVariants.{Front, Back}
use Rattle.graph.specs.Walks.{Ends, walk, visited, isolated}
use Rattle.graph.specs.Labels.{Run, label_of, extract, run}
use Rattle.graph.specs.Contraction.{end_to_end}
use Rattle.laws.proofs.Room.{run_room, total_snoc}
use Rattle.marks.specs.Marks.{ends}
use Rattle.marks.specs.Ready.{keys_for, Ready}
use Rattle.marks.proofs.Still.{keys_marks}
use Rattle.contraction.specs.Over.{run_in}

-- A run has no more labels than another, and no more bases, and came to no missing vertex unless the other did.
pub record NoMore (r r₂ : Run) : Type 0 where
  pub number : length r.labels ≤ length r₂.labels
  pub total : length (end_to_end r.labels) ≤ length (end_to_end r₂.labels)
  pub missed : r.missed ≡ true → r₂.missed ≡ true

module _ (K : ℕ) (ks : List ℕ) (es : List Ends) where
  -- The label of anchor a under some marks.
  abbrev pub label_under : List ℕ → ℕ → List ℕ
  label_under marks a =
      let back = walk K ks es a Back marks in
      label_of K ks es (get_or ks a 0) back (walk K ks es a Front back.marks)

  pub run_skips : (a : ℕ) → (visited (run K ks es a).marks a || isolated es a) ≡ true
      → run K ks es (a + 1) ≡ run K ks es a
  unfolding run
  run_skips a h = rw (add-one, h)

  pub run_takes : (a : ℕ) → (visited (run K ks es a).marks a || isolated es a) ≡ false
      → run K ks es (a + 1) ≡ extract K ks es (run K ks es a) a
  unfolding run
  run_takes a h = rw (add-one, h)

  pub extract_labels : (r : Run) (a : ℕ) → (extract K ks es r a).labels ≡ r.labels ++ (label_under r.marks a ∷ [])
  unfolding extract
  extract_labels r a = refl

  extract_missed : (r : Run) (a : ℕ) → r.missed ≡ true → (extract K ks es r a).missed ≡ true
  unfolding extract
  extract_missed r a h = rw h

  extract_grown : (r : Run) (a : ℕ) → NoMore r (extract K ks es r a)
  extract_grown r a =
      let l : List ℕ = label_under r.marks a in
      let e : length (extract K ks es r a).labels ≡ length r.labels + 1 =
      ap length (extract_labels r a) ∙ length-append r.labels (l ∷ []) in
      let t : length (end_to_end (extract K ks es r a).labels) ≡ length (end_to_end r.labels) + length
      (label_under r.marks a) =
      ap (λ (ls : List (List ℕ)). length (end_to_end ls)) (extract_labels r a) ∙ total_snoc r.labels l in
      record { number = omega arith; total = omega arith; missed = extract_missed r a }

  same_grown : (r : Run) → NoMore r r
  same_grown r = record { number = omega arith; total = omega arith; missed = λ h. h }

  next_grown : (n : ℕ) → NoMore (run K ks es n) (run K ks es (suc n))
  unfolding run
  next_grown n =
      choose (NoMore (run K ks es n)) (visited (run K ks es n).marks n || isolated es n)
      (λ _. same_grown (run K ks es n))
      (λ _. extract_grown (run K ks es n) n)

  pub run_grown : (a n : ℕ) → a ≤ n → NoMore (run K ks es a) (run K ks es n)
  run_grown a zero h = let e : a ≡ 0 = omega arith in rw e (same_grown (run K ks es 0))
  run_grown a (suc n) h = ⊎_elim (λ l. on (run_grown a n (omega arith))) here (lt_or_ge a (suc n))
    where
      here : suc n ≤ a → NoMore (run K ks es a) (run K ks es (suc n))
      here l = let e : a ≡ suc n = omega arith in rw e (same_grown (run K ks es (suc n)))

      on : NoMore (run K ks es a) (run K ks es n) → NoMore (run K ks es a) (run K ks es (suc n))
      on g = let x = next_grown n in record {
        number = omega arith;
        total = omega arith;
        missed = λ h. x.missed (g.missed h);
      }

-- The labels of a run have at most 63 * 65,536 bases.
pub run_small : {K : ℕ} {keys ms : List ℕ} → Ready K keys ms → (a : ℕ) → a ≤ length ms
    → length (end_to_end (run_in K keys ms a).labels) ≤ 4128768
run_small {K} {keys} {ms} r a h =
    let n : length (keys_for ms keys) ≡ length ms = keys_marks r in
    let k = ok_bounds K r.ok in
    let few : length (keys_for ms keys) ≤ 65536 = omega (arith, r.few) in
    let most : K * length (keys_for ms keys) ≤ 63 * 65536 = mul-le-mul k.1 few in
    omega (arith, run_room K (keys_for ms keys) (ends ms) k.0 r.fits (λ v s _. r.known v s) a (omega arith))
