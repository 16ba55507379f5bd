-- What a call that is not refused says, and that it says yes to our own FASTA. Assumes nothing.
use Prim.Native.Nat.{ℕ, ◌%◌, ◌≤◌}
use mathlib.Core.Path.{◌≡◌, refl, sym, ap, ◌∙◌, subst}
use mathlib.Core.Bool.{true, not}
use mathlib.Core.List.{List}
use native.Mathlib.Omega.{arith}
use borrow.Author.Tests.{not-false, ltb-false, le-ltb, ne_eqb, eqb-false}
use lib.Dec.{ltb, eqb}
use lib.ListN.{length, replicate}
use Rattle.lemmas.proofs.Tests.{choose}
use Rattle.dna.specs.Text.{over}
use Rattle.dna.specs.Answer.{gives}
use Rattle.kmer.specs.Kmer.{ok_k}
use Rattle.kmer.proofs.Bounds.{ok_bounds}
use Rattle.state.specs.Counted.{Kind, answers_for}
use Rattle.label_index.specs.Entries.{listed}
use Rattle.graph.specs.Table.{table_of, keys_of, fit_for}
use Rattle.graph.specs.Sightings.{Rule}
use Rattle.graph.specs.Walks.{Ends}
use Rattle.graph.specs.Contraction.{Totals, Contracted, ends_in, contract}
use Rattle.graph.specs.Fasta.{records_of}
use Rattle.graph.proofs.Accepted.{fit_sound, fit_for_both}
use Rattle.laws.specs.Grown.{Grown}
use Rattle.laws.specs.Demand.{OneBase}
use Rattle.laws.proofs.Keys.{grown_fit_for}
use Rattle.laws.proofs.Symmetry.{Lawful}
use Rattle.rules.specs.Listing.{Lists, Listing, holds, no_list, listing}
use Rattle.rules.specs.Verdict.{Verdict, yes, verdict}
use Rattle.rules.specs.Judged.{Judged}
use Rattle.rules.specs.Judging.{Judgement, on_list, judge}
use Rattle.rules.proofs.Verdicts.{judged}
use Rattle.rules.proofs.Listing.{listing_sound, listing_complete, lists_labels, records_listed}
use Rattle.rules.proofs.Growing.{own_labels, own_list}

module _ (κ : Kind) (K cutoff n : ℕ) (keys counts text marks : List ℕ) where
  abbrev ks : List ℕ
  ks = keys_of n keys

  abbrev es : List Ends
  es = ends_in κ cutoff (table_of n keys counts)

  abbrev call : Judgement
  call = judge κ K cutoff n keys counts text marks

  -- A call that says yes or no: K and the table are in order, the text holds a list, the verdict is that on the list, and the first n
  -- marks are 0.
  pub record Says (j : Judgement) (v : Verdict) : Type 0 where
    pub ok : ok_k K ≡ true
    pub odd : K % 2 ≡ 1
    pub fits : fit_for κ K n keys counts ≡ true
    pub answers : answers_for κ cutoff ≡ true
    pub labels : List (List ℕ)
    pub lists : Lists K text labels
    pub is : v ≡ verdict K ks es labels
    pub says : Judged K ks es labels v
    pub marks_after : j.marks ≡ over (replicate n 0) marks

  pub call_says : (v : Verdict) → call.answer ≡ gives v → Says call v
  unfolding judge on_list
  call_says v =
      choose P (not (ok_k K)) (λ _ h. absurd (let z : ◌≡◌ {A = ℕ} 0 1 = cc in omega arith))
      (λ p. choose P (not (fit_for κ K n keys counts)) (λ _ h. absurd (let z : ◌≡◌ {A = ℕ} 0 1 = cc in omega arith))
      (λ q. choose P (not (answers_for κ cutoff)) (λ _ h. absurd (let z : ◌≡◌ {A = ℕ} 0 1 = cc in omega arith))
      (λ a. choose P (ltb (length marks) n) (λ _ h. absurd (let z : ◌≡◌ {A = ℕ} 0 1 = cc in omega arith))
      (λ _. choose P (eqb (K % 2) 0) (λ _ h. absurd (let z : ◌≡◌ {A = ℕ} 0 1 = cc in omega arith))
      (λ r.
      on_list_lem (not-false (ok_k K) p) (not-false (fit_for κ K n keys counts) q) (not-false (answers_for κ cutoff) a)
      (omega (arith, eqb-false (K % 2) 0 r)) (listing K text) refl)))))
    where
      P : Judgement → Type 0
      P j = j.answer ≡ gives v → Says j v

      on_list_lem : ok_k K ≡ true → fit_for κ K n keys counts ≡ true → answers_for κ cutoff ≡ true → K % 2 ≡ 1 → (l : Listing)
          → listing K text ≡ l → P (on_list κ K cutoff n keys counts text marks l)
      on_list_lem ok f a odd (holds ls) e h =
          let lists = listing_sound K e in
          let is : v ≡ verdict K ks es ls = cc in
          record {
            ok = ok;
            odd = odd;
            fits = f;
            answers = a;
            labels = ls;
            lists = lists;
            is = is;
            says = subst (Judged K ks es ls) (sym is)
                (judged K ks es (ok_bounds K ok).0 odd (fit_sound K n keys counts (fit_for_both κ K n keys counts f).0).fits ls
                (lists_labels K lists));
            marks_after = refl;
          }
      on_list_lem ok f a odd no_list e h = absurd (let z : ◌≡◌ {A = ℕ} 0 1 = cc in omega arith)

  -- Where nothing is refused, the call says the verdict on the list.
  pub call_judges : ok_k K ≡ true → fit_for κ K n keys counts ≡ true → answers_for κ cutoff ≡ true → n ≤ length marks → K % 2 ≡ 1
      → {ls : List (List ℕ)} → Lists K text ls
      → call.answer ≡ gives (verdict K ks es ls)
  unfolding judge on_list
  call_judges ok f a m odd l = rw (ok, f, a, le-ltb (length marks) n m, ne_eqb (K % 2) 0 (λ e. omega arith), listing_complete K l)

-- Header text is ignored: two texts that hold one list are judged alike.
pub same_list : (κ : Kind) (K cutoff n : ℕ) (keys counts marks : List ℕ) {text other : List ℕ} {ls : List (List ℕ)}
    → Lists K text ls → Lists K other ls
    → judge κ K cutoff n keys counts text marks ≡ judge κ K cutoff n keys counts other marks
unfolding judge on_list
same_list κ K cutoff n keys counts marks {text} {other} a b = rw (listing_complete K a, listing_complete K b)

-- A contraction that is not refused has a K in its range, a kind that answers for its cutoff, and marks enough.
pub contract_asked : (κ : Kind) (K cutoff n : ℕ) (keys counts labels starts lengths marks : List ℕ) (t : Totals)
    → (contract κ K cutoff n keys counts labels starts lengths marks).answer ≡ gives t
    → (ok_k K ≡ true) × (answers_for κ cutoff ≡ true) × (n ≤ length marks)
unfolding contract
contract_asked κ K cutoff n keys counts labels starts lengths marks t =
    choose P (not (ok_k K)) (λ _ h. absurd (let z : ◌≡◌ {A = ℕ} 0 1 = cc in omega arith))
    (λ p. choose P (not (fit_for κ K n keys counts)) (λ _ h. absurd (let z : ◌≡◌ {A = ℕ} 0 1 = cc in omega arith))
    (λ _. choose P (not (answers_for κ cutoff)) (λ _ h. absurd (let z : ◌≡◌ {A = ℕ} 0 1 = cc in omega arith))
    (λ a. choose P (ltb (length marks) n) (λ _ h. absurd (let z : ◌≡◌ {A = ℕ} 0 1 = cc in omega arith))
    (λ m _. (not-false (ok_k K) p, not-false (answers_for κ cutoff) a, ltb-false (length marks) n m)))))
  where
    P : Contracted → Type 0
    P c = c.answer ≡ gives t → (ok_k K ≡ true) × (answers_for κ cutoff ≡ true) × (n ≤ length marks)

-- Over a grown table, the FASTA of a contraction that was not refused gets yes.
module _ {Excepted : ℕ → Type 0} {κ : Kind} {rule : Rule} {K : ℕ} {ls : List (List ℕ)} {n : ℕ} {keys counts : List ℕ}
    (lawful : Lawful Excepted rule K) (only : (x : ℕ) → Excepted x → OneBase K x) (g : Grown κ rule K ls n keys counts)
    (cutoff : ℕ) (odd : K % 2 ≡ 1) (labels starts lengths marks : List ℕ) where
  abbrev own : Contracted
  own = contract κ K cutoff n keys counts labels starts lengths marks

  pub own_fasta : (t : Totals) → own.answer ≡ gives t → (marks' : List ℕ) → n ≤ length marks'
      → (judge κ K cutoff n keys counts (records_of (listed t.labels own.labels own.starts own.lengths)) marks').answer
      ≡ gives yes
  own_fasta t h marks' m =
      let c = contract_asked κ K cutoff n keys counts labels starts lengths marks t h in
      call_judges κ K cutoff n keys counts (records_of (listed t.labels own.labels own.starts own.lengths)) marks'
      c.0 (grown_fit_for g) c.1 m odd
      (records_listed K (own_labels g cutoff odd labels starts lengths marks t h))
      ∙ ap gives (own_list lawful only g cutoff odd labels starts lengths marks t h)
