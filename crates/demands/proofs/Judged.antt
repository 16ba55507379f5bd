-- Runs of `judge`: yes is said exactly where the four rules hold, and a no names the first broken one; and what our own calls list over a
-- table that calls have made gets yes, through its FASTA. Assumes nothing.
use mathlib.Core.Path.{◌≡◌, refl, sym, ap, ◌∙◌}
use mathlib.Core.Bool.{true}
use mathlib.Core.List.{List}
use Prim.Native.Nat.{ℕ, ◌%◌, ◌≤◌}
use native.Mathlib.Omega.{arith}
use lib.Dec.{ltb}
use lib.ListN.{length, take, drop}
use lib.Seq.{take-append_seam}
use Rattle.lemmas.proofs.Tests.{choose}
use Rattle.dna.specs.Answer.{gives, Filled}
use Rattle.kmer.specs.Kmer.{ok_k}
use Rattle.kmer.proofs.Bounds.{ok_bounds}
use Rattle.state.specs.declared.EdgeKind.{EdgeKind}
use Rattle.state.specs.Counted.{answers_for}
use Rattle.state.specs.Says.{kind_of}
use Rattle.label_index.specs.Entries.{listed, within}
use Rattle.graph.specs.Table.{table_of, keys_of, fit_for}
use Rattle.graph.specs.Walks.{Ends}
use Rattle.graph.specs.Contraction.{Totals, ends_in, contract}
use Rattle.graph.specs.Fasta.{records_of, fasta}
use Rattle.graph.proofs.Accepted.{fit_sound, fit_for_both}
use Rattle.adding.specs.declared.Mode.{Mode}
use Rattle.adding.specs.declared.Mode.TheVariants as mode
use Rattle.contraction.specs.declared.Unitigs.{Unitigs}
use Rattle.contraction.specs.declared.ContractError.{ContractError}
use Rattle.contraction.specs.Says.{contract_answer, Contracts}
use Rattle.fasta.specs.declared.FastaError.{FastaError}
use Rattle.fasta.specs.Says.{fasta_answer, Lists}
use Rattle.laws.specs.Demand.{OneBase}
use Rattle.rules.specs.Listing.{Lists as Holds}
use Rattle.rules.specs.Rules.{Passes}
use Rattle.rules.specs.Verdict.{yes, no}
use Rattle.rules.specs.Judged.{Judged}
use Rattle.rules.specs.Judging.{judge}
use Rattle.rules.proofs.Listing.{lists_labels}
use Rattle.rules.proofs.Verdicts.{yes_passes, yes_complete}
use Rattle.rules.proofs.Judging.{call_says, call_judges, own_fasta}
use Rattle.judging.specs.declared.Broken.{Broken}
use Rattle.judging.specs.declared.JudgeError.{JudgeError}
use Rattle.judging.specs.declared.JudgeError.TheVariants as judged
use Rattle.judging.specs.Answers.{judge_answer, Judges}
use Rattle.demands.specs.Calls.{excepted, Called}
use Rattle.demands.proofs.Meets.{lawful, called_grown}
use Rattle.std.specs.Prelude.{Option, Some, None, Result, Ok, Err}

-- The k-mers that a mode excepts are of one repeated base.
only_bases : (m : Mode) (K x : ℕ) → excepted m K x → OneBase K x
only_bases mode.SameCanonical K x o = o
only_bases mode.Reversed K x o = absurd o

-- Yes is said by one answer alone.
passes_only : (v : Result (Option Broken) JudgeError) → judge_answer v ≡ gives yes → v ≡ Ok None
passes_only (Ok None) e = refl
passes_only (Ok (Some b)) e = absurd (let z : ◌≡◌ {A = ℕ} 0 1 = cc in omega arith)
passes_only (Err (judged.UnsupportedK K)) e = absurd (let z : ◌≡◌ {A = ℕ} 0 1 = cc in omega arith)
passes_only (Err judged.Unfit) e = absurd (let z : ◌≡◌ {A = ℕ} 0 1 = cc in omega arith)
passes_only (Err judged.WrongCutoff) e = absurd (let z : ◌≡◌ {A = ℕ} 0 1 = cc in omega arith)
passes_only (Err judged.FewMarks) e = absurd (let z : ◌≡◌ {A = ℕ} 0 1 = cc in omega arith)
passes_only (Err judged.EvenK) e = absurd (let z : ◌≡◌ {A = ℕ} 0 1 = cc in omega arith)
passes_only (Err judged.NoList) e = absurd (let z : ◌≡◌ {A = ℕ} 0 1 = cc in omega arith)

-- ---- a call of `judge`, known by its contract

module _ (kind : EdgeKind) (K cutoff n : ℕ) (keys counts text marks : List ℕ) {r : Result (Option Broken) JudgeError} {marks' : List ℕ}
    (c : Judges r marks' (judge (kind_of kind) K cutoff n keys counts text marks)) where
  abbrev ks : List ℕ
  ks = keys_of n keys

  abbrev es : List Ends
  es = ends_in (kind_of kind) cutoff (table_of n keys counts)

  -- Where it answers yes, the text holds a list that keeps the four rules;
  pub call_yes : r ≡ Ok None → (ls : List (List ℕ)) × Holds K text ls × Passes K ks es ls
  call_yes e =
      let s = call_says (kind_of kind) K cutoff n keys counts text marks yes (sym c.answer ∙ ap judge_answer e) in
      let fits = (fit_sound K n keys counts (fit_for_both (kind_of kind) K n keys counts s.fits).0).fits in
      (s.labels, s.lists, yes_passes K ks es (ok_bounds K s.ok).0 s.odd fits s.says)

  -- where the text holds such a list and nothing is refused, it answers yes;
  pub call_passes : ok_k K ≡ true → fit_for (kind_of kind) K n keys counts ≡ true → answers_for (kind_of kind) cutoff ≡ true → n ≤ length marks
      → K % 2 ≡ 1 → {ls : List (List ℕ)} → Holds K text ls → Passes K ks es ls → r ≡ Ok None
  call_passes ok fits asked room odd {ls} l p =
      let f = (fit_sound K n keys counts (fit_for_both (kind_of kind) K n keys counts fits).0).fits in
      passes_only r
      (c.answer ∙ call_judges (kind_of kind) K cutoff n keys counts text marks ok fits asked room odd l
      ∙ ap gives (yes_complete K ks es (ok_bounds K ok).0 odd f ls (lists_labels K l) p))

  -- where it answers no, the text holds a list whose first broken rule and lowest label concerned it names.
  pub call_no : {rule label : ℕ} → r ≡ Ok (Some (record { rule = rule; label = label })) → (ls : List (List ℕ)) × Holds K text ls × Judged K ks es ls (no rule label)
  call_no {rule} {label} e =
      let s = call_says (kind_of kind) K cutoff n keys counts text marks (no rule label) (sym c.answer ∙ ap judge_answer e) in
      (s.labels, s.lists, s.says)

-- ---- what our own calls list

-- What was written is the records.
written : {f : Result ℕ FastaError} (out : List ℕ) {out' : List ℕ} {size : ℕ} (labels starts lengths : List ℕ) (count : ℕ)
    → Lists f out' (fasta labels starts lengths count out) → f ≡ Ok size → take size out'
    ≡ records_of (listed count labels starts lengths)
unfolding fasta
written {f} out {out'} {size} labels starts lengths count d e =
    let all = records_of (listed count labels starts lengths) in
    choose P (within labels count starts lengths)
    (λ _. choose P (ltb (length out) (length all))
    (λ _ p q. absurd (let z : ◌≡◌ {A = ℕ} 0 1 = cc in omega arith))
    (λ _ p q. let s : size ≡ length all = cc in rw (q, s) (take-append_seam all (drop (length all) out))))
    (λ _ p q. absurd (let z : ◌≡◌ {A = ℕ} 0 1 = cc in omega arith))
    (sym d.answer ∙ ap fasta_answer e) d.slice
  where
    P : Filled → Type 0
    P x = x.answer ≡ gives size → out' ≡ x.slice → take size out' ≡ records_of (listed count labels starts lengths)

-- A table made by calls, K odd, a call of `contract` over it and one of `write_fasta` over its list that are not refused, and at least n
-- marks: the call of `judge` with the bytes written says yes.
pub call_judged : {kind : EdgeKind} {m : Mode} {K : ℕ} {ls : List (List ℕ)} {n : ℕ} {keys counts : List ℕ}
    → Called kind m K ls n keys counts
    → K % 2 ≡ 1 → (cutoff : ℕ) (labels starts lengths marks : List ℕ) {r : Result Unitigs ContractError} {labels' starts' lengths' marks' : List ℕ}
    → Contracts r labels' starts' lengths' marks' (contract (kind_of kind) K cutoff n keys counts labels starts lengths marks)
    → {number bases : ℕ} → r ≡ Ok (record { labels = number; bases = bases })
    → (out : List ℕ) {f : Result ℕ FastaError} {out' : List ℕ} → Lists f out' (fasta labels' starts' lengths' number out) → {size : ℕ} → f
    ≡ Ok size
    → (spare : List ℕ) → n ≤ length spare → {v : Result (Option Broken) JudgeError} {spare' : List ℕ}
    → Judges v spare' (judge (kind_of kind) K cutoff n keys counts (take size out') spare) → v ≡ Ok None
call_judged {kind} {m} {K} {n = n} {keys = keys} {counts = counts} g odd cutoff labels starts lengths marks
    {labels' = labels'} {starts' = starts'} {lengths' = lengths'} c {number} {bases} e out {out' = out'} d {size} w spare h {v} j =
    let t : Totals = record { labels = number; bases = bases } in
    let given = sym c.answer ∙ ap contract_answer e in
    let own = own_fasta (lawful m K) (only_bases m K) (called_grown g) cutoff odd labels starts lengths marks t given spare h in
    let same : take size out' ≡ records_of (listed number labels' starts' lengths') = written out labels' starts' lengths' number d w in
    passes_only v
    (j.answer ∙ ap (λ (text : List ℕ). (judge (kind_of kind) K cutoff n keys counts text spare).answer) same
    ∙ rw (c.labels_after, c.starts_after, c.lengths_after) own)
