-- For every file the program prints the line of a refusal, for a reason that fixes it, or the records of a list that meets demand 3. Assumes
-- nothing.
use mathlib.Core.Path.{◌≡◌, refl, sym, ap, ◌∙◌}
use mathlib.Core.Logic.{⊎_elim}
use mathlib.Core.Bool.{true, cond}
use mathlib.Core.List.{List, [], ◌∷◌, ◌++◌}
use Prim.Native.Nat.{ℕ, zero, suc, ◌+◌, ◌/◌, ◌%◌, ◌≤◌, ◌<◌}
use native.Mathlib.Omega.{arith}
use borrow.Author.Tests.{lt-ltb, le-ltb}
use lib.Dec.{ltb}
use lib.ListN.{length, drop, length-replicate}
use lib.Seq.{take-append_seam}
use Rattle.lemmas.proofs.Tests.{choose}
use Rattle.lemmas.proofs.Numbers.{lt_or_ge}
use Rattle.dna.specs.Text.{bytes, over}
use Rattle.dna.specs.Answer.{Answer, gives, refuses, Filled, fill}
use Rattle.dna.proofs.Answers.{either}
use Rattle.kmer.specs.Kmer.{ok_k}
use Rattle.state.specs.Counted.{four_bits}
use Rattle.label_index.specs.Entries.{listed, within}
use Rattle.graph.specs.Sightings.{same_canonical}
use Rattle.graph.specs.Adding.{Edges}
use Rattle.graph.specs.Several.{untried}
use Rattle.graph.specs.Contraction.{Totals, Contracted}
use Rattle.graph.specs.Fasta.{records_of, fasta}
use Rattle.graph.proofs.Several.{each_all}
use Rattle.label_file.specs.LabelFile.{LabelFile, damaged, holds, file_of}
use Rattle.label_file.specs.Output.{Buffers, Left, with_table, with_list, with_text, decimal, refusal, refused, printed, listed_after, list_all, output}
use Rattle.label_file.specs.Output.{zeros, printing, unitigs}
use Rattle.demands.specs.Printed.{table, result, list, Prints, Prints.refusing, Prints.listing}
use Rattle.demands.specs.Printed.{Refuses, Refuses.form, Refuses.bad_k, Refuses.label, Refuses.contraction, Refuses.text as exceeds}
use Rattle.demands.proofs.Program.{list_printed, list_inside, list_meets, lists, program_prints}

-- ---- the line of a refusal is short

decimal_short : (most x : ℕ) (s : List ℕ) → length (decimal most x s) ≤ most + length s
unfolding decimal
decimal_short zero x s = omega arith
decimal_short (suc most) x s =
    choose (λ (l : List ℕ). length l ≤ suc most + length s) (ltb x 10) (λ _. omega arith)
    (λ _. omega (arith, decimal_short most (x / 10) ((48 + x % 10) ∷ s)))

refusal_short : (r p : ℕ) → length (refusal r p) ≤ 44
refusal_short r p =
    omega (arith, decimal_short 20 r (bytes " " ++ decimal 20 p (bytes "\n")), decimal_short 20 p (bytes "\n"))

-- so that it is printed whole.
refused_printed : (r p : ℕ) (b : Buffers) → 44 ≤ length b.text → printing (refused r p b) ≡ refusal r p
unfolding refused
refused_printed r p b h =
    let l : length (refusal r p) ≤ length b.text = omega (arith, refusal_short r p) in
    let f : fill 11 (refusal r p) b.text ≡ record { answer = gives (length (refusal r p)); slice = over (refusal r p) b.text } =
    rw (le-ltb (length b.text) (length (refusal r p)) l) in
    ap (λ (f : Filled). printing (with_text b f)) f ∙ take-append_seam (refusal r p) (drop (length (refusal r p)) b.text)

-- A list whose records do not fit the text is refused.
list_refused : (p : ℕ) (b : Buffers) (c : Contracted) {t : Totals} → c.answer ≡ gives t
    → within c.labels t.labels c.starts c.lengths ≡ true
    → length b.text < length (records_of (listed t.labels c.labels c.starts c.lengths))
    → listed_after p b c ≡ refused 11 p (with_list b c)
unfolding listed_after printed refused fasta
list_refused p b c {t} given w h =
    let all = records_of (listed t.labels c.labels c.starts c.lengths) in
    let f : fasta c.labels c.starts c.lengths t.labels b.text ≡ record { answer = refuses 11 []; slice = b.text } =
    rw (w, lt-ltb (length b.text) (length all) h) in
    rw (given, listed_after) (ap (λ (f : Filled). with_text (with_list b c) (printed p b.text f)) f)

-- ---- every file

room : length zeros.text ≡ 8192
room = length-replicate {A = ℕ} 8192 0

-- The line of a refusal is printed whole.
line : (r p : ℕ) (b : Buffers) → length b.text ≡ 8192 → printing (refused r p b) ≡ refusal r p
line r p b l = refused_printed r p b (omega arith)

-- Where no label is refused, all were added.
all_added : (K : ℕ) (labels : List (List ℕ)) {e : Edges} → (table K labels).answer ≡ gives e → (table K labels).labels ≡ length labels
all_added K labels added = each_all four_bits same_canonical K (untried 0 zeros.keys zeros.counts) labels added ∙ omega arith

module _ (file : List ℕ) where
  abbrev Fine : Left → Type 0
  Fine l = Prints file (printing l)

  module _ {K cutoff : ℕ} {labels : List (List ℕ)} (sound : file_of file ≡ holds K cutoff labels) (ok : ok_k K ≡ true) where
    abbrev p : ℕ
    p = suc (table K labels).labels

    abbrev c : Contracted
    c = result K cutoff labels

    of_table : {e : Edges} → (table K labels).answer ≡ gives e → (b : Buffers) → length b.text ≡ 8192
        → (a : Answer Totals) → c.answer ≡ a → Fine (listed_after p b c)
    unfolding listed_after
    of_table added b l (gives t) given =
        let all = records_of (list K cutoff labels t.labels) in
        let w = list_inside K cutoff labels given in
        ⊎_elim (λ (h : length b.text < length all). rw (list_refused p b c given w h)
        (refusing (exceeds sound ok added given (omega arith))
        (line 11 p (with_list b c) l ∙ ap (λ (n : ℕ). refusal 11 (suc n)) (all_added K labels added))))
        (λ h. listing sound ok added given (omega arith) (list_printed p b c given w h) (list_meets K cutoff labels given))
        (lt_or_ge (length b.text) (length all))
    of_table added b l (refuses r vs) e =
        rw (e, listed_after)
        (refusing (contraction sound ok added e) (line r p (with_list b c) l ∙ ap (λ (n : ℕ). refusal r (suc n)) (all_added K labels added)))

    of_labels : Fine (list_all K cutoff labels zeros)
    unfolding list_all
    of_labels =
        let s = table K labels in
        let b = with_table zeros s.keys s.counts in
        either Fine s.answer (λ _ added. of_table added b room c.answer refl) (λ r vs h. refusing (label sound ok h) (line r p b room))

  of_file : (f : LabelFile) → file_of file ≡ f → Fine (elim f [
    | damaged i ↦ refused 13 i zeros
    | holds K cutoff labels ↦ cond (ok_k K) (list_all K cutoff labels zeros) (refused 1 0 zeros)
  ])
  of_file (damaged i) e = refusing (form e) (line 13 i zeros room)
  of_file (holds K cutoff labels) e =
      choose Fine (ok_k K) (λ ok. of_labels e ok) (λ bad. refusing (bad_k e bad) (line 1 0 zeros room))

  pub program_says : Prints file (unitigs file)
  unfolding output
  program_says = of_file (file_of file) refl

  -- ---- and nothing else

  refuses_so : {r p : ℕ} → Refuses file r p → unitigs file ≡ refusal r p
  unfolding output list_all listed_after
  refuses_so (form {i} e) = rw (e, output) (line 13 i zeros room)
  refuses_so (bad_k e bad) = rw (e, output, bad) (line 1 0 zeros room)
  refuses_so (label {K} {labels = labels} e ok {r} h) =
      let s = table K labels in
      rw (e, output, ok, h, list_all) (line r (suc s.labels) (with_table zeros s.keys s.counts) room)
  refuses_so (contraction {K} {cutoff} {labels} e ok added {r} h) =
      let s = table K labels in
      ap printing (lists file e ok added)
      ∙ rw (h, listed_after) (line r (suc s.labels) (with_list (with_table zeros s.keys s.counts) (result K cutoff labels)) room)
      ∙ ap (λ (n : ℕ). refusal r (suc n)) (all_added K labels added)
  refuses_so (exceeds {K} {cutoff} {labels} e ok added {t} given h) =
      let s = table K labels in
      let b = with_table zeros s.keys s.counts in
      let q = result K cutoff labels in
      ap printing (lists file e ok added)
      ∙ ap printing (list_refused (suc s.labels) b q given (list_inside K cutoff labels given) (omega (arith, room)))
      ∙ line 11 (suc s.labels) (with_list b q) room
      ∙ ap (λ (n : ℕ). refusal 11 (suc n)) (all_added K labels added)

  -- So `Prints` allows one text for each file.
  pub program_only : {text : List ℕ} → Prints file text → text ≡ unitigs file
  program_only (refusing why e) = e ∙ sym (refuses_so why)
  program_only (listing sound ok added given fits e met) = e ∙ sym (program_prints file sound ok added given fits).0

-- ---- the reason fixes the refusal's number and the record's

-- The two numbers, by the same cases: after the labels, and for a file.
list_numbers : ℕ → ℕ → List (List ℕ) → ℕ × ℕ
list_numbers K cutoff labels = elim (result K cutoff labels).answer [ gives t ↦ (11, suc (length labels)) | refuses r vs ↦ (r, suc (length labels)) ]

label_numbers : ℕ → ℕ → List (List ℕ) → ℕ × ℕ
label_numbers K cutoff labels =
    let s = table K labels in
    elim s.answer [ gives e ↦ list_numbers K cutoff labels | refuses r vs ↦ (r, suc s.labels) ]

numbers : List ℕ → ℕ × ℕ
numbers file = elim (file_of file) [ damaged i ↦ (13, i) | holds K cutoff labels ↦ cond (ok_k K) (label_numbers K cutoff labels) (1, 0) ]

refuses_numbers : {file : List ℕ} {r p : ℕ} → Refuses file r p → numbers file ≡ (r, p)
unfolding numbers label_numbers list_numbers
refuses_numbers (form e) = rw (e, numbers)
refuses_numbers (bad_k e bad) = rw (e, numbers, bad)
refuses_numbers (label e ok h) = rw (e, numbers, ok, h, label_numbers)
refuses_numbers (contraction e ok added h) = rw (e, numbers, ok, added, label_numbers, h, list_numbers)
refuses_numbers (exceeds e ok added given h) = rw (e, numbers, ok, added, label_numbers, given, list_numbers)

pub refuses_one : {file : List ℕ} {r p r' p' : ℕ} → Refuses file r p → Refuses file r' p' → (r ≡ r') × (p ≡ p')
refuses_one a b =
    let e = sym (refuses_numbers a) ∙ refuses_numbers b in (ap (λ (n : ℕ × ℕ). n.0) e, ap (λ (n : ℕ × ℕ). n.1) e)
