-- What the program `unitigs` lists of a file, for odd K, the program `judge` says yes to, and the answers of a panel
-- over it share no k-mer. Assumes nothing.
use mathlib.Core.Path.{◌≡◌, refl, ap, ◌∙◌}
use mathlib.Core.Bool.{true}
use mathlib.Core.List.{List, []}
use Prim.Native.Nat.{ℕ, suc, ◌%◌, ◌≤◌}
use lib.ListN.{length, replicate}
use Rattle.dna.specs.Text.{bytes, open_text}
use Rattle.dna.specs.Answer.{gives}
use Rattle.kmer.specs.Kmer.{ok_k}
use Rattle.state.specs.Counted.{four_bits}
use Rattle.label_index.specs.Entries.{listed}
use Rattle.graph.specs.Sightings.{same_canonical}
use Rattle.graph.specs.Adding.{Edges}
use Rattle.graph.specs.Several.{untried}
use Rattle.graph.specs.Contraction.{Totals}
use Rattle.graph.specs.Fasta.{records_of}
use Rattle.laws.specs.Grown.{Grown.fresh}
use Rattle.laws.proofs.Symmetry.{lawful_canonical}
use Rattle.rules.specs.Listing.{Lists}
use Rattle.rules.specs.Verdict.{yes}
use Rattle.rules.specs.Judging.{Judgement, judge}
use Rattle.rules.proofs.Growing.{own_labels}
use Rattle.rules.proofs.Listing.{one_list, records_listed}
use Rattle.rules.proofs.Judging.{contract_asked, own_fasta}
use Rattle.panel.specs.Panel.{panel}
use Rattle.panel.specs.Says.{Panels}
use Rattle.panel.specs.declared.PanelError.{PanelError}
use Rattle.panel.proofs.Says.{profile_odd}
use Rattle.panel.proofs.Outcomes.{answered_profile}
use Rattle.label_file.specs.LabelFile.{holds, file_of}
use Rattle.label_file.specs.Output.{Buffers, with_table, zeros, printing, unitigs}
use Rattle.label_file.specs.Judged.{judged_after, judge_all, judgement, few_zeros, judged}
use Rattle.demands.specs.Printed.{table, result, list}
use Rattle.demands.specs.Probes.{Unshared}
use Rattle.demands.proofs.Growing.{Grows, grows}
use Rattle.demands.proofs.Program.{program_prints}
use Rattle.demands.proofs.Panels.{answers_unshared}
use Rattle.std.specs.Prelude.{Result, Ok}

-- Yes is printed in a text that has room for it.
yes_printed : (p : ℕ) (b : Buffers) (j : Judgement) → b.text ≡ replicate 64 0 → j.answer ≡ gives yes
    → printing (judged_after p b j) ≡ bytes "yes\n"
unfolding open_text
yes_printed p b j t e = rw (t, e) refl

-- Where no label is refused, the program judges the list over the table.
judges : (file text : List ℕ) {K cutoff : ℕ} {labels : List (List ℕ)} → file_of file ≡ holds K cutoff labels → ok_k K ≡ true
    → {e : Edges} → (table K labels).answer ≡ gives e
    → (let s = table K labels in
    judgement few_zeros file text
    ≡ judged_after (suc s.labels) (with_table few_zeros s.keys s.counts)
    (judge four_bits K cutoff s.stored s.keys s.counts text zeros.marks))
unfolding judgement judge_all
judges file text sound supported added = rw (sound, judgement, supported, added, judge_all)

-- The labels of a file are added to no vertices.
file_grows : (K : ℕ) (labels : List (List ℕ))
    → Grows four_bits same_canonical K labels [] (untried 0 zeros.keys zeros.counts) (table K labels)
file_grows K labels =
    grows four_bits same_canonical K (untried 0 zeros.keys zeros.counts) labels [] (fresh zeros.keys zeros.counts)

pub programs_agree : (file : List ℕ) {K cutoff : ℕ} {labels : List (List ℕ)} → file_of file ≡ holds K cutoff labels → ok_k K ≡ true
    → K % 2 ≡ 1
    → {e : Edges} → (table K labels).answer ≡ gives e
    → {t : Totals} → (result K cutoff labels).answer ≡ gives t
    → length (records_of (list K cutoff labels t.labels)) ≤ 8192
    → judged file (unitigs file) ≡ bytes "yes\n"
programs_agree file {K} {cutoff} {labels} sound supported odd added {t} given fits =
    let s = table K labels in
    let g = (file_grows K labels).grown in
    let asked = contract_asked four_bits K cutoff s.stored s.keys s.counts zeros.labels zeros.starts
    zeros.lengths zeros.marks t given in
    let own = own_fasta (lawful_canonical K) (λ x o. o) g cutoff odd zeros.labels zeros.starts zeros.lengths
    zeros.marks t given zeros.marks asked.2 in
    ap (judged file) (program_prints file sound supported added given fits).0
    ∙ ap printing (judges file (records_of (list K cutoff labels t.labels)) sound supported added)
    ∙ yes_printed (suc s.labels) (with_table few_zeros s.keys s.counts)
    (judge four_bits K cutoff s.stored s.keys s.counts (records_of (list K cutoff labels t.labels)) zeros.marks) refl own

-- A call of `panel` that was answered, over any index that lists the labels which the program printed.
pub printed_unshared : (file : List ℕ) {K cutoff : ℕ} {labels : List (List ℕ)} → file_of file ≡ holds K cutoff labels
    → ok_k K ≡ true
    → {e : Edges} → (table K labels).answer ≡ gives e
    → {t : Totals} → (result K cutoff labels).answer ≡ gives t
    → length (records_of (list K cutoff labels t.labels)) ≤ 8192
    → (said L least most : ℕ) (bases starts lengths : List ℕ) (count : ℕ) (out : List ℕ)
    → Lists K (unitigs file) (listed count bases starts lengths)
    → {r : Result ℕ PanelError} {out' : List ℕ} → Panels r out' (panel K said L least most bases starts lengths count out)
    → {m : ℕ} → r ≡ Ok m → Unshared K L bases starts lengths count out'
printed_unshared file {K} {cutoff} {labels} sound supported added {t} given fits said L least most bases starts lengths
    count out held p answered =
    let odd = profile_odd K said L (answered_profile K said L least most bases starts lengths count out p answered) in
    let own = records_listed K (own_labels (file_grows K labels).grown cutoff odd zeros.labels zeros.starts
    zeros.lengths zeros.marks t given) in
    let printed = program_prints file sound supported added given fits in
    let same = one_list K {ms = list K cutoff labels t.labels} held (rw printed.0 own) in
    answers_unshared K said L least most bases starts lengths count out p answered
    (λ x. rw same (printed.1.every.never_twice x))
