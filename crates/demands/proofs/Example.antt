-- Runs that meet what the theorems ask, computed: a table by one call, one moved to larger slices and contracted, one through C, two from opposite
-- strands, two of different kinds, one whose list is judged; and files that the program refuses. Assumes nothing.
use Prim.Native.Nat.{ℕ}
use mathlib.Core.Path.{◌≡◌, refl}
use mathlib.Core.Logic.{inl}
use mathlib.Core.Bool.{true}
use mathlib.Core.List.{List, [], ◌∷◌, ◌++◌}
use native.Mathlib.Omega.{arith}
use lib.ListN.{get_or, replicate}
use Rattle.dna.specs.Text.{bytes, open_text}
use Rattle.dna.specs.Letters.{open_letters}
use Rattle.dna.specs.Order.{open_order}
use Rattle.dna.specs.Answer.{refuses}
use Rattle.kmer.specs.Kmer.{open_kmer}
use Rattle.state.specs.Counted.{four_bits, presence, open_counted}
use Rattle.state.specs.declared.EdgeKind.TheVariants.{Counted, Presence}
use Rattle.label_index.specs.Entries.{listed, open_entries}
use Rattle.graph.specs.Table.{table_of, keys_of, open_table}
use Rattle.graph.specs.Sightings.{same_canonical, open_sightings}
use Rattle.graph.specs.Adding.{add_label, open_adding}
use Rattle.graph.specs.Several.{open_several}
use Rattle.graph.specs.Walks.{isolated, open_walks}
use Rattle.graph.specs.Labels.{open_labels}
use Rattle.graph.specs.Contraction.{ends_in, contract, open_contraction}
use Rattle.graph.specs.Fasta.{fasta, open_fasta}
use Rattle.adding.specs.declared.Mode.TheVariants.{SameCanonical, Reversed}
use Rattle.contraction.specs.Says.{Contracts}
use Rattle.fasta.specs.Says.{Lists}
use Rattle.rules.specs.Listing.{open_listing}
use Rattle.rules.specs.Verdict.{open_verdict}
use Rattle.rules.specs.Judging.{judge, open_judging}
use Rattle.judging.specs.Answers.{Judges}
use Rattle.capi.specs.Says.{noted}
use Rattle.label_file.specs.LabelFile.{open_label_file}
use Rattle.laws.specs.Windows.{occurrences, open_windows}
use Rattle.laws.specs.Demand.{OneBase, Demand3, open_demand}
use Rattle.laws.specs.Strands.{EitherStrand.turned, Turned, Turned.none, Turned.more}
use Rattle.demands.specs.Calls.{Called, Called.fresh, Called.adds, Called.adds_many, Called.moves, Given, Given.none, Given.next}
use Rattle.demands.specs.Printed.{Refuses, Refuses.form, Refuses.bad_k, Refuses.label}
use Rattle.demands.proofs.Meets.{call_isolated}
use Rattle.demands.proofs.Strands.{runs_strands}
use Rattle.demands.proofs.Judged.{call_judged}
use Rattle.demands.proofs.ThroughC.{c_called, c_refused, c_called_many, c_meets}
use Rattle.std.specs.Prelude.{Option, None, Result, Ok, Err}
use Rattle.adding.specs.declared.Addition.{Addition}
use Rattle.judging.specs.declared.Broken.{Broken}
use Rattle.judging.specs.declared.JudgeError.{JudgeError}
use Rattle.adding.specs.declared.AddError.{AddError}
use Rattle.adding.specs.declared.AddError.TheVariants.{InvalidBase}

-- A label added, with so many edges and so many vertices stored afterwards; and one with N at place 3.
abbrev pub added : ℕ → ℕ → Result Addition AddError
added edges stored = Ok (record { edges = edges; stored = stored })

abbrev pub no_base : Result Addition AddError
no_base = Err (InvalidBase 3 78)

-- P4's labels, CAT and ATG, by one call of `add_labels`.
pub p4_called : Called Counted SameCanonical 2 (bytes "ATG" ∷ bytes "CAT" ∷ []) 2 (3 ∷ 0 ∷ 4 ∷ 0 ∷ []) (0x01000010 ∷ 0x20000000 ∷ [])
unfolding open_text open_letters open_kmer open_counted open_table open_sightings open_adding open_entries open_several
p4_called =
    adds_many (fresh (9 ∷ 9 ∷ 9 ∷ 9 ∷ []) (7 ∷ 7 ∷ [])) (bytes "CATATG") (0 ∷ 3 ∷ []) (3 ∷ 3 ∷ []) 2 {r = Ok (record { labels = 2; stored = 2; last = added 1 2 })}
    (record { says = (refl, refl, refl); keys_after = refl; counts_after = refl })

-- P1's label in room for two vertices, where AAA is refused with 6; copied to room for three, and AAA added there.
pub p1_full : (add_label four_bits same_canonical 3 2 (5 ∷ 0 ∷ 21 ∷ 0 ∷ []) (0x00100000 ∷ 0x00100001 ∷ []) (bytes "AAA")).answer ≡ refuses 6 []
unfolding open_text open_letters open_kmer open_counted open_table open_sightings open_adding
p1_full = refl

pub p1_moved : Called Counted SameCanonical 3 (bytes "AAA" ∷ bytes "ACCCC" ∷ []) 3 (0 ∷ 0 ∷ 5 ∷ 0 ∷ 21 ∷ 0 ∷ []) (0 ∷ 0x00100000 ∷ 0x00100001 ∷ [])
unfolding open_text open_letters open_kmer open_counted open_table open_sightings open_adding open_entries open_several
p1_moved =
    adds
    (moves
    (adds (fresh (9 ∷ 9 ∷ 9 ∷ 9 ∷ []) (7 ∷ 7 ∷ [])) (bytes "ACCCC") {r = added 2 2} (record { answer = refl; keys_after = refl; counts_after = refl }) refl)
    (5 ∷ 0 ∷ 21 ∷ 0 ∷ 8 ∷ 8 ∷ []) (0x00100000 ∷ 0x00100001 ∷ 6 ∷ []) refl)
    (bytes "AAA") {r = added 0 3} (record { answer = refl; keys_after = refl; counts_after = refl }) refl

-- ---- that table contracted, in room for n times K bases and n entries

abbrev keys : List ℕ
keys = 0 ∷ 0 ∷ 5 ∷ 0 ∷ 21 ∷ 0 ∷ []

abbrev counts : List ℕ
counts = 0 ∷ 0x00100000 ∷ 0x00100001 ∷ []

abbrev zeros : ℕ → List ℕ
zeros n = replicate n 0

pub p1_contracted : Contracts (Ok (record { labels = 1; bases = 4 })) (bytes "ACCC" ++ zeros 5) (zeros 3) (4 ∷ 0 ∷ 0 ∷ []) (0 ∷ 1 ∷ 1 ∷ [])
    (contract four_bits 3 1 3 keys counts (zeros 9) (zeros 3) (zeros 3) (zeros 3))
unfolding open_text open_letters open_order open_kmer open_counted open_table open_walks open_labels open_contraction
p1_contracted = record { answer = refl; labels_after = refl; starts_after = refl; lengths_after = refl; marks_after = refl }

-- AAA is isolated, so that it stands in no label.
p1_isolated : isolated (ends_in four_bits 1 (table_of 3 keys counts)) 0 ≡ true
unfolding open_kmer open_counted open_table open_walks open_contraction
p1_isolated = refl

pub p1_absent : occurrences 3 (get_or (keys_of 3 keys) 0 0) (listed 1 (bytes "ACCC" ++ zeros 5) (zeros 3) (4 ∷ 0 ∷ 0 ∷ [])) ≡ 0
p1_absent =
    call_isolated Counted 3 1 3 keys counts (zeros 9) (zeros 3) (zeros 3) (zeros 3) p1_contracted refl p1_moved (inl refl) 0 (omega arith) p1_isolated

-- ---- through C

abbrev keys₂ : List ℕ
keys₂ = 5 ∷ 0 ∷ 21 ∷ 0 ∷ []

abbrev counts₂ : List ℕ
counts₂ = 0x00100000 ∷ 0x00100001 ∷ []

-- The figures are the edges and the number stored; a third cell stays as it was.
pub p1_through_c : Called Counted SameCanonical 3 (bytes "ACCCC" ∷ []) 2 keys₂ counts₂
unfolding open_text open_letters open_kmer open_counted open_table open_sightings open_adding noted
p1_through_c =
    c_called 0 0 3 0 (9 ∷ 9 ∷ 9 ∷ 9 ∷ []) (7 ∷ 7 ∷ []) (bytes "ACCCC") {r = 0} {figures₀ = 8 ∷ 8 ∷ 8 ∷ []} {figures' = 2 ∷ 2 ∷ 8 ∷ []}
    (record { number = refl; figures_after = refl; keys_after = refl; counts_after = refl }) (fresh (9 ∷ 9 ∷ 9 ∷ 9 ∷ []) (7 ∷ 7 ∷ [])) refl
    (omega arith)

-- ACCN is then refused with 3, and the table is as it was.
pub p1_refused_through_c : Called Counted SameCanonical 3 (bytes "ACCCC" ∷ []) 2 keys₂ counts₂
unfolding open_text open_letters open_kmer open_counted open_table open_sightings open_adding noted
p1_refused_through_c =
    c_refused 0 0 3 2 keys₂ counts₂ (bytes "ACCN") {r = 3} {figures₀ = zeros 2} {figures' = 3 ∷ 78 ∷ []}
    (record { number = refl; figures_after = refl; keys_after = refl; counts_after = refl }) p1_through_c (λ e. omega arith)

-- P4's labels by one call.
pub p4_through_c : Called Counted SameCanonical 2 (bytes "ATG" ∷ bytes "CAT" ∷ []) 2 (3 ∷ 0 ∷ 4 ∷ 0 ∷ []) (0x01000010 ∷ 0x20000000 ∷ [])
unfolding open_text open_letters open_kmer open_counted open_table open_sightings open_adding open_entries open_several noted
p4_through_c =
    c_called_many 0 0 2 0 (9 ∷ 9 ∷ 9 ∷ 9 ∷ []) (7 ∷ 7 ∷ []) (bytes "CATATG") (0 ∷ 3 ∷ []) (3 ∷ 3 ∷ []) 2 {r = 0} {totals₀ = zeros 2} {totals' = 2 ∷ 2 ∷ []}
    {figures₀ = []} {figures' = []}
    (record { number = refl; totals_after = refl; figures_after = refl; keys_after = refl; counts_after = refl })
    (fresh (9 ∷ 9 ∷ 9 ∷ 9 ∷ []) (7 ∷ 7 ∷ [])) (omega arith)

pub p1_met_through_c : Demand3 3 (keys_of 2 keys₂) (ends_in four_bits 1 (table_of 2 keys₂ counts₂)) (OneBase 3)
    (listed 1 (bytes "ACCC" ++ zeros 2) (zeros 2) (4 ∷ 0 ∷ []))
unfolding open_text open_letters open_order open_kmer open_counted open_table open_walks open_labels open_contraction noted
p1_met_through_c =
    c_meets 0 3 1 2 keys₂ counts₂ (zeros 6) (zeros 2) (zeros 2) (zeros 2) {r = 0} {marks' = 1 ∷ 1 ∷ []} {figures₀ = zeros 2} {figures' = 1 ∷ 4 ∷ []}
    (record {
      number = refl;
      figures_after = refl;
      labels_after = refl;
      starts_after = refl;
      lengths_after = refl;
      marks_after = refl;
    }) p1_through_c refl (omega arith)

-- ---- in the mode of document 02

abbrev loops : List ℕ
loops = 0x00100000 ∷ 0x00100011 ∷ []

pub loop_called : Called Counted Reversed 3 (bytes "ACCCC" ∷ []) 2 keys₂ loops
unfolding open_text open_letters open_kmer open_counted open_table open_sightings open_adding
loop_called =
    adds (fresh (9 ∷ 9 ∷ 9 ∷ 9 ∷ []) (7 ∷ 7 ∷ [])) (bytes "ACCCC") {r = added 2 2} (record { answer = refl; keys_after = refl; counts_after = refl })
    refl

-- Through C, where 7 names it too: the other strand, in small letters and with U, to slices with room for a third vertex.
pub loop_through_c : Called Counted Reversed 3 (bytes "ggggu" ∷ []) 2 (5 ∷ 0 ∷ 21 ∷ 0 ∷ 9 ∷ 9 ∷ []) (0x00100000 ∷ 0x00100011 ∷ 7 ∷ [])
unfolding open_text open_letters open_kmer open_counted open_table open_sightings open_adding noted
loop_through_c =
    c_called 0 7 3 0 (9 ∷ 9 ∷ 9 ∷ 9 ∷ 9 ∷ 9 ∷ []) (7 ∷ 7 ∷ 7 ∷ []) (bytes "ggggu") {r = 0} {figures₀ = zeros 2} {figures' = 2 ∷ 2 ∷ []}
    (record { number = refl; figures_after = refl; keys_after = refl; counts_after = refl })
    (fresh (9 ∷ 9 ∷ 9 ∷ 9 ∷ 9 ∷ 9 ∷ []) (7 ∷ 7 ∷ 7 ∷ [])) refl (omega arith)

loop_turned : Turned (bytes "ACCCC" ∷ []) (bytes "ggggu" ∷ [])
unfolding open_text open_letters
loop_turned = more (turned refl) none

pub loop_one_table : table_of 2 (5 ∷ 0 ∷ 21 ∷ 0 ∷ 9 ∷ 9 ∷ []) (0x00100000 ∷ 0x00100011 ∷ 7 ∷ []) ≡ table_of 2 keys₂ loops
loop_one_table = (runs_strands Counted 3 refl loop_called loop_through_c loop_turned).1

-- ---- presence bits

abbrev bits₂ : List ℕ
bits₂ = 0x100 ∷ 0x108 ∷ []

-- ACCN is refused and ACCCC added, with counts and with presence bits.
pub counts_given : Given Counted SameCanonical 3 (9 ∷ 9 ∷ 9 ∷ 9 ∷ []) (7 ∷ 7 ∷ []) (bytes "ACCCC" ∷ bytes "ACCN" ∷ []) (added 2 2 ∷ no_base ∷ [])
    2 keys₂ counts₂
unfolding open_text open_letters open_kmer open_counted open_table open_sightings open_adding
counts_given =
    next (next none (bytes "ACCN") {r = no_base} (record { answer = refl; keys_after = refl; counts_after = refl }))
    (bytes "ACCCC") {r = added 2 2} (record { answer = refl; keys_after = refl; counts_after = refl })

pub presence_given : Given Presence SameCanonical 3 (9 ∷ 9 ∷ 9 ∷ 9 ∷ []) (7 ∷ 7 ∷ []) (bytes "ACCCC" ∷ bytes "ACCN" ∷ []) (added 2 2 ∷ no_base ∷ [])
    2 keys₂ bits₂
unfolding open_text open_letters open_kmer open_counted open_table open_sightings open_adding
presence_given =
    next (next none (bytes "ACCN") {r = no_base} (record { answer = refl; keys_after = refl; counts_after = refl }))
    (bytes "ACCCC") {r = added 2 2} (record { answer = refl; keys_after = refl; counts_after = refl })

-- Through C, where 7 names them too.
pub presence_through_c : Called Presence SameCanonical 3 (bytes "ACCCC" ∷ []) 2 keys₂ bits₂
unfolding open_text open_letters open_kmer open_counted open_table open_sightings open_adding noted
presence_through_c =
    c_called 7 0 3 0 (9 ∷ 9 ∷ 9 ∷ 9 ∷ []) (7 ∷ 7 ∷ []) (bytes "ACCCC") {r = 0} {figures₀ = zeros 2} {figures' = 2 ∷ 2 ∷ []}
    (record { number = refl; figures_after = refl; keys_after = refl; counts_after = refl }) (fresh (9 ∷ 9 ∷ 9 ∷ 9 ∷ []) (7 ∷ 7 ∷ [])) refl
    (omega arith)

pub presence_met_through_c : Demand3 3 (keys_of 2 keys₂) (ends_in presence 1 (table_of 2 keys₂ bits₂)) (OneBase 3)
    (listed 1 (bytes "ACCC" ++ zeros 2) (zeros 2) (4 ∷ 0 ∷ []))
unfolding open_text open_letters open_order open_kmer open_counted open_table open_walks open_labels open_contraction noted
presence_met_through_c =
    c_meets 7 3 1 2 keys₂ bits₂ (zeros 6) (zeros 2) (zeros 2) (zeros 2) {r = 0} {marks' = 1 ∷ 1 ∷ []} {figures₀ = zeros 2} {figures' = 1 ∷ 4 ∷ []}
    (record {
      number = refl;
      figures_after = refl;
      labels_after = refl;
      starts_after = refl;
      lengths_after = refl;
      marks_after = refl;
    }) presence_through_c refl (omega arith)

-- ---- a list judged

-- The list of that table as FASTA, judged: all that `call_judged` asks is met.
p1_written : Lists (Ok 8) (bytes ">0\nACCC\n" ++ zeros 1) (fasta (bytes "ACCC" ++ zeros 5) (zeros 3) (4 ∷ 0 ∷ 0 ∷ []) 1 (zeros 9))
unfolding open_text open_entries open_fasta
p1_written = record { answer = refl; slice = refl }

p1_judging : Judges (Ok None) (zeros 3 ++ (7 ∷ [])) (judge four_bits 3 1 3 keys counts (bytes ">0\nACCC\n") (7 ∷ 7 ∷ 7 ∷ 7 ∷ []))
unfolding open_text open_letters open_order open_kmer open_counted open_table open_walks open_contraction open_windows open_demand open_listing open_verdict open_judging
p1_judging = record { answer = refl; marks_after = refl }

pub p1_judged : ◌≡◌ {A = Result (Option Broken) JudgeError} (Ok None) (Ok None)
unfolding open_text
p1_judged = call_judged p1_moved refl 1 (zeros 9) (zeros 3) (zeros 3) (zeros 3) p1_contracted refl (zeros 9) p1_written refl (7 ∷ 7 ∷ 7 ∷ 7 ∷ []) (omega arith) p1_judging

-- ---- files that are refused

-- An empty file; K of 0; a letter that is no base in the first label.
pub refused_form : Refuses [] 13 0
unfolding open_label_file
refused_form = form refl

pub refused_k : Refuses (bytes "KC" ++ (0 ∷ 1 ∷ 0 ∷ 0 ∷ 0 ∷ [])) 1 0
unfolding open_text open_label_file
refused_k = bad_k refl refl

pub refused_label : Refuses (bytes "KC" ++ (3 ∷ 1 ∷ 0 ∷ 0 ∷ 0 ∷ []) ++ bytes "LB" ++ (4 ∷ 0 ∷ []) ++ bytes "ACCN") 3 1
unfolding open_text open_label_file open_letters open_kmer open_counted open_table open_sightings open_adding open_several
refused_label = label refl refl refl
