-- How the contraction of a fit table ends: the refusals 8 and 9, and the labels written. Assumes nothing.
use mathlib.Core.Path.{◌≡◌, refl, sym, ap, ap₂, ◌∙◌}
use mathlib.Core.Bool.{Bool, true, false, ◌||◌}
use mathlib.Core.List.{List, map}
use Prim.Native.Nat.{ℕ, ◌≤◌}
use native.Mathlib.Omega.{arith}
use lib.Dec.{ltb}
use Rattle.std.specs.Prelude.{Ok, Err}
use lib.ListN.{length, take, replicate, length-replicate}
use borrow.Author.Tests.{ltb-false}
use Rattle.lemmas.proofs.Tests.{or_first, or_second}
use Rattle.dna.specs.Text.{over}
use Rattle.dna.specs.Answer.{gives}
use Rattle.state.specs.Counted.{Kind}
use Rattle.graph.specs.Table.{keys_of, table_of}
use Rattle.graph.specs.Labels.{Run, run}
use Rattle.graph.specs.Contraction.{entries, sorted, end_to_end, ends_in, written, finish}
use Rattle.marks.specs.Marks.{mark_of, visits}
use Rattle.contraction.specs.Over.{run_in}
use Rattle.contraction.specs.Says.{Contracts, Surveys, Roomy, Lists, finish_in}
use Rattle.contraction.specs.Trail.{trail_in, Trails}
use Rattle.contraction.specs.declared.ContractError.TheVariants.{MissingVertex, NoRoom}
use Rattle.dna.proofs.Overwriting.{over_all}
use Rattle.contraction.proofs.Digested.{run_is}
use Rattle.marks.proofs.Marking.{ends_length}
use Rattle.marks.specs.Ready.{FitTable, Ready}
use Rattle.marks.proofs.Made.{ready}
use Rattle.marks.proofs.Still.{ready_still}
use Rattle.contraction.proofs.Trailing.{run_same, trails_over}

-- The marks are those that the table's words give, and all walks were followed over them.
module _ (κ : Kind) (K cutoff : ℕ) (keys counts labels starts lengths ms₀ : List ℕ)
    (t : FitTable K keys counts ms₀) {ms : List ℕ}
    (d : ms ≡ over (map (mark_of κ cutoff) (take (length ms₀) counts)) ms₀) where
  abbrev all : Run
  all = run K (keys_of (length ms₀) keys) (ends_in κ cutoff (table_of (length ms₀) keys counts)) (length ms₀)

  same : run_in K keys ms (length ms) ≡ all
  same = run_is κ K cutoff keys counts ms₀ t d

  zeros : (after : List ℕ) {marks : List ℕ} → marks ≡ replicate (length after) 0 → length after ≡ length ms₀
      → marks ≡ over (replicate (length ms₀) 0) ms₀
  zeros after e l =
      e ∙ ap (λ (n : ℕ). replicate n 0) l
      ∙ sym (over_all (replicate (length ms₀) 0) ms₀ (length-replicate {A = ℕ} (length ms₀) 0))

  pub missing_vertex : (run_in K keys ms (length ms)).missed ≡ true → (after : List ℕ) {marks : List ℕ}
      → marks ≡ replicate (length after) 0
      → length after ≡ length ms₀
      → Contracts (Err MissingVertex) labels starts lengths marks
      (finish_in κ K cutoff (length ms₀) keys counts labels starts lengths ms₀)
  unfolding finish
  missing_vertex h after e l =
      let m : all.missed ≡ true = sym (ap (λ (r : Run). r.missed) same) ∙ h in
      rw m (record {
        answer = refl;
        labels_after = refl;
        starts_after = refl;
        lengths_after = refl;
        marks_after = zeros after e l;
      })

  module _ {number bases : ℕ} {after : List ℕ} (s : Surveys K keys ms (length ms) number bases after) where
    found : all.missed ≡ false
    found = sym (ap (λ (r : Run). r.missed) same) ∙ s.missed

    number_is : length all.labels ≡ number
    number_is = sym (s.number ∙ ap (λ (r : Run). length r.labels) same)

    bases_is : length (end_to_end all.labels) ≡ bases
    bases_is = sym (s.total ∙ ap (λ (r : Run). length (end_to_end r.labels)) same)

    abbrev lacking : Bool
    lacking = ltb (length labels) bases || ltb (length starts) number || ltb (length lengths) number

    lacking_is : (ltb (length labels) (length (end_to_end all.labels)) || ltb (length starts) (length all.labels)
        || ltb (length lengths) (length all.labels)) ≡ lacking
    lacking_is = rw (bases_is, number_is)

    pub no_room : {short : Bool} → short ≡ lacking → short ≡ true → {marks : List ℕ}
        → marks ≡ replicate (length after) 0
        → length after ≡ length ms₀
        → Contracts (Err NoRoom) labels starts lengths marks
        (finish_in κ K cutoff (length ms₀) keys counts labels starts lengths ms₀)
    unfolding finish
    no_room q k e l =
        rw (found, lacking_is, ← q, k)
        (record {
          answer = refl;
          labels_after = refl;
          starts_after = refl;
          lengths_after = refl;
          marks_after = zeros after e l;
        })

    module _ {short : Bool} (q : short ≡ lacking) (k : short ≡ false) where
      room : Roomy K keys ms (length labels) (length starts) (length lengths)
      room =
          let few_bytes : Bool = ltb (length labels) bases in
          let few_starts : Bool = ltb (length starts) number in
          let few_lengths : Bool = ltb (length lengths) number in
          let l = or_first (few_bytes || few_starts) few_lengths (sym q ∙ k) in
          record {
            bases_fit = omega (arith, ltb-false (length labels) bases (or_first few_bytes few_starts l), s.total);
            starts_fit = omega (arith, ltb-false (length starts) number (or_second few_bytes few_starts l), s.number);
            lengths_fit = omega (
              arith,
              ltb-false (length lengths) number
                  (or_second (few_bytes || few_starts) few_lengths (sym q ∙ k)),
              s.number,
            );
          }

      -- The walks have left the ends as they were.
      run_after : run_in K keys after (length after) ≡ run_in K keys ms (length ms)
      run_after = run_same K keys ms after s.ends_kept (length after)
          ∙ ap (run_in K keys ms) (ends_length ms after s.ends_kept)

      pub writable : (slice : List ℕ) → 131072 ≤ length slice → {trail : List ℕ}
          → trail ≡ over (trail_in K keys ms (length ms)) slice
          → Ready K keys after × Trails K keys after trail
          × Roomy K keys after (length labels) (length starts) (length lengths)
      writable slice w e =
          let r = ready κ K cutoff keys counts ms₀ t d in (
            ready_still r s.ends_kept,
            trails_over r s.ends_kept slice (omega (arith, r.few)) e,
            record {
              bases_fit = rw run_after room.bases_fit;
              starts_fit = rw run_after room.starts_fit;
              lengths_fit = rw run_after room.lengths_fit;
            },
          )

      pub contracted : {marks labels' starts' lengths' : List ℕ}
          → (marks ≡ visits after)
          × Lists (run_in K keys after (length after)) (sorted (entries 0 (run_in K keys after (length after)).labels))
          labels labels' starts starts' lengths lengths'
          → length marks ≡ length ms₀
          → Contracts (Ok (record { labels = number; bases = bases })) labels' starts' lengths' marks
          (finish_in κ K cutoff (length ms₀) keys counts labels starts lengths ms₀)
      unfolding finish written
      contracted {marks = marks} w₀ l =
          let w = rw (run_after ∙ same) at w₀ in
          let m : marks ≡ all.marks = w.0 ∙ s.visits_after ∙ ap (λ (r : Run). r.marks) same in
          rw (found, lacking_is, ← q, k)
          (record {
            answer = ap₂ (λ (n b : ℕ). gives (record { labels = n; bases = b })) (sym number_is) (sym bases_is);
            labels_after = w.1.letters;
            starts_after = w.1.starts_after;
            lengths_after = w.1.lengths_after;
            marks_after = m ∙ sym (over_all all.marks ms₀ (sym (ap length m) ∙ l));
          })
