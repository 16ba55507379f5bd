-- How adding a label of bases ends: the new vertices have no room, or they are put in. Assumes nothing.
use mathlib.Core.Path.{◌≡◌, refl, sym, ap, ◌∙◌}
use mathlib.Core.Bool.{true, false}
use mathlib.Core.Logic.{inr}
use mathlib.Core.List.{List, []}
use Prim.Native.Nat.{ℕ, ◌+◌, ◌-◌, ◌/◌, ◌≤◌, ◌<◌}
use native.Mathlib.Omega.{arith}
use lib.ListN.{length, drop}
use lib.Dec.{ltb, leb}
use lib.Seq.{drop-drop}
use borrow.Author.Tests.{lt-ltb, le-ltb, le-leb}
use Rattle.std.specs.Prelude.{Result, Ok, Err}
use Rattle.dna.specs.Answer.{gives}
use Rattle.dna.specs.Text.{over}
use Rattle.state.specs.Counted.{Kind}
use Rattle.graph.specs.Table.{Table, table_of, keys_of, words_of, capacity}
use Rattle.graph.specs.Sightings.{Rule, windows}
use Rattle.graph.specs.Adding.{Added, added, add_bases}
use Rattle.graph.proofs.Keys.{keys_length}
use Rattle.graph.proofs.Adding.{added_sound}
use Rattle.graph.proofs.Accepted.{fit_length, fit_sound}
use Rattle.table.specs.Join.{join_call, Joining, Joins}
use Rattle.table.specs.declared.JoinError.{JoinError}
use Rattle.adding.specs.Batch.{sorted_new, Grouped, Raised}
use Rattle.adding.specs.Says.{Addable, Adds}
use Rattle.adding.specs.declared.AddError.TheVariants as add
use Rattle.adding.proofs.Batch.{batch, batch_number, batch_few}

module _ {κ : Kind} {rule : Rule} {K : ℕ} {label : List ℕ} {n : ℕ} {keys counts : List ℕ}
    (a : Addable K label n keys counts)
    {u : ℕ} {new-keys new-places new-counts : List ℕ}
    (g : Grouped κ rule K label (keys_of n keys) (sorted_new K label (keys_of n keys)) u new-keys new-places new-counts) where
  abbrev whole : Added
  whole = add_bases κ rule K n keys counts label []

  abbrev after : Table
  after = added κ rule K label (table_of n keys counts)

  number : length after.keys ≡ n + u
  number = batch_number a g

  pub adds_full : capacity keys counts < n + u → Adds (Err add.Full) keys counts whole
  unfolding add_bases
  adds_full h =
      let l : ltb (capacity keys counts) (length after.keys) ≡ true =
      lt-ltb (capacity keys counts) (length after.keys) (rw number h) in
      rw l (record { answer = refl; keys_after = refl; counts_after = refl })

  module _ (room : n + u ≤ capacity keys counts) (room_places : windows K label ≤ length new-places)
      (room_counts : windows K label ≤ length new-counts) {m : ℕ} (all : m ≡ windows K label)
      {counts' : List ℕ} (r : Raised κ rule K label (keys_of n keys) m counts counts')
      {j : Result ℕ JoinError} {keys'' counts'' : List ℕ}
      (e : Joins j keys'' counts'' (join_call n keys counts' u new-places new-keys new-counts)) where
    -- Nothing past the stored vertices' counters was changed.
    same_rest : drop (length after.counts) counts' ≡ drop (length after.counts) counts
    same_rest =
        let s : length after.counts ≡ length (keys_of n keys) + u =
        (added_sound κ rule K label (table_of n keys counts) (inr a.given.bases) (fit_sound K n keys counts a.fits)).sizes
        ∙ number ∙ ap (λ (i : ℕ). i + u) (sym (fit_length K n keys counts a.fits)) in
        rw (s, ← drop-drop u (length (keys_of n keys)) counts', ← drop-drop u (length (keys_of n keys)) counts, r.rest)

    done : join_call n keys counts' u new-places new-keys new-counts
        ≡ record { answer = Ok (n + u); keys = over (words_of after.keys) keys; counts = over after.counts counts }
    done =
        let few = batch_few a g in
        let places_there : u ≤ length new-places = omega arith in
        let b = batch a g places_there (omega arith) (rw all at r) in
        let there : u ≤ length new-keys / 2 = omega (arith, keys_length u new-keys, g.number) in
        let most : u ≤ 65536 = omega arith in
        let p : leb u (capacity new-keys new-counts) ≡ true = le-leb u (capacity new-keys new-counts) (omega arith) in
        let f : ltb (capacity keys counts') (n + u) ≡ false = le-ltb (capacity keys counts') (n + u) (rw r.long room) in
        rw (p, le-leb u (length new-places) places_there, b.rises, f, ← b.keys_in, ← b.counts_in, same_rest)

    -- They are put in.
    put : j ≡ Ok (n + u)
    put = e.answer ∙ ap (λ (x : Joining). x.answer) done

    pub not_refused : {x : JoinError} → j ≡ Err x → ⊥
    not_refused q = let z : Ok (n + u) ≡ Err _ = sym put ∙ q in cc

    pub adds_joined : {stored : ℕ} → j ≡ Ok stored
        → Adds (Ok (record { edges = length label - K; stored = stored })) keys'' counts'' whole
    unfolding add_bases
    adds_joined {stored} q =
        let c : ltb (capacity keys counts) (length after.keys) ≡ false =
        le-ltb (capacity keys counts) (length after.keys) (rw number room) in
        let same : stored ≡ n + u = let z : Ok stored ≡ Ok (n + u) = sym q ∙ put in cc in
        rw c
        (record {
          answer = ap (λ (i : ℕ). gives (record { edges = length label - K; stored = i })) (same ∙ sym number);
          keys_after = e.keys_after ∙ ap (λ (x : Joining). x.keys) done;
          counts_after = e.counts_after ∙ ap (λ (x : Joining). x.counts) done;
        })
