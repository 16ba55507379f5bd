-- EachSighted counter of a grown table is the number of its sightings, up to its top. Assumes nothing.
use mathlib.Core.Path.{◌≡◌, refl, sym, ap, ◌∙◌, subst}
use mathlib.Core.Bool.{Bool, true, false, cond, ◌&&◌, ◌||◌}
use mathlib.Core.Logic.{⊎_elim}
use mathlib.Core.List.{List, [], ◌∷◌}
use Prim.Native.Nat.{ℕ, zero, suc, ◌+◌, ◌≤◌, ◌<◌, min}
use native.Mathlib.Omega.{arith}
use lib.Dec.{eqb}
use lib.ListN.{length, get_or}
use lib.Seq.{get_or-take}
use borrow.Author.Tests.{eqb-true, eqb-false, eq-eqb, ne_eqb}
use Rattle.lemmas.proofs.Tests.{never}
use Rattle.lemmas.proofs.Numbers.{true_or_false}
use Rattle.kmer.specs.Kmer.{canon}
use Rattle.state.specs.Counted.{Kind, top, count, raise}
use Rattle.state.proofs.Counters.{count_zero, raise_same, raise_other}
use Rattle.graph.specs.Table.{Table, table_of, keys_of, rank, stored, store, sight}
use Rattle.graph.specs.Sightings.{Sighting, Rule, window, windows, sightings}
use Rattle.graph.specs.Adding.{store_windows, sight_all, added}
use Rattle.graph.proofs.Rank.{stored_nil, stored_lt}
use Rattle.graph.proofs.Store.{Sound, store_counts, store_no_counts}
use Rattle.graph.proofs.Lookup.{rank_at, at_stored}
use Rattle.graph.proofs.Sight.{word_of, sight_keys, sight_sound, sight_own, sight_other}
use Rattle.graph.proofs.Adding.{Readable, windows_sound, store_or, windows_there}
use Rattle.graph.proofs.Accepted.{fit_sound, fit_length, accepted}
use Rattle.graph.proofs.Keys.{keys_length}
use Rattle.laws.proofs.Keys.{grown_fit}
use Rattle.laws.proofs.Sighted.{EachSighted, each_at, each_all}
use Rattle.laws.specs.Grown.{Grown, fresh, accepts, moves, times, sighted_in}

-- ---- a table whose counters are what h says

pub record Tells (κ : Kind) (t : Table) (h : ℕ → ℕ → ℕ) : Type 0 where
  pub tells : (x j : ℕ) → stored t.keys x ≡ true → count κ (word_of t x) j ≡ min (top κ) (h x j)
  pub none : (x j : ℕ) → stored t.keys x ≡ false → h x j ≡ 0

tells_same : {κ : Kind} {t : Table} (h g : ℕ → ℕ → ℕ) → ((x j : ℕ) → h x j ≡ g x j) → Tells κ t h → Tells κ t g
tells_same {κ} h g e v = record {
  tells = λ x j s. v.tells x j s ∙ ap (min (top κ)) (e x j);
  none = λ x j s. sym (e x j) ∙ v.none x j s;
}

module _ (κ : Kind) (K : ℕ) (t : Table) (h : ℕ → ℕ → ℕ) (sound : Sound K t) (v : Tells κ t h) (y : ℕ) where
  -- A k-mer that is stored has no counts yet, and none were said of it.
  store_tells : Tells κ (store t y) h
  store_tells = record { tells = at; none = λ x j s. v.none x j (absent x s) }
    where
      absent : (x : ℕ) → stored (store t y).keys x ≡ false → stored t.keys x ≡ false
      absent x s = ⊎_elim (λ r. never (stored (store t y).keys x) (store_or t y x ∙ rw r) s) (λ r. r) (true_or_false (stored t.keys x))

      at : (x j : ℕ) → stored (store t y).keys x ≡ true → count κ (word_of (store t y) x) j ≡ min (top κ) (h x j)
      at x j s = ⊎_elim
          (λ r. rw (store_counts t y sound.sizes x r) (v.tells x j r))
          (λ r.
          let own : eqb y x ≡ true = ap (λ (b : Bool). b || eqb y x) (sym r) ∙ sym (store_or t y x) ∙ s in
          let e : y ≡ x = eqb-true y x own in
          let z : word_of (store t y) y ≡ 0 = store_no_counts t y sound.sizes (rw e r) in
          let n : h x j ≡ 0 = v.none x j r in
          rw (← e, z, count_zero κ j) (let m : h y j ≡ 0 = rw e n in omega arith))
          (true_or_false (stored t.keys x))

  -- A counter that is raised is said once more.
  sight_tells : (i : ℕ) → stored t.keys y ≡ true → Tells κ (sight κ t y i) (λ x j. h x j + cond (eqb y x && eqb i j) 1 0)
  sight_tells i s = record { tells = at; none = away }
    where
      away : (x j : ℕ) → stored (sight κ t y i).keys x ≡ false → h x j + cond (eqb y x && eqb i j) 1 0 ≡ 0
      away x j r =
          let r₀ : stored t.keys x ≡ false = rw (sight_keys κ t y i) at r in
          let ne : eqb y x ≡ false = ne_eqb y x (λ e. never (stored t.keys x) (rw e at s) r₀) in
          rw ne (omega (arith, v.none x j r₀))

      raised : (j : ℕ) → count κ (raise κ (word_of t y) i) j ≡ min (top κ) (h y j + cond (eqb i j) 1 0)
      raised j = ⊎_elim
          (λ q.
          let e : i ≡ j = eqb-true i j q in
          let c : count κ (word_of t y) i ≡ min (top κ) (h y i) = v.tells y i s in
          rw (← e, eq-eqb i i refl, raise_same κ (word_of t y) i, c) (omega arith))
          (λ q.
          let ne = eqb-false i j q in
          rw (q, raise_other κ (word_of t y) i j (λ e. ne (sym e))) (v.tells y j s ∙ ap (min (top κ)) (omega arith)))
          (true_or_false (eqb i j))

      at : (x j : ℕ) → stored (sight κ t y i).keys x ≡ true
          → count κ (word_of (sight κ t y i) x) j ≡ min (top κ) (h x j + cond (eqb y x && eqb i j) 1 0)
      at x j r =
          let r₀ : stored t.keys x ≡ true = rw (sight_keys κ t y i) at r in
          ⊎_elim
          (λ q.
          let e : y ≡ x = eqb-true y x q in
          rw (← e, eq-eqb y y refl, sight_own κ t y i sound.sizes s) (raised j))
          (λ q.
          let ne = eqb-false y x q in
          rw (q, sight_other κ t y i sound.sizes s x r₀ ne) (v.tells x j r₀ ∙ ap (min (top κ)) (omega arith)))
          (true_or_false (eqb y x))

-- ---- a label added

module _ (κ : Kind) (K : ℕ) where
  windows_tell : (label : List ℕ) → Readable K label → (t : Table) (h : ℕ → ℕ → ℕ) → Sound K t → Tells κ t h
      → (m : ℕ) → m ≤ windows K label → Tells κ (store_windows K label t m) h
  unfolding store_windows
  windows_tell label r t h sound v zero l = v
  windows_tell label r t h sound v (suc m) l =
      store_tells κ K (store_windows K label t m) h (windows_sound K label r t sound m (omega arith))
      (windows_tell label r t h sound v m (omega arith)) (canon K (window K label m))

  all_tell : (ss : List Sighting) (t : Table) (h : ℕ → ℕ → ℕ) → Sound K t → Tells κ t h → EachSighted (λ x j. stored t.keys x ≡ true) ss
      → Tells κ (sight_all κ t ss) (λ x j. h x j + times ss x j)
  unfolding sight_all times
  all_tell [] t h sound v a = tells_same h (λ x j. h x j + 0) (λ x j. omega arith) v
  all_tell (s ∷ ss) t h sound v a =
      let u = sight κ t s.kmer s.slot in
      let hit : ℕ → ℕ → ℕ = λ x j. cond (eqb s.kmer x && eqb s.slot j) 1 0 in
      tells_same (λ x j. (h x j + hit x j) + times ss x j) (λ x j. h x j + (hit x j + times ss x j)) (λ x j. omega arith)
      (all_tell ss u (λ x j. h x j + hit x j) (sight_sound κ t s.kmer s.slot K sound)
      (sight_tells κ K t h sound v s.kmer s.slot a.0)
      (subst (λ (ks : List ℕ). EachSighted (λ x j. stored ks x ≡ true) ss) (sym (sight_keys κ t s.kmer s.slot)) a.1))

  added_tells : (rule : Rule) (label : List ℕ) → Readable K label → (t : Table) (h : ℕ → ℕ → ℕ) → Sound K t → Tells κ t h
      → Tells κ (added κ rule K label t) (λ x j. h x j + times (sightings rule K label (windows K label)) x j)
  unfolding added
  added_tells rule label r t h sound v =
      let m = windows K label in
      let u = store_windows K label t m in
      let there = windows_there K label t m in
      all_tell (sightings rule K label m) u h (windows_sound K label r t sound m (omega arith))
      (windows_tell label r t h sound v m (omega arith))
      (each_all (λ x j. stored u.keys x ≡ true) rule K label m
      (λ i l. each_at (λ x j. stored u.keys x ≡ true) rule K label i (λ _. there i l) (λ _. there i l)))

-- ---- a grown table

module _ {κ : Kind} {rule : Rule} {K : ℕ} where
  pub grown_tells : {ls : List (List ℕ)} {n : ℕ} {keys counts : List ℕ} → Grown κ rule K ls n keys counts
      → Tells κ (table_of n keys counts) (sighted_in rule K ls)
  unfolding keys_of sighted_in
  grown_tells (fresh keys counts) =
      record { tells = λ x j s. never (stored [] x) s (stored_nil x); none = λ x j s. refl }
  grown_tells (accepts {ls = ls} {n = n} {keys = keys} {counts = counts} g l e h) =
      let a = accepted κ rule K n keys counts l e h in
      subst (λ (t : Table). Tells κ t (sighted_in rule K (l ∷ ls))) (sym a.table)
      (added_tells κ K rule l a.reads (table_of n keys counts) (sighted_in rule K ls) (fit_sound K n keys counts a.fits) (grown_tells g))
  grown_tells (moves {ls = ls} g keys' counts' e) = subst (λ (t : Table). Tells κ t (sighted_in rule K ls)) (sym e) (grown_tells g)

  -- A counter of a stored k-mer is the number of its sightings in all labels, or the top if there are more.
  pub grown_counts : {ls : List (List ℕ)} {n : ℕ} {keys counts : List ℕ} → Grown κ rule K ls n keys counts
      → (x j : ℕ) → stored (keys_of n keys) x ≡ true
      → count κ (get_or counts (rank (keys_of n keys) x) 0) j ≡ min (top κ) (sighted_in rule K ls x j)
  grown_counts {n = n} {keys = keys} {counts = counts} g x j s =
      let l : rank (keys_of n keys) x < n = omega (arith, stored_lt (keys_of n keys) x s, keys_length n keys) in
      rw (← get_or-take n counts (rank (keys_of n keys) x) 0 l) ((grown_tells g).tells x j s)

  -- By vertices: the counters of vertex v are the sightings of its key.
  pub grown_counts_at : {ls : List (List ℕ)} {n : ℕ} {keys counts : List ℕ} → Grown κ rule K ls n keys counts
      → (v j : ℕ) → v < n → count κ (get_or counts v 0) j ≡ min (top κ) (sighted_in rule K ls (get_or (keys_of n keys) v 0) j)
  grown_counts_at {n = n} {keys = keys} {counts = counts} g v j h =
      let f = grown_fit g in
      let fits = (fit_sound K n keys counts f).fits in
      let l : v < length (keys_of n keys) = omega (arith, fit_length K n keys counts f) in
      let r : rank (keys_of n keys) (get_or (keys_of n keys) v 0) ≡ v = rank_at K 0 (keys_of n keys) fits v l in
      rw r at (grown_counts g (get_or (keys_of n keys) v 0) j (at_stored K (keys_of n keys) fits v l))
