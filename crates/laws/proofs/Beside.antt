-- Adding to tables of two kinds: the same labels are refused, by the same numbers, and the keys stay the same. Assumes nothing.
use mathlib.Core.Path.{◌≡◌, refl, sym, ap, ap₂, ◌∙◌, subst}
use mathlib.Core.Bool.{Bool, true, false, cond, not}
use mathlib.Core.List.{List, [], ◌∷◌}
use Prim.Native.Nat.{ℕ, zero, suc, ◌-◌, ◌/◌, ◌≤◌, min}
use lib.Dec.{ltb}
use lib.ListN.{length}
use Rattle.dna.specs.Text.{over}
use Rattle.dna.specs.Answer.{Answer, gives, refuses}
use Rattle.dna.specs.Letters.{first_bad}
use Rattle.dna.proofs.Answers.{either}
use Rattle.kmer.specs.Kmer.{ok_k, canon}
use Rattle.state.specs.Counted.{Kind, top, answers_for}
use Rattle.label_index.specs.Entries.{listed, within}
use Rattle.graph.specs.Table.{Table, table_of, words_of, capacity, fit_for, stored, rank, insert_at, store}
use Rattle.graph.specs.Sightings.{Rule, window, windows}
use Rattle.graph.specs.Adding.{Edges, Added, stored_after, store_windows, added, unchanged, changed, add_bases, add_label}
use Rattle.graph.specs.Several.{Several, untried, add_next, add_each, add_labels}
use Rattle.graph.specs.Contraction.{contract}
use Rattle.graph.proofs.Store.{store_either}
use Rattle.graph.proofs.Adding.{added_keys}
use Rattle.graph.proofs.Accepted.{accepted, refused_same}
use Rattle.laws.specs.Grown.{Grown, fresh, accepts}
use Rattle.laws.specs.Beside.{after_each, answers_to, Beside}
use Rattle.laws.proofs.Keys.{grown_fit_for}
use Rattle.laws.proofs.AnyKind.{lists_alike}

-- ---- one label

-- The keys after storing depend on the keys alone.
store_keys : (t : Table) (x : ℕ) → (store t x).keys ≡ cond (stored t.keys x) t.keys (insert_at (rank t.keys x) x t.keys)
store_keys t x =
    store_either t x (λ (u : Table). u.keys ≡ cond (stored t.keys x) t.keys (insert_at (rank t.keys x) x t.keys)) (λ e. rw e) (λ e. rw e)

store_same : (t u : Table) (x : ℕ) → t.keys ≡ u.keys → (store t x).keys ≡ (store u x).keys
store_same t u x e =
    store_keys t x ∙ ap (λ (ks : List ℕ). cond (stored ks x) ks (insert_at (rank ks x) x ks)) e ∙ sym (store_keys u x)

windows_same : (K : ℕ) (label : List ℕ) (t u : Table) (m : ℕ) → t.keys ≡ u.keys
    → (store_windows K label t m).keys ≡ (store_windows K label u m).keys
unfolding store_windows
windows_same K label t u zero e = e
windows_same K label t u (suc m) e =
    store_same (store_windows K label t m) (store_windows K label u m) (canon K (window K label m)) (windows_same K label t u m e)

-- What two calls have in common.
pub record Twins (a b : Added) : Type 0 where
  pub answer : a.answer ≡ b.answer
  pub keys : a.keys ≡ b.keys

-- Two choices by one test.
twins_choose : {a b c d : Added} (t : Bool) → Twins a c → Twins b d → Twins (cond t a b) (cond t c d)
twins_choose true p q = p
twins_choose false p q = q

module _ (κ μ : Kind) (rule : Rule) (K n : ℕ) (keys counts counts' label : List ℕ) (l : length counts ≡ length counts') where
  after_same : (added κ rule K label (table_of n keys counts)).keys ≡ (added μ rule K label (table_of n keys counts')).keys
  after_same =
      added_keys κ rule K label (table_of n keys counts)
      ∙ windows_same K label (table_of n keys counts) (table_of n keys counts') (windows K label) refl
      ∙ sym (added_keys μ rule K label (table_of n keys counts'))

  unchanged_twins : (a : Answer Edges) → Twins (unchanged κ rule K n keys counts label a) (unchanged μ rule K n keys counts' label a)
  unchanged_twins a = record { answer = refl; keys = refl }

  bases_twins : (bad : List ℕ) → Twins (add_bases κ rule K n keys counts label bad) (add_bases μ rule K n keys counts' label bad)
  unfolding add_bases
  bases_twins (place ∷ byte) = unchanged_twins (refuses 3 (place ∷ byte))
  bases_twins [] =
      let room : capacity keys counts ≡ capacity keys counts' = ap (λ (m : ℕ). min (min (length keys / 2) m) 65536) l in
      subst
      (λ (b : Bool). Twins (cond b (unchanged κ rule K n keys counts label (refuses 6 [])) (changed κ rule K n keys counts label (added κ rule K label (table_of n keys counts))))
      (add_bases μ rule K n keys counts' label []))
      (ap₂ (λ (m : ℕ) (ks : List ℕ). ltb m (length ks)) (sym room) (sym after_same))
      (twins_choose (ltb (capacity keys counts') (length (added μ rule K label (table_of n keys counts')).keys))
      (unchanged_twins (refuses 6 []))
      (record {
        answer = ap (λ (ks : List ℕ). gives (record { edges = length label - K; stored = length ks })) after_same;
        keys = ap (λ (ks : List ℕ). over (words_of ks) keys) after_same;
      }))

  -- Two fit tables with the same keys, of whatever kinds, answer the same and are left with the same keys.
  pub add_twins : fit_for κ K n keys counts ≡ true → fit_for μ K n keys counts' ≡ true
      → Twins (add_label κ rule K n keys counts label) (add_label μ rule K n keys counts' label)
  unfolding add_label
  add_twins f g =
      rw (f, g)
      (twins_choose (not (ok_k K)) (unchanged_twins (refuses 1 (K ∷ [])))
      (twins_choose (ltb 4096 (length label)) (unchanged_twins (refuses 4 (length label ∷ [])))
      (twins_choose (ltb (length label) K) (unchanged_twins (gives (record { edges = 0; stored = n })))
      (bases_twins (first_bad 0 label)))))

-- ---- many labels

module _ (κ : Kind) (rule : Rule) (K : ℕ) (s : Several) (l : List ℕ) where
  abbrev pub call : Added
  call = add_label κ rule K s.stored s.keys s.counts l

  next_gives : (e : Edges) → call.answer ≡ gives e
      → add_next κ rule K s l ≡ record { answer = gives e; labels = suc s.labels; stored = e.stored; keys = call.keys; counts = call.counts }
  unfolding add_next
  next_gives e h = rw (h, add_next)

  next_refuses : (r : ℕ) (vs : List ℕ) → call.answer ≡ refuses r vs
      → add_next κ rule K s l ≡ record { answer = refuses r vs; labels = s.labels; stored = s.stored; keys = s.keys; counts = s.counts }
  unfolding add_next
  next_refuses r vs h =
      let q = refused_same κ rule K s.stored s.keys s.counts l r vs h in
      rw (h, add_next) (rw (q.keys_same, q.counts_same))

  -- It is the call: its answer, the number stored after it, and its slices.
  pub next_is : ((add_next κ rule K s l).answer ≡ call.answer) × ((add_next κ rule K s l).stored ≡ stored_after s.stored call.answer)
      × ((add_next κ rule K s l).keys ≡ call.keys) × ((add_next κ rule K s l).counts ≡ call.counts)
  unfolding add_next
  next_is =
      either (λ (t : Several). (t.answer ≡ call.answer) × (t.stored ≡ stored_after s.stored call.answer) × (t.keys ≡ call.keys) × (t.counts ≡ call.counts))
      call.answer (λ e h. (sym h, rw h, refl, refl)) (λ r vs h. (sym h, rw h, refl, refl))

module _ (κ μ : Kind) (rule : Rule) (K : ℕ) where
  abbrev Both : Several → Several → Type 0
  Both s u = Beside κ μ rule K s u

  -- One call over each of two such tables.
  pub next_twins : (s u : Several) (l : List ℕ) → Both s u → Twins (call κ rule K s l) (call μ rule K u l)
  next_twins s u l b =
      let g : fit_for μ K s.stored s.keys u.counts ≡ true = rw (b.stored, b.keys) at (grown_fit_for b.grown') in
      rw (b.stored, b.keys)
      (add_twins κ μ rule K s.stored s.keys s.counts u.counts l (sym b.long) (grown_fit_for b.grown) g)

  next_beside : (s u : Several) (l : List ℕ) → Both s u → Both (add_next κ rule K s l) (add_next μ rule K u l)
  next_beside s u l b = go (call κ rule K s l).answer refl
    where
      t : Twins (call κ rule K s l) (call μ rule K u l)
      t = next_twins s u l b

      go : (a : Answer Edges) → (call κ rule K s l).answer ≡ a → Both (add_next κ rule K s l) (add_next μ rule K u l)
      go (gives e) h =
          let h' : (call μ rule K u l).answer ≡ gives e = sym t.answer ∙ h in
          let p = accepted κ rule K s.stored s.keys s.counts l e h in
          let q = accepted μ rule K u.stored u.keys u.counts l e h' in
          rw (next_gives κ rule K s l e h, next_gives μ rule K u l e h')
          (record {
            answer = refl;
            labels = ap suc b.labels;
            stored = refl;
            keys = sym t.keys;
            long = q.counts_length ∙ b.long ∙ sym p.counts_length;
            done = l ∷ b.done;
            grown = accepts b.grown l e h;
            grown' = accepts b.grown' l e h';
          })
      go (refuses r vs) h =
          let h' : (call μ rule K u l).answer ≡ refuses r vs = sym t.answer ∙ h in
          rw (next_refuses κ rule K s l r vs h, next_refuses μ rule K u l r vs h')
          (record {
            answer = refl;
            labels = b.labels;
            stored = b.stored;
            keys = b.keys;
            long = b.long;
            done = b.done;
            grown = b.grown;
            grown' = b.grown';
          })

  module _ (keys counts counts' : List ℕ) (long : length counts' ≡ length counts) where
    -- From none stored, whatever labels are given:
    pub given_beside : (ls : List (List ℕ)) → Both (after_each κ rule K (untried 0 keys counts) ls) (after_each μ rule K (untried 0 keys counts') ls)
    unfolding after_each
    given_beside [] = record {
      answer = refl;
      labels = refl;
      stored = refl;
      keys = refl;
      long = long;
      done = [];
      grown = fresh keys counts;
      grown' = fresh keys counts';
    }
    given_beside (l ∷ ls) = next_beside _ _ l (given_beside ls)

    -- each is answered the same,
    pub answers_alike : (ls : List (List ℕ)) → answers_to μ rule K (untried 0 keys counts') ls ≡ answers_to κ rule K (untried 0 keys counts) ls
    unfolding answers_to
    answers_alike [] = refl
    answers_alike (l ∷ ls) = ap₂ (λ (a : Answer Edges) (rest : List (Answer Edges)). a ∷ rest) (given_beside (l ∷ ls)).answer (answers_alike ls)

    -- and contraction gives the same at every cutoff up to both tops for which both kinds answer.
    pub given_alike : (ls : List (List ℕ)) (cutoff : ℕ) → cutoff ≤ top κ → cutoff ≤ top μ
        → answers_for κ cutoff ≡ true → answers_for μ cutoff ≡ true → (labels starts lengths marks : List ℕ)
        → let s = after_each κ rule K (untried 0 keys counts) ls in
        let u = after_each μ rule K (untried 0 keys counts') ls in
        contract κ K cutoff s.stored s.keys s.counts labels starts lengths marks
        ≡ contract μ K cutoff u.stored u.keys u.counts labels starts lengths marks
    given_alike ls = let b = given_beside ls in lists_alike b.grown b.grown'

  -- ---- many labels by one call

  each_beside : (s u : Several) (ls : List (List ℕ)) → Both s u → Both (add_each κ rule K s ls) (add_each μ rule K u ls)
  unfolding add_each
  each_beside s u [] b = b
  each_beside s u (l ∷ ls) b =
      go s.answer refl (each_beside (add_next κ rule K s l) (add_next μ rule K u l) ls (next_beside s u l b))
    where
      go : (a : Answer Edges) → s.answer ≡ a → Both (add_each κ rule K (add_next κ rule K s l) ls) (add_each μ rule K (add_next μ rule K u l) ls)
          → Both (add_each κ rule K s (l ∷ ls)) (add_each μ rule K u (l ∷ ls))
      go (gives e) h on = rw (h, b.answer ∙ h, add_each) on
      go (refuses r vs) h on = rw (h, b.answer ∙ h, add_each) b

  -- To tables that the same labels have grown, with the same keys.
  pub labels_beside : {done : List (List ℕ)} {n : ℕ} {keys counts counts' : List ℕ}
      → Grown κ rule K done n keys counts → Grown μ rule K done n keys counts' → length counts' ≡ length counts
      → (text starts lengths : List ℕ) (count : ℕ)
      → Both (add_labels κ rule K n keys counts text starts lengths count) (add_labels μ rule K n keys counts' text starts lengths count)
  unfolding add_labels
  labels_beside {done} {n} {keys} {counts} {counts'} g h l text starts lengths count = go (within text count starts lengths) refl
    where
      from : (a : Answer Edges)
          → Both (record { answer = a; labels = 0; stored = n; keys = keys; counts = counts }) (record { answer = a; labels = 0; stored = n; keys = keys; counts = counts' })
      from a = record { answer = refl; labels = refl; stored = refl; keys = refl; long = l; done = done; grown = g; grown' = h }

      go : (b : Bool) → within text count starts lengths ≡ b
          → Both (add_labels κ rule K n keys counts text starts lengths count) (add_labels μ rule K n keys counts' text starts lengths count)
      go true e = rw e (each_beside (untried n keys counts) (untried n keys counts') (listed count text starts lengths) (from _))
      go false e = rw e (from (refuses 12 []))
