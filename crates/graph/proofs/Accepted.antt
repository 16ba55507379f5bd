-- What an answer of adding says of the label and of the two slices: one that is no refusal, and a refusal. Assumes nothing.
use mathlib.Core.Path.{◌≡◌, refl, sym, ap, subst, ◌∙◌}
use mathlib.Core.Bool.{true, not}
use mathlib.Core.Logic.{inl, inr}
use mathlib.Core.List.{List, [], ◌∷◌}
use Prim.Native.Nat.{ℕ, ◌-◌, ◌*◌, ◌≤◌, ◌<◌}
use native.Mathlib.Omega.{arith}
use lib.Dec.{ltb, leb}
use lib.ListN.{length, drop, length-append, length-take, length-drop}
use lib.Seq.{take_at, drop_at}
use borrow.Author.Tests.{ltb-true, ltb-false, leb-true, le-leb, not-false}
use Rattle.lemmas.proofs.Tests.{choose, both}
use Rattle.dna.specs.Letters.{first_bad}
use Rattle.dna.specs.Answer.{Answer, gives, refuses}
use Rattle.dna.specs.Text.{over}
use Rattle.kmer.specs.Kmer.{ok_k}
use Rattle.kmer.proofs.Testing.{no_bad_bases}
use Rattle.state.specs.Counted.{Kind}
use Rattle.graph.specs.Table.{Table, table_of, keys_of, words_of, capacity, fit, fit_for, words_fit, fit_from}
use Rattle.graph.specs.Sightings.{Rule}
use Rattle.graph.specs.Adding.{added, Edges, Added, unchanged, changed, add_bases, add_label}
use Rattle.graph.proofs.Store.{Sound}
use Rattle.graph.proofs.Keys.{keys_length, words_length, keys_words}
use Rattle.graph.proofs.Adding.{Readable, added_sound, added_short}
use Rattle.graph.proofs.Clean.{added_words}

-- ---- the table that two slices hold

-- What is fit for a kind is fit, and so are its words.
pub fit_for_both : (κ : Kind) (K n : ℕ) (keys counts : List ℕ) → fit_for κ K n keys counts ≡ true
    → (fit K n keys counts ≡ true) × (words_fit κ (table_of n keys counts).counts ≡ true)
fit_for_both κ K n keys counts = both (fit K n keys counts) (words_fit κ (table_of n keys counts).counts)

module _ (K n : ℕ) (keys counts : List ℕ) (h : fit K n keys counts ≡ true) where
  pub fit_room : n ≤ capacity keys counts
  fit_room = leb-true n (capacity keys counts) (both (leb n (capacity keys counts)) (fit_from K 0 (keys_of n keys)) h).0

  pub fit_length : length (keys_of n keys) ≡ n
  fit_length = omega (arith, fit_room, keys_length n keys)

  pub fit_sound : Sound K (table_of n keys counts)
  fit_sound = record {
    fits = (both (leb n (capacity keys counts)) (fit_from K 0 (keys_of n keys)) h).1;
    sizes = omega (arith, fit_room, fit_length, length-take n counts);
  }

-- The two slices that a table is written to hold it.
pub table_over : (t : Table) (keys counts : List ℕ) → length t.counts ≡ length t.keys
    → table_of (length t.keys) (over (words_of t.keys) keys) (over t.counts counts) ≡ t
table_over t keys counts n =
    let k = keys_words t.keys (drop (length (words_of t.keys)) keys) in
    let c = take_at t.counts (drop (length t.counts) counts) (length t.keys) n in
    rw (k, c)

-- Writing touches nothing past what is written.
past : (text slice : List ℕ) (n : ℕ) → length text ≡ n → drop n (over text slice) ≡ drop n slice
past text slice n e = drop_at text (drop (length text) slice) n e ∙ ap (λ (m : ℕ). drop m slice) e

module _ (κ : Kind) (rule : Rule) (K n : ℕ) (keys counts label : List ℕ) where
  -- What a label that is not refused is, and what it leaves.
  pub record Accepted (r : Added) (e : Edges) : Type 0 where
    pub ok : ok_k K ≡ true
    pub fits : fit K n keys counts ≡ true
    pub words : words_fit κ (table_of n keys counts).counts ≡ true
    pub long : length label ≤ 4096
    pub reads : Readable K label
    pub edges : e.edges ≡ length label - K
    pub number : e.stored ≡ length (added κ rule K label (table_of n keys counts)).keys
    pub room : e.stored ≤ capacity keys counts
    pub table : table_of e.stored r.keys r.counts ≡ added κ rule K label (table_of n keys counts)
    pub keys_length : length r.keys ≡ length keys
    pub counts_length : length r.counts ≡ length counts
    pub keys_past : drop (2 * e.stored) r.keys ≡ drop (2 * e.stored) keys
    pub counts_past : drop e.stored r.counts ≡ drop e.stored counts

  abbrev Says : Edges → Added → Type 0
  Says e r = r.answer ≡ gives e → Accepted r e

  refused : (e : Edges) (x : ℕ) (vs : List ℕ) → Says e (unchanged κ rule K n keys counts label (refuses x vs))
  refused e x vs h = let z : ◌≡◌ {A = ℕ} 0 1 = cc in absurd (omega arith)

  module _ (e : Edges) (ok : ok_k K ≡ true) (fits : fit K n keys counts ≡ true) (words : words_fit κ (table_of n keys counts).counts ≡ true)
      (long : length label ≤ 4096) where
    before : Sound K (table_of n keys counts)
    before = fit_sound K n keys counts fits

    short_says : length label < K → Says e (unchanged κ rule K n keys counts label (gives (record { edges = 0; stored = n })))
    short_says s h =
        let a : e.edges ≡ 0 = cc in
        let b : e.stored ≡ n = cc in
        record {
          ok = ok;
          fits = fits;
          words = words;
          long = long;
          reads = inl s;
          edges = a ∙ omega arith;
          number = b ∙ sym (ap (λ (t : Table). length t.keys) (added_short κ rule K label (table_of n keys counts) s) ∙ fit_length K n keys counts fits);
          room = omega (arith, fit_room K n keys counts fits);
          table = ap (λ (m : ℕ). table_of m keys counts) b ∙ sym (added_short κ rule K label (table_of n keys counts) s);
          keys_length = refl;
          counts_length = refl;
          keys_past = refl;
          counts_past = refl;
        }

    changed_says : first_bad 0 label ≡ [] → let t = added κ rule K label (table_of n keys counts) in
        length t.keys ≤ capacity keys counts → Says e (changed κ rule K n keys counts label t)
    changed_says bases l h =
        let t = added κ rule K label (table_of n keys counts) in
        let reads : Readable K label = inr (no_bad_bases 0 label bases) in
        let v : Sound K t = added_sound κ rule K label (table_of n keys counts) reads before in
        let a : e.edges ≡ length label - K = cc in
        let b : e.stored ≡ length t.keys = cc in
        let w = words_length t.keys in
        record {
          ok = ok;
          fits = fits;
          words = words;
          long = long;
          reads = reads;
          edges = a;
          number = b;
          room = omega arith;
          table = rw b (table_over t keys counts v.sizes);
          keys_length = simp (length-append, length-drop) (omega arith);
          counts_length = simp (length-append, length-drop) (omega (arith, v.sizes));
          keys_past = past (words_of t.keys) keys (2 * e.stored) (omega arith);
          counts_past = past t.counts counts e.stored (omega (arith, v.sizes));
        }

    bases_says : (bad : List ℕ) → first_bad 0 label ≡ bad → Says e (add_bases κ rule K n keys counts label bad)
    unfolding add_bases
    bases_says (place ∷ byte) q = refused e 3 (place ∷ byte)
    bases_says [] q =
        let t = added κ rule K label (table_of n keys counts) in
        choose (Says e) (ltb (capacity keys counts) (length t.keys)) (λ _. refused e 6 [])
        (λ c. changed_says q (ltb-false (capacity keys counts) (length t.keys) c))

  pub accepted : (e : Edges) → (add_label κ rule K n keys counts label).answer ≡ gives e → Accepted (add_label κ rule K n keys counts label) e
  unfolding add_label
  accepted e =
      choose (Says e) (not (ok_k K)) (λ _. refused e 1 (K ∷ []))
      (λ a. choose (Says e) (not (fit_for κ K n keys counts)) (λ _. refused e 5 [])
      (λ b. choose (Says e) (ltb 4096 (length label)) (λ _. refused e 4 (length label ∷ []))
      (λ c.
      let ok = not-false (ok_k K) a in
      let f = fit_for_both κ K n keys counts (not-false (fit_for κ K n keys counts) b) in
      let long = ltb-false 4096 (length label) c in
      choose (Says e) (ltb (length label) K) (λ d. short_says e ok f.0 f.1 long (ltb-true (length label) K d))
      (λ d. bases_says e ok f.0 f.1 long (first_bad 0 label) refl))))

  -- The table that such a label leaves is fit.
  pub accepted_fit : (e : Edges) → (add_label κ rule K n keys counts label).answer ≡ gives e
      → let r = add_label κ rule K n keys counts label in fit_for κ K e.stored r.keys r.counts ≡ true
  accepted_fit e h =
      let r = add_label κ rule K n keys counts label in
      let a = accepted e h in
      let c : e.stored ≤ capacity r.keys r.counts = rw (a.keys_length, a.counts_length) a.room in
      let after : Sound K (table_of e.stored r.keys r.counts) =
      subst (Sound K) (sym a.table) (added_sound κ rule K label (table_of n keys counts) a.reads (fit_sound K n keys counts a.fits)) in
      let clean : words_fit κ (table_of e.stored r.keys r.counts).counts ≡ true =
      subst (λ (t : Table). words_fit κ t.counts ≡ true) (sym a.table) (added_words κ rule K label (table_of n keys counts) a.words) in
      rw (le-leb e.stored (capacity r.keys r.counts) c, after.fits) clean

  -- A refusal changes neither slice.
  pub record Same (r : Added) : Type 0 where
    pub keys_same : r.keys ≡ keys
    pub counts_same : r.counts ≡ counts

  abbrev Keeps : ℕ → List ℕ → Added → Type 0
  Keeps x vs r = r.answer ≡ refuses x vs → Same r

  stays : (x : ℕ) (vs : List ℕ) (a : Answer Edges) → Keeps x vs (unchanged κ rule K n keys counts label a)
  stays x vs a h = record { keys_same = refl; counts_same = refl }

  bases_stay : (x : ℕ) (vs bad : List ℕ) → Keeps x vs (add_bases κ rule K n keys counts label bad)
  unfolding add_bases
  bases_stay x vs (place ∷ byte) = stays x vs (refuses 3 (place ∷ byte))
  bases_stay x vs [] =
      let t = added κ rule K label (table_of n keys counts) in
      choose (Keeps x vs) (ltb (capacity keys counts) (length t.keys)) (λ _. stays x vs (refuses 6 []))
      (λ _ h. let z : ◌≡◌ {A = ℕ} 0 1 = cc in absurd (omega arith))

  pub refused_same : (x : ℕ) (vs : List ℕ) → (add_label κ rule K n keys counts label).answer ≡ refuses x vs → Same (add_label κ rule K n keys counts label)
  unfolding add_label
  refused_same x vs =
      choose (Keeps x vs) (not (ok_k K)) (λ _. stays x vs (refuses 1 (K ∷ [])))
      (λ _. choose (Keeps x vs) (not (fit_for κ K n keys counts)) (λ _. stays x vs (refuses 5 []))
      (λ _. choose (Keeps x vs) (ltb 4096 (length label)) (λ _. stays x vs (refuses 4 (length label ∷ [])))
      (λ _. choose (Keeps x vs) (ltb (length label) K) (λ _. stays x vs (gives (record { edges = 0; stored = n })))
      (λ _. bases_stay x vs (first_bad 0 label)))))
