-- For odd K and document 02's rule it does not matter on which strand a label is read: both slices and the number stored are the same.
-- Assumes nothing.
use mathlib.Core.Path.{◌≡◌, refl, sym, ap, ◌∙◌}
use mathlib.Core.Bool.{Bool, true, false, cond, not}
use mathlib.Core.Logic.{inl, inr, ⊎_elim}
use mathlib.Core.List.{List, [], ◌∷◌, map, reverse}
use Prim.Native.Nat.{ℕ, suc, ◌%◌}
use native.Mathlib.Omega.{arith}
use lib.Dec.{ltb}
use lib.ListN.{length}
use borrow.Author.Tests.{lt-ltb}
use Rattle.lemmas.proofs.Numbers.{true_or_false}
use Rattle.dna.specs.Answer.{Answer, gives, refuses}
use Rattle.dna.specs.Letters.{code_of, letter_of, complement, complement_letter, reverse_complement, first_bad}
use Rattle.dna.proofs.Answers.{ungiven}
use Rattle.dna.proofs.Reversal.{length_reverse_complement}
use Rattle.kmer.specs.Kmer.{ok_k}
use Rattle.kmer.proofs.Windows.{Bases}
use Rattle.kmer.proofs.Testing.{no_bad, no_bad_bases}
use Rattle.state.specs.Counted.{Kind}
use Rattle.graph.specs.Table.{table_of, fit, fit_for}
use Rattle.graph.specs.Sightings.{reversed}
use Rattle.graph.specs.Adding.{Edges, Added, add_bases, add_label}
use Rattle.graph.specs.Several.{Several, add_next, add_each}
use Rattle.graph.proofs.Adding.{Readable}
use Rattle.graph.proofs.Accepted.{fit_sound}
use Rattle.laws.specs.Grown.{Grown, fresh, accepts, moves}
use Rattle.laws.specs.Strands.{EitherStrand, kept, turned, Turned, none, more, Alike, same, no_base, AllAlike, all_same, last_no_base}
use Rattle.laws.proofs.Symmetry.{fair_reversed}
use Rattle.laws.proofs.Windows.{bases_turned, bases_back}
use Rattle.laws.proofs.Strands.{added_turned}

-- ---- alike

alike_sym : {a b : Added} → Alike a b → Alike b a
alike_sym same = same
alike_sym no_base = no_base

alike_on : {a b c : Added} → Alike a b → Alike b c → Alike a c
alike_on same q = q
alike_on (no_base {beside = beside} {beside' = beside'} {keys = keys} {counts = counts}) q = go refl q
  where
    go : {b c : Added} → b ≡ record { answer = refuses 3 beside'; keys = keys; counts = counts } → Alike b c
        → Alike (record { answer = refuses 3 beside; keys = keys; counts = counts }) c
    go e same = rw e no_base
    go e (no_base {keys = k} {counts = c}) =
        let p : k ≡ keys = ap (λ (a : Added). a.keys) e in
        let q : c ≡ counts = ap (λ (a : Added). a.counts) e in
        rw (p, q) no_base

-- What is alike and not refused is the same.
pub alike_given : {a b : Added} → Alike a b → (e : Edges) → b.answer ≡ gives e → a ≡ b
alike_given same e h = refl
alike_given (no_base {beside' = beside'}) e h = ungiven e 3 beside' (sym h)

cond_alike : (c : Bool) {a b a' b' : Added} → Alike a a' → Alike b b' → Alike (cond c a b) (cond c a' b')
cond_alike true p q = p
cond_alike false p q = q

-- Texts that read alike have one reverse complement.
turned_codes : (s : List ℕ) → map complement_letter s ≡ map (λ (c : ℕ). letter_of (complement c)) (map code_of s)
turned_codes [] = refl
turned_codes (b ∷ s) = ap (λ (t : List ℕ). complement_letter b ∷ t) (turned_codes s)

read_alike : (m l : List ℕ) → map code_of m ≡ map code_of l → reverse_complement m ≡ reverse_complement l
unfolding reverse_complement
read_alike m l e =
    ap (λ (s : List ℕ). reverse s)
    (turned_codes m ∙ ap (map (λ (c : ℕ). letter_of (complement c))) e ∙ sym (turned_codes l))

module _ (κ : Kind) (K : ℕ) (odd : K % 2 ≡ 1) where
  -- ---- one label

  module _ (n : ℕ) (keys counts : List ℕ) where
    abbrev add : List ℕ → Added
    add label = add_label κ reversed K n keys counts label

    bases_alike : (label : List ℕ) → Bases label → fit K n keys counts ≡ true
        → add_bases κ reversed K n keys counts (reverse_complement label) [] ≡ add_bases κ reversed K n keys counts label []
    unfolding add_bases
    bases_alike label b f =
        rw (
          length_reverse_complement label,
          added_turned reversed K (fair_reversed K odd) odd label (inr b) κ (table_of n keys counts) (fit_sound K n keys counts f),
        )

    -- One that adding reads.
    readable_alike : (label : List ℕ) → Readable K label → add (reverse_complement label) ≡ add label
    unfolding add_label
    readable_alike label (inl s) = rw (length_reverse_complement label, lt-ltb (length label) K s)
    readable_alike label (inr b) = ⊎_elim
        (λ f.
        rw (
          length_reverse_complement label,
          no_bad 0 (reverse_complement label) (bases_turned label b),
          no_bad 0 label b,
          bases_alike label b f,
        ))
        (λ f. rw f) (true_or_false (fit K n keys counts))

    -- One with a byte that is no base, which it has on either strand.
    strange_alike : (label : List ℕ) (x y : ℕ) (xs ys : List ℕ) → first_bad 0 label ≡ x ∷ xs → first_bad 0 (reverse_complement label) ≡ y ∷ ys
        → Alike (add (reverse_complement label)) (add label)
    unfolding add_label add_bases
    strange_alike label x y xs ys e f =
        rw (length_reverse_complement label, e, f)
        (cond_alike (not (ok_k K)) same
        (cond_alike (not (fit_for κ K n keys counts)) same
        (cond_alike (ltb 4096 (length label)) same (cond_alike (ltb (length label) K) same no_base))))

    -- Any label.
    pub any_turned : (label : List ℕ) → Alike (add (reverse_complement label)) (add label)
    any_turned label = go (first_bad 0 label) refl (first_bad 0 (reverse_complement label)) refl
      where
        go : (bad : List ℕ) → first_bad 0 label ≡ bad → (other : List ℕ) → first_bad 0 (reverse_complement label) ≡ other
            → Alike (add (reverse_complement label)) (add label)
        go [] e other f = rw (readable_alike label (inr (no_bad_bases 0 label e))) same
        go (x ∷ xs) e [] f =
            let z : x ∷ xs ≡ [] = sym e ∙ no_bad 0 label (bases_back label (no_bad_bases 0 (reverse_complement label) f)) in
            let w : ◌≡◌ {A = ℕ} 0 1 = cc in
            absurd (omega arith)
        go (x ∷ xs) e (y ∷ ys) f = strange_alike label x y xs ys e f

    read_as : (l m : List ℕ) → map code_of m ≡ map code_of l → Alike (add m) (add l)
    read_as l m r = alike_on (alike_sym (any_turned m)) (rw (read_alike m l r) (any_turned l))

    pub either_alike : {l m : List ℕ} → EitherStrand l m → Alike (add m) (add l)
    either_alike {l} {m} (kept r) = read_as l m r
    either_alike {l} {m} (turned r) = alike_on (read_as (reverse_complement l) m r) (any_turned l)

  -- ---- many labels

  -- The state after a label, by what adding it gave.
  abbrev after : Several → Added → Several
  after s a = elim a.answer [
    | gives e ↦ record { answer = gives e; labels = suc s.labels; stored = e.stored; keys = a.keys; counts = a.counts }
    | refuses r vs ↦ record { answer = refuses r vs; labels = s.labels; stored = s.stored; keys = a.keys; counts = a.counts }
  ]

  after_alike : (s : Several) {a b : Added} → Alike a b → AllAlike (after s a) (after s b)
  after_alike s same = all_same
  after_alike s no_base = last_no_base

  next_alike : (s : Several) {l m : List ℕ} → EitherStrand l m → AllAlike (add_next κ reversed K s m) (add_next κ reversed K s l)
  unfolding add_next
  next_alike s t = after_alike s (either_alike s.stored s.keys s.counts t)

  -- Nothing is tried after a refusal.
  tried : (s : Several) (a : Answer Edges) {x y : Several} → AllAlike x y
      → AllAlike (elim a [ gives e ↦ x | refuses r vs ↦ s ]) (elim a [ gives e ↦ y | refuses r vs ↦ s ])
  tried s (gives e) h = h
  tried s (refuses r vs) h = all_same

  pub each_alike : {s t : Several} {ls ms : List (List ℕ)} → Turned ls ms → AllAlike s t
      → AllAlike (add_each κ reversed K s ms) (add_each κ reversed K t ls)
  unfolding add_each
  each_alike none h = h
  each_alike {s = s} (more {l = l} {m = m} {ls = ls} {ms = ms} t ts) all_same =
      tried s s.answer (each_alike {s = add_next κ reversed K s m} ts (next_alike s t))
  each_alike (more t ts) last_no_base = last_no_base

  -- ---- a grown table

  -- The same labels in the same order, on whichever strand, have grown it too.
  pub grown_turned : {ls ms : List (List ℕ)} {n : ℕ} {keys counts : List ℕ} → Grown κ reversed K ls n keys counts → Turned ls ms
      → Grown κ reversed K ms n keys counts
  grown_turned (fresh keys counts) none = fresh keys counts
  grown_turned (accepts {n = n} {keys = keys} {counts = counts} g l e h) (more {m = m} t ts) =
      let s = alike_given (either_alike n keys counts t) e h in
      rw s at (accepts (grown_turned g ts) m e (ap (λ (a : Added). a.answer) s ∙ h))
  grown_turned (moves g keys' counts' e) ts = moves (grown_turned g ts) keys' counts' e
