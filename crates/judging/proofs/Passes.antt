-- A pass over the labels of a list, for any test. Assumes nothing.
use Prim.Native.Nat.{ℕ, zero, suc, ◌+◌, ◌-◌, ◌≤◌, ◌<◌}
use mathlib.Core.Path.{◌≡◌, refl, sym, ap, ◌∙◌, subst}
use mathlib.Core.Bool.{Bool, true, false}
use mathlib.Core.List.{List, [], ◌∷◌}
use native.Mathlib.Omega.{arith}
use borrow.Author.Tests.{ne_eqb, le-ltb}
use lib.Dec.{ltb}
use Rattle.std.proofs.Common.{Option, Some, None, Ok, Err, IfSome}
use Rattle.std.specs.Option.{option_or}
use lib.ListN.{length, drop, replicate, length-drop}
use Rattle.lemmas.proofs.Tests.{never}
use Rattle.dna.specs.Text.{part}
use Rattle.rules.specs.Listing.{Label, Lists, Listing, holds, no_list, listing}
use Rattle.rules.specs.Listing.Lists.{none, one}
use Rattle.graph.specs.Table.{rank}
use Rattle.graph.specs.Walks.{Ends, visited}
use Rattle.laws.specs.Windows.{occurs, occurrences}
use Rattle.marks.specs.Marks.{ends}
use Rattle.marks.proofs.Marking.{ends_length}
use Rattle.rules.specs.Verdict.{Test, first_of, breaks1, breaks2, breaks3, breaks4}
use Rattle.rules.proofs.Listing.{listing_sound, listing_complete, lists_labels}
use Rattle.rules.proofs.Firsts.{first_here, first_on, first_nil}
use Rattle.laws.specs.Demand.{Each, Each.more}
use Rattle.judging.specs.declared.Tested.{Tested}
use Rattle.judging.specs.Places.{is_held, Recorded, Spans}
use Rattle.judging.specs.declared.Span.{Span}
use Rattle.marks.specs.Ready.{keys_for, Ready, Unvisited}
use Rattle.judging.specs.Standing.{is_misplaced, is_bad, Stood, stands_in, Stands, Noted, Placed, Placing}
use Rattle.marks.proofs.Still.{ready_still}
use Rattle.judging.specs.Passing.{labels_in, Finds, Passing, spanned, Follows, Follows.nothing, Follows.behind}

module _ (K : ℕ) (text : List ℕ) (test : Test) where
  pub pass_start : is_held (listing K text) ≡ true → Passing K text test [] 0 0
  pass_start h = go (listing K text) refl h
    where
      go : (l : Listing) → listing K text ≡ l → is_held l ≡ true → Passing K text test [] 0 0
      go (holds ls) e q = record {
        all = ls;
        rest = ls;
        whole = listing_sound K e;
        left = listing_sound K e;
        inside = omega arith;
        few = omega arith;
        number = omega arith;
        found = omega arith;
      }
      go no_list e q = never false q refl

  -- Where the text goes on, so does the list.
  some_left : {t : List ℕ} {rest : List (List ℕ)} → Lists K t rest → 1 ≤ length t → (l : List ℕ) × (ls : List (List ℕ))
      × (rest ≡ l ∷ ls)
  some_left none h = absurd (omega arith)
  some_left (one header label {ls = ls} n p r) h = (label, ls, refl)

  none_left : {t : List ℕ} {rest : List (List ℕ)} → Lists K t rest → length t ≤ 0 → rest ≡ []
  none_left none h = refl
  none_left (one header label n p r) h = absurd (omega arith)

  module _ {done : List (List ℕ)} {i at : ℕ} (p : Passing K text test done i at) where
    all_is : labels_in (listing K text) ≡ p.all
    all_is = ap labels_in (listing_complete K p.whole)

    pub pass_end : length text ≤ at → Finds test (labels_in (listing K text)) None
    pass_end h =
        let e = none_left p.left (omega (arith, length-drop at text)) in
        let n : length p.rest ≡ 0 = ap length e in
        rw all_is (omega (arith, p.number, p.found))

    pub pass_counted : length text ≤ at → length (labels_in (listing K text)) ≡ i
    pass_counted h =
        let e = none_left p.left (omega (arith, length-drop at text)) in
        let n : length p.rest ≡ 0 = ap length e in
        rw all_is (omega (arith, p.number))

    module _ (h : at < length text) where
      next : (l : List ℕ) × (ls : List (List ℕ)) × (p.rest ≡ l ∷ ls)
      next = some_left p.left (omega (arith, length-drop at text))

      lists : Lists K (drop at text) (next.0 ∷ next.1)
      lists = subst (Lists K (drop at text)) next.2 p.left

      pub pass_record : Recorded text at
      pass_record = record { K = K; label = next.0; labels = next.1; lists = lists }

      module _ {s e : ℕ} (g : Spans text at s e) where
        abbrev label : List ℕ
        label = part text s (e - s)

        label_is : next.0 ≡ label
        label_is = (g.first K next.0 next.1 lists).0

        pub pass_label : Label K label
        pass_label = subst (Label K) label_is (head (lists_labels K lists))
          where
            head : {l : List ℕ} {ls : List (List ℕ)} → Each (Label K) (l ∷ ls) → Label K l
            head (more q r) = q

        rest_is : p.rest ≡ label ∷ next.1
        rest_is = next.2 ∙ ap (λ (l : List ℕ). l ∷ next.1) label_is

        pub pass_found : {r : Bool} → r ≡ test done label → r ≡ true → Finds test (labels_in (listing K text)) (Some i)
        pass_found q t =
            let f : first_of test done p.rest ≡ 0 =
            ap (first_of test done) rest_is ∙ first_here test done label next.1 (sym q ∙ t) in
            let n : length p.rest ≡ suc (length next.1) = ap length rest_is in
            rw all_is (omega (arith, p.found), omega (arith, p.number))

        pub pass_on : {r : Bool} → r ≡ test done label → r ≡ false → Passing K text test (label ∷ done) (i + 1) (e + 1)
        pass_on q t =
            let f : first_of test done p.rest ≡ suc (first_of test (label ∷ done) next.1) =
            ap (first_of test done) rest_is ∙ first_on test done label next.1 (sym q ∙ t) in
            let n : length p.rest ≡ suc (length next.1) = ap length rest_is in
            let m : suc e ≡ e + 1 = omega arith in
            record {
              all = p.all;
              rest = next.1;
              whole = p.whole;
              left = subst (λ (k : ℕ). Lists K (drop k text) next.1) m (g.first K next.0 next.1 lists).1;
              inside = omega (arith, g.within);
              few = omega (arith, g.on, p.few);
              number = omega (arith, p.number);
              found = omega (arith, p.found);
            }

-- ---- a test that asks nothing of the labels before

pub any_done_4 : (K : ℕ) (ks : List ℕ) (es : List Ends) (done : List (List ℕ)) (l : List ℕ)
    → breaks4 K ks es [] l ≡ breaks4 K ks es done l
unfolding breaks4
any_done_4 K ks es done l = refl

-- ---- rule 1

-- For every K for which the text holds a list: the pass, and the label before.
pub record Ordering (text : List ℕ) (i : ℕ) (before : Option Span) (at : ℕ) : Type 0 where
  pub ordered : IfSome before (λ b. b.start ≤ b.end)
  pub passing : (K : ℕ) → is_held (listing K text) ≡ true
      → (done : List (List ℕ)) × Passing K text breaks1 done i at × Follows text before done

pub ordering_start : (text : List ℕ) → Ordering text 0 None 0
ordering_start text = record { ordered = tt; passing = λ K h. ([], pass_start K text breaks1 h, nothing) }

module _ (text : List ℕ) (i : ℕ) (before : Option Span) (at : ℕ) (o : Ordering text i before at) where
  pub ordering_record : (K : ℕ) → is_held (listing K text) ≡ true → at < length text → Recorded text at
  ordering_record K q h = pass_record K text breaks1 (o.passing K q).1 h

  pub ordering_end : length text ≤ at → (K : ℕ) → is_held (listing K text) ≡ true
      → Finds breaks1 (labels_in (listing K text)) None
  ordering_end h K q = pass_end K text breaks1 (o.passing K q).1 h

  module _ (h : at < length text) (l : Span) (g : Spans text at l.start l.end) {r : Bool}
      (e : (done : List (List ℕ)) → Follows text before done → r ≡ breaks1 done (spanned text l)) where
    pub ordering_found : r ≡ true → (K : ℕ) → is_held (listing K text) ≡ true
        → Finds breaks1 (labels_in (listing K text)) (Some i)
    ordering_found t K q = let p = o.passing K q in pass_found K text breaks1 p.1 h g (e p.0 p.2) t

    pub ordering_on : r ≡ false → Ordering text (i + 1) (Some l) (l.end + 1)
    ordering_on t = record {
      ordered = g.ordered;
      passing = λ K q.
          let p = o.passing K q in
          (spanned text l ∷ p.0, pass_on K text breaks1 p.1 h g (e p.0 p.2) t, behind l);
    }

-- ---- rule 2

pub placing_start : {K : ℕ} {keys ms text : List ℕ} → Ready K keys ms → Unvisited ms → is_held (listing K text) ≡ true
    → Placing K keys ms text ms [] None 0 0
unfolding occurrences
placing_start {K} {keys} {ms} {text} r u h = record {
  ready = r;
  kept = refl;
  passing = pass_start K text (breaks2 K (keys_for ms keys) (ends ms)) h;
  stood = λ x s. ap (λ (vs : List ℕ). visited vs (rank (keys_for ms keys) x)) u
      ∙ blank (length ms) (rank (keys_for ms keys) x)
      ∙ sym (le-ltb 0 0 (omega arith));
  split = λ x. omega arith;
  noted = omega arith;
}
  where
    blank : (n v : ℕ) → visited (replicate n 0) v ≡ false
    blank zero v = ne_eqb 0 1 (λ e. omega arith)
    blank (suc n) zero = ne_eqb 0 1 (λ e. omega arith)
    blank (suc n) (suc v) = blank n v

module _ {K : ℕ} {keys ms₀ text ms : List ℕ} {done : List (List ℕ)} {bad : Option ℕ} {i at : ℕ}
    (p : Placing K keys ms₀ text ms done bad i at) where
  abbrev test2 : Test
  test2 = breaks2 K (keys_for ms₀ keys) (ends ms₀)

  abbrev test3 : Test
  test3 = breaks3 K (keys_for ms₀ keys) (ends ms₀)

  none_behind : length text ≤ at → labels_in (listing K (drop at text)) ≡ []
  none_behind h =
      ap labels_in (listing_complete K p.passing.left)
      ∙ none_left K text test2 p.passing.left (omega (arith, length-drop at text))

  pub placing_end : length text ≤ at → Placed K keys ms₀ text (Ok (record { labels = i; bad = bad })) ms
  unfolding occurrences
  placing_end h = record {
    ends_kept = p.kept;
    found = pass_end K text test2 p.passing h;
    stood = λ x s.
        let z : occurrences K x (labels_in (listing K (drop at text))) ≡ 0 = rw (none_behind h) in
        let q : stands_in K done x ≡ stands_in K (labels_in (listing K text)) x = omega (arith, p.split x) in
        p.stood x s ∙ ap (ltb 0) q;
    counted = pass_counted K text test2 p.passing h;
    stepped = noted_all (labels_in (listing K text)) bad p.noted
        (ap (first_of test3 done) (none_behind h) ∙ first_nil test3 done)
        (pass_counted K text test2 p.passing h);
  }
    where
      noted_all : (ls : List (List ℕ)) {rest : ℕ} (b : Option ℕ) → Noted b i (first_of test3 [] ls) rest → rest ≡ 0
          → length ls ≡ i → Finds test3 ls b
      noted_all ls (Some b) n z l = (n.0, omega (arith, n.1))
      noted_all ls None n z l = omega (arith, n)

  module _ (h : at < length text) {s e : ℕ} (g : Spans text at s e) where
    abbrev label2 : List ℕ
    label2 = part text s (e - s)

    left_is : labels_in (listing K (drop at text)) ≡ label2 ∷ labels_in (listing K (drop (e + 1) text))
    left_is =
        let l = lists K text test2 p.passing h in
        let n = next K text test2 p.passing h in
        let m : suc e ≡ e + 1 = omega arith in
        let r = g.first K n.0 n.1 l in
        ap labels_in (listing_complete K l) ∙ ap (λ (z : List ℕ). z ∷ n.1) r.0
        ∙ ap (λ (zs : List (List ℕ)). label2 ∷ zs)
        (sym (ap (λ (k : ℕ). labels_in (listing K (drop k text))) (sym m) ∙ ap labels_in (listing_complete K r.1)))

    module _ {r : Tested} {after : List ℕ} (t : Stands K keys ms label2 r after) where
      long2 : length ms ≡ length ms₀
      long2 = ends_length ms₀ ms p.kept

      stood_here : Stood (keys_for ms keys) ms (stands_in K done)
      stood_here = rw long2 p.stood

      told2 : is_misplaced r ≡ test2 done label2
      told2 = rw (← long2, ← p.kept) (t.told done stood_here)

      pub placing_found : is_misplaced r ≡ true → Placed K keys ms₀ text (Err i) after
      placing_found q = record {
        ends_kept = t.ends_kept ∙ p.kept;
        found = pass_found K text test2 p.passing h g told2 q;
        stood = tt;
        counted = tt;
        stepped = tt;
      }

      module _ (q : is_misplaced r ≡ false) where
        stepped3 : is_bad r ≡ test3 done label2
        stepped3 = rw (← long2, ← p.kept) (t.stepped q done)

        behind3 : first_of test3 done (labels_in (listing K (drop at text)))
            ≡ first_of test3 done (label2 ∷ labels_in (listing K (drop (e + 1) text)))
        behind3 = ap (first_of test3 done) left_is

        abbrev first : ℕ
        first = first_of test3 [] (labels_in (listing K text))

        abbrev rest : ℕ
        rest = first_of test3 (label2 ∷ done) (labels_in (listing K (drop (e + 1) text)))

        -- What is known of the labels up to the next one.
        going_on : {told now : Option ℕ} → now ≡ told → Noted told (i + 1) first rest
            → Placing K keys ms₀ text after (label2 ∷ done) now (i + 1) (e + 1)
        unfolding occurrences
        going_on {told} is note = record {
          ready = ready_still p.ready t.ends_kept;
          kept = t.ends_kept ∙ p.kept;
          passing = pass_on K text test2 p.passing h g told2 q;
          stood = rw (← long2) (t.stood done stood_here q);
          split = λ x.
              let z : occurrences K x (labels_in (listing K (drop at text)))
              ≡ occurs K x label2 + occurrences K x (labels_in (listing K (drop (e + 1) text))) =
              ap (λ (zs : List (List ℕ)). occurrences K x zs) left_is in
              omega (arith, p.split x);
          noted = rw is note;
        }

        pub placing_bad : is_bad r ≡ true → {now : Option ℕ} → now ≡ option_or bad (Some i)
            → Placing K keys ms₀ text after (label2 ∷ done) now (i + 1) (e + 1)
        placing_bad b is =
            going_on is (noted bad p.noted (behind3 ∙ first_here test3 done label2 _ (sym stepped3 ∙ b)))
          where
            noted : {m : ℕ} (b : Option ℕ) → Noted b i first m → m ≡ 0 → Noted (option_or b (Some i)) (i + 1) first rest
            noted (Some b) n z = (n.0, omega (arith, n.1))
            noted None n z = (omega (arith, n), omega arith)

        pub placing_fine : is_bad r ≡ false → {now : Option ℕ} → now ≡ bad
            → Placing K keys ms₀ text after (label2 ∷ done) now (i + 1) (e + 1)
        placing_fine b is =
            going_on is (noted bad p.noted (behind3 ∙ first_on test3 done label2 _ (sym stepped3 ∙ b)))
          where
            noted : {m : ℕ} (b : Option ℕ) → Noted b i first m → m ≡ suc rest → Noted b (i + 1) first rest
            noted (Some b) n z = (n.0, omega (arith, n.1))
            noted None n z = omega (arith, n)
