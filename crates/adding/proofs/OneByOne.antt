-- Labels added one by one: those that are left give what all give. Assumes nothing.
use mathlib.Core.Path.{◌≡◌, refl, sym, ap, ◌∙◌}
use mathlib.Core.Bool.{true}
use mathlib.Core.List.{List, [], ◌∷◌}
use Prim.Native.Nat.{ℕ, suc, ◌+◌, ◌-◌, ◌≤◌, ◌<◌}
use native.Mathlib.Numerals.{add-one}
use native.Mathlib.Omega.{arith}
use lib.ListN.{length, get_or, take, drop}
use lib.Seq.{drop-cons}
use Rattle.std.specs.Prelude.{Result, Ok, Err}
use Rattle.dna.specs.Answer.{refuses}
use Rattle.state.specs.Counted.{Kind}
use Rattle.label_index.specs.Entries.{within, listed}
use Rattle.label_index.proofs.Entries.{within_long, within_at}
use Rattle.graph.specs.Sightings.{Rule}
use Rattle.graph.specs.Adding.{add_label}
use Rattle.graph.specs.Several.{Several, untried, add_next, add_each}
use Rattle.graph.proofs.Accepted.{accepted, accepted_fit}
use Rattle.graph.proofs.Several.{none_after}
use Rattle.adding.specs.Says.{add_answer, Adds, AddsLabels, Ready}
use Rattle.adding.specs.declared.Addition.{Addition}
use Rattle.adding.specs.declared.AddError.{AddError}
use Rattle.adding.specs.declared.AddError.TheVariants as add
use Rattle.adding.specs.declared.Additions.{Additions}

-- i labels were added, the last as given.
abbrev state : ℕ → Addition → List ℕ → List ℕ → Several
state i last keys counts =
    record { answer = add_answer (Ok last); labels = i; stored = last.stored; keys = keys; counts = counts }

-- i labels were added before the last that was tried.
abbrev tried : ℕ → ℕ → Result Addition AddError → Additions
tried i stored answer = record { labels = i; stored = stored; last = answer }

-- ---- one label more

module _ (κ : Kind) (rule : Rule) (K : ℕ) where
  abbrev each : Several → List (List ℕ) → Several
  each s ls = add_each κ rule K s ls

  module _ (i : ℕ) (last : Addition) (keys counts label : List ℕ) (ls : List (List ℕ)) {r : Result Addition AddError}
      {keys' counts' : List ℕ} (a : Adds r keys' counts' (add_label κ rule K last.stored keys counts label)) where
    -- It is added.
    module _ (next : Addition) (q : r ≡ Ok next) where
      answered : (add_label κ rule K last.stored keys counts label).answer ≡ add_answer (Ok next)
      answered = sym a.answer ∙ ap add_answer q

      each_more : each (state i last keys counts) (label ∷ ls) ≡ each (state (i + 1) next keys' counts') ls
      unfolding add_each add_next
      each_more = rw (answered, add_next, add-one, a.keys_after, a.counts_after)

      -- It leaves a fit table.
      more_ready : Ready κ K next.stored keys' counts'
      more_ready = (
        (accepted κ rule K last.stored keys counts label _ answered).ok,
        rw (a.keys_after, a.counts_after) (accepted_fit κ rule K last.stored keys counts label _ answered),
      )

    -- It is refused, and no other is tried.
    each_ends : (n x : ℕ) (vs : List ℕ) → add_answer r ≡ refuses x vs
        → AddsLabels n (Ok (tried i last.stored r)) keys' counts' (each (state i last keys counts) (label ∷ ls))
    unfolding add_each add_next
    each_ends n x vs q =
        let h : (add_label κ rule K last.stored keys counts label).answer ≡ refuses x vs = sym a.answer ∙ q in
        let after = add_label κ rule K last.stored keys counts label in
        rw (h, add_next, none_after κ rule K x vs i last.stored after.keys after.counts ls)
        (record { says = (refl, refl, q); keys_after = a.keys_after; counts_after = a.counts_after })

-- What adds nothing is a refusal.
pub record Refused (r : Result Addition AddError) : Type 0 where
  pub number : ℕ
  pub values : List ℕ
  pub is : add_answer r ≡ refuses number values

pub refused : (r : Result Addition AddError) → ((a : Addition) → r ≡ Ok a → ⊥) → Refused r
refused (Ok a) k = absurd (k a refl)
refused (Err (add.UnsupportedK x)) k = record { number = 1; values = x ∷ []; is = refl }
refused (Err (add.InvalidBase place byte)) k = record { number = 3; values = place ∷ byte ∷ []; is = refl }
refused (Err (add.TooLong x)) k = record { number = 4; values = x ∷ []; is = refl }
refused (Err add.Unfit) k = record { number = 5; values = []; is = refl }
refused (Err add.Full) k = record { number = 6; values = []; is = refl }

-- ---- the labels of an index

-- Those from entry i on.
abbrev left : List ℕ → ℕ → List ℕ → List ℕ → ℕ → List (List ℕ)
left text count starts lengths i = listed (count - i) text (drop i starts) (drop i lengths)

left_next : (text : List ℕ) (count : ℕ) (starts lengths : List ℕ) → within text count starts lengths ≡ true → (i : ℕ)
    → i < count
    → left text count starts lengths i
    ≡ take (get_or lengths i 0) (drop (get_or starts i 0) text) ∷ left text count starts lengths (i + 1)
unfolding listed
left_next text count starts lengths w i h =
    let l = within_long text count starts lengths w in
    let e : count - i ≡ suc (count - (i + 1)) = omega arith in
    rw (e, drop-cons starts i 0 (omega (arith, l.0)), drop-cons lengths i 0 (omega (arith, l.1)), add-one)

-- The labels of the first i entries are added to n vertices, the last as given.
pub record SomeAdded (κ : Kind) (rule : Rule) (K n : ℕ) (keys₀ counts₀ text starts lengths : List ℕ) (count i : ℕ)
    (last : Addition)
    (keys counts : List ℕ) : Type 0 where
  pub inside : within text count starts lengths ≡ true
  pub all : add_each κ rule K (untried n keys₀ counts₀) (listed count text starts lengths)
      ≡ add_each κ rule K (state i last keys counts) (left text count starts lengths i)
  pub ready : 0 < i → Ready κ K last.stored keys counts
  pub long_keys : length keys ≡ length keys₀
  pub long_counts : length counts ≡ length counts₀

module _ {κ : Kind} {rule : Rule} {K n : ℕ} {keys₀ counts₀ text starts lengths : List ℕ} {count : ℕ} where
  module _ {i : ℕ} {last : Addition} {keys counts : List ℕ}
      (s : SomeAdded κ rule K n keys₀ counts₀ text starts lengths count i last keys counts) where
    pub added_all : i ≡ count → AddsLabels n (Ok (tried count last.stored (Ok last))) keys counts
        (add_each κ rule K (untried n keys₀ counts₀) (listed count text starts lengths))
    unfolding listed add_each
    added_all h =
        let e : count - i ≡ 0 = omega arith in
        rw (s.all, e, h) (record { says = (refl, refl, refl); keys_after = refl; counts_after = refl })

    module _ (more : i < count) where
      pub entry_there : (i < length starts) × (i < length lengths)
      entry_there =
          let l = within_long text count starts lengths s.inside in
          (omega (arith, l.0), omega (arith, l.1))

      pub entry_inside : get_or starts i 0 + get_or lengths i 0 ≤ length text
      entry_inside = within_at text count starts lengths s.inside i more

      -- The next label, as it is lent, is added or refused.
      module _ {start end : ℕ} (p : start ≡ get_or starts i 0) (q : end ≡ start + get_or lengths i 0)
          {r : Result Addition AddError}
          {keys' counts' : List ℕ}
          (a : Adds r keys' counts'
          (add_label κ rule K last.stored keys counts (take (end - start) (drop start text)))) where
        rest : left text count starts lengths i
            ≡ take (end - start) (drop start text) ∷ left text count starts lengths (i + 1)
        rest =
            let e : end - start ≡ get_or lengths i 0 = omega arith in
            left_next text count starts lengths s.inside i more ∙ rw (e, p)

        pub added_more : (next : Addition) → r ≡ Ok next → length keys' ≡ length keys → length counts' ≡ length counts
            → SomeAdded κ rule K n keys₀ counts₀ text starts lengths count (i + 1) next keys' counts'
        added_more next t lk lc =
            let label = take (end - start) (drop start text) in
            record {
              inside = s.inside;
              all = s.all ∙ ap (λ (ls : List (List ℕ)). each κ rule K (state i last keys counts) ls) rest
                  ∙ each_more κ rule K i last keys counts label (left text count starts lengths (i + 1)) a next t;
              ready = λ _.
                  more_ready κ rule K i last keys counts label (left text count starts lengths (i + 1)) a next t;
              long_keys = lk ∙ s.long_keys;
              long_counts = lc ∙ s.long_counts;
            }

        pub added_ends : Refused r → AddsLabels n (Ok (tried i last.stored r)) keys' counts'
            (add_each κ rule K (untried n keys₀ counts₀) (listed count text starts lengths))
        added_ends f =
            rw (s.all, rest)
            (each_ends κ rule K i last keys counts (take (end - start) (drop start text))
            (left text count starts lengths (i + 1)) a n f.number f.values f.is)
