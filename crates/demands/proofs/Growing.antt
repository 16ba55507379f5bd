-- Labels added one after the other have grown the table, up to one that is refused. Assumes nothing.
use mathlib.Core.Path.{◌≡◌, refl}
use mathlib.Core.List.{List, [], ◌∷◌}
use Prim.Native.Nat.{ℕ, suc, ◌-◌, ◌≤◌}
use native.Mathlib.Omega.{arith}
use lib.ListN.{take}
use Rattle.std.proofs.Common.{Result, Ok, Err}
use Rattle.dna.proofs.Answers.{either}
use Rattle.lemmas.proofs.Tests.{choose}
use Rattle.state.specs.Counted.{Kind}
use Rattle.dna.specs.Answer.{gives}
use Rattle.label_index.specs.Entries.{listed, within}
use Rattle.graph.specs.Sightings.{Rule}
use Rattle.graph.specs.Adding.{add_label}
use Rattle.graph.specs.Several.{Several, untried, add_next, add_each, add_labels}
use Rattle.graph.proofs.Accepted.{refused_same}
use Rattle.graph.proofs.Several.{none_after}
use Rattle.laws.specs.Grown.{Grown, Grown.accepts}
use Rattle.adding.specs.declared.Additions.{Additions}
use Rattle.adding.specs.declared.OutOfText.{OutOfText}
use Rattle.adding.specs.Says.{AddsLabels}
use Rattle.demands.specs.Calls.{onto, added_by, stored_by}
use Rattle.std.specs.Prelude.{Result, Ok, Err}

module _ (κ : Kind) (rule : Rule) (K : ℕ) where
  abbrev GrownTo : List (List ℕ) → Several → Type 0
  GrownTo ls s = Grown κ rule K ls s.stored s.keys s.counts

  -- From s to t: the first of some labels were added to those that had grown s.
  pub record Grows (ls done : List (List ℕ)) (s t : Several) : Type 0 where
    pub more : s.labels ≤ t.labels
    pub grown : GrownTo (onto (take (t.labels - s.labels) ls) done) t

  grows_none : (ls done : List (List ℕ)) (s t : Several) → s.labels ≡ t.labels → GrownTo done t → Grows ls done s t
  grows_none ls done s t q g =
      let e : t.labels - s.labels ≡ 0 = omega arith in
      record { more = omega arith; grown = rw e g }

  -- One more in front.
  grows_one : (l : List ℕ) (ls done : List (List ℕ)) (s s' t : Several) → s'.labels ≡ suc s.labels → Grows ls (l ∷ done) s' t → Grows (l ∷ ls) done s t
  grows_one l ls done s s' t q r =
      let e : t.labels - s.labels ≡ suc (t.labels - s'.labels) = omega (arith, r.more) in
      record { more = omega (arith, r.more); grown = rw e r.grown }

  pub grows : (s : Several) (ls done : List (List ℕ)) → GrownTo done s → Grows ls done s (add_each κ rule K s ls)
  unfolding add_each add_next
  grows s [] done g = grows_none [] done s s refl g
  grows s (l ∷ ls) done g =
      let a = add_label κ rule K s.stored s.keys s.counts l in
      either (Grows (l ∷ ls) done s) s.answer
      (λ _ _. either (λ (t : Several). Grows (l ∷ ls) done s (add_each κ rule K t ls)) a.answer
      (λ d h.
      let t : Several = record { answer = gives d; labels = suc s.labels; stored = d.stored; keys = a.keys; counts = a.counts } in
      grows_one l ls done s t _ refl (grows t ls (l ∷ done) (accepts g l d h)))
      (λ r vs h.
      let same = refused_same κ rule K s.stored s.keys s.counts l r vs h in
      rw (none_after κ rule K r vs s.labels s.stored a.keys a.counts ls)
      (grows_none (l ∷ ls) done s _ refl (rw (same.keys_same, same.counts_same) g))))
      (λ _ _ _. grows_none (l ∷ ls) done s s refl g)

module _ {κ : Kind} {rule : Rule} {K : ℕ} {done : List (List ℕ)} {n : ℕ} {keys counts : List ℕ} (g : Grown κ rule K done n keys counts)
    (text starts lengths : List ℕ) (count : ℕ) where
  -- The labels of an index, as many of them as were added.
  abbrev Adding : Several → Type 0
  Adding t = GrownTo κ rule K (onto (take t.labels (listed count text starts lengths)) done) t

  index_grown : Adding (add_labels κ rule K n keys counts text starts lengths count)
  unfolding add_labels
  index_grown =
      let t = add_each κ rule K (untried n keys counts) (listed count text starts lengths) in
      let e : t.labels - 0 ≡ t.labels = omega arith in
      choose Adding (within text count starts lengths)
      (λ _. rw e at (grows κ rule K (untried n keys counts) (listed count text starts lengths) done g).grown) (λ _. g)

  -- A call of `add_labels`, known by its contract.
  pub added_grown : {r : Result Additions OutOfText} {keys' counts' : List ℕ}
      → AddsLabels n r keys' counts' (add_labels κ rule K n keys counts text starts lengths count)
      → Grown κ rule K (onto (take (added_by r) (listed count text starts lengths)) done) (stored_by n r) keys' counts'
  added_grown {r = Ok t} a = rw (a.says.0, a.says.1, a.keys_after, a.counts_after) index_grown
  added_grown {r = Err e} a = rw (a.keys_after, a.counts_after) (rw (← a.says.0, ← a.says.1) at index_grown)
