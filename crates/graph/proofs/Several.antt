-- Labels added one after the other: none after a refusal, no more than there are, and all where none is refused. Assumes nothing.
use mathlib.Core.Path.{◌≡◌, refl, sym, ap, ◌∙◌}
use mathlib.Core.List.{List, [], ◌∷◌}
use Prim.Native.Nat.{ℕ, suc, ◌+◌, ◌≤◌}
use native.Mathlib.Omega.{arith}
use lib.ListN.{length}
use Rattle.dna.specs.Answer.{gives, refuses}
use Rattle.dna.proofs.Answers.{either, ungiven}
use Rattle.state.specs.Counted.{Kind}
use Rattle.graph.specs.Sightings.{Rule}
use Rattle.graph.specs.Adding.{Edges, add_label}
use Rattle.graph.specs.Several.{Several, add_next, add_each}

-- The label after i others is refused.
abbrev pub stopped : ℕ → List ℕ → ℕ → ℕ → List ℕ → List ℕ → Several
stopped x vs i stored keys counts = record { answer = refuses x vs; labels = i; stored = stored; keys = keys; counts = counts }

module _ (κ : Kind) (rule : Rule) (K : ℕ) where
  pub none_after : (x : ℕ) (vs : List ℕ) (i stored : ℕ) (keys counts : List ℕ) (ls : List (List ℕ))
      → add_each κ rule K (stopped x vs i stored keys counts) ls ≡ stopped x vs i stored keys counts
  unfolding add_each
  none_after x vs i stored keys counts [] = refl
  none_after x vs i stored keys counts (l ∷ ls) = refl

  next_few : (s : Several) (label : List ℕ) → (add_next κ rule K s label).labels ≤ suc s.labels
  unfolding add_next
  next_few s label =
      either (λ (t : Several). t.labels ≤ suc s.labels) (add_label κ rule K s.stored s.keys s.counts label).answer
      (λ e _. omega arith) (λ r vs _. omega arith)

  pub each_few : (s : Several) (ls : List (List ℕ)) → (add_each κ rule K s ls).labels ≤ s.labels + length ls
  unfolding add_each
  each_few s [] = omega arith
  each_few s (l ∷ ls) =
      either (λ (t : Several). t.labels ≤ s.labels + suc (length ls)) s.answer
      (λ e _. omega (arith, each_few (add_next κ rule K s l) ls, next_few s l)) (λ r vs _. omega arith)

  pub each_all : (s : Several) (ls : List (List ℕ)) {e : Edges} → (add_each κ rule K s ls).answer ≡ gives e
      → (add_each κ rule K s ls).labels ≡ s.labels + length ls
  unfolding add_each add_next
  each_all s [] = λ h. omega arith
  each_all s (l ∷ ls) {e} =
      let a = add_label κ rule K s.stored s.keys s.counts l in
      either (λ (t : Several). t.answer ≡ gives e → t.labels ≡ s.labels + suc (length ls)) s.answer
      (λ _ _. either (λ (n : Several). (add_each κ rule K n ls).answer ≡ gives e → (add_each κ rule K n ls).labels ≡ s.labels + suc (length ls)) a.answer
      (λ d _ h.
      let n : Several = record { answer = gives d; labels = suc s.labels; stored = d.stored; keys = a.keys; counts = a.counts } in
      omega (arith, each_all n ls h))
      (λ r vs _ h. ungiven e r vs (sym (ap (λ (t : Several). t.answer) (sym (none_after r vs s.labels s.stored a.keys a.counts ls)) ∙ h))))
      (λ r vs q h. ungiven e r vs (sym h ∙ q))
