-- Labels added one after the other, until one is refused. Assumes nothing.
use Rattle.std.specs.Prelude.{ℕ, suc, cond, List, [], ◌∷◌}
use Rattle.dna.specs.Answer.{Answer, gives, refuses}
use Rattle.state.specs.Counted.{Kind}
use Rattle.label_index.specs.Entries.{listed, within}
use Rattle.graph.specs.Sightings.{Rule}
use Rattle.graph.specs.Adding.{Edges, add_label}

-- The answer to the last label that was tried, how many were added, the number stored after them, and the two lent slices.
pub record Several : Type 0 where
  pub answer : Answer Edges
  pub labels : ℕ
  pub stored : ℕ
  pub keys : List ℕ
  pub counts : List ℕ

-- No label was tried yet, and n vertices are stored.
abbrev pub untried : ℕ → List ℕ → List ℕ → Several
untried n keys counts = record { answer = gives (record { edges = 0; stored = n }); labels = 0; stored = n; keys = keys; counts = counts }

module _ (κ : Kind) (rule : Rule) (K : ℕ) where
  -- One label more.
  unfoldable pub add_next : Several → List ℕ → Several
  add_next s label =
      let a = add_label κ rule K s.stored s.keys s.counts label in
      elim a.answer [
        | gives e ↦ record { answer = gives e; labels = suc s.labels; stored = e.stored; keys = a.keys; counts = a.counts }
        | refuses r vs ↦ record { answer = refuses r vs; labels = s.labels; stored = s.stored; keys = a.keys; counts = a.counts }
      ]

  -- Labels in order. None is tried after one that was refused.
  unfoldable pub add_each : Several → List (List ℕ) → Several
  add_each s [] = s
  add_each s (label ∷ labels) =
      let on = add_each (add_next s label) labels in
      elim s.answer [ gives e ↦ on | refuses r vs ↦ s ]

  -- The labels of an index, added to n vertices: 12, before any is tried, where one of its entries is missing or lies past the text.
  unfoldable pub add_labels : ℕ → List ℕ → List ℕ → List ℕ → List ℕ → List ℕ → ℕ → Several
  add_labels n keys counts text starts lengths count =
      cond (within text count starts lengths) (add_each (untried n keys counts) (listed count text starts lengths))
      (record { answer = refuses 12 []; labels = 0; stored = n; keys = keys; counts = counts })

-- Opens this file's definitions to a proof that computes.
unfoldable pub open_several : Unit {0}
unfolding add_next add_each add_labels
open_several = tt
