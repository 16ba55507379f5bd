-- In a grown table every edge that was counted leads to a k-mer that is stored: it was the label's next window. Assumes nothing.
use mathlib.Core.Path.{◌≡◌, refl, ◌∙◌}
use mathlib.Core.Bool.{Bool, true, or-true}
use mathlib.Core.Logic.{⊎_elim}
use mathlib.Core.List.{List, [], ◌∷◌}
use Prim.Native.Nat.{ℕ, suc, ◌<◌}
use native.Mathlib.Omega.{arith}
use lib.ListN.{get_or}
use Rattle.lemmas.proofs.Numbers.{lt_or_ge}
use Rattle.kmer.specs.Kmer.{canon, forward}
use Rattle.state.specs.declared.Side.{Side}
use Rattle.state.specs.Counted.{Kind, slot_of, count}
use Rattle.graph.specs.Table.{keys_of, stored}
use Rattle.graph.specs.Sightings.{Rule, windows, sightings}
use Rattle.graph.specs.Walks.{seen, leaving}
use Rattle.graph.proofs.Adding.{Readable}
use Rattle.graph.proofs.Accepted.{accepted}
use Rattle.laws.specs.Grown.{Grown, fresh, accepts, moves, shows, seen_in, times, sighted_in}
use Rattle.laws.proofs.Keys.{grown_keys}
use Rattle.laws.proofs.Sighted.{EachSighted, each_hit, shows_window}
use Rattle.laws.proofs.Counts.{grown_counts_at}
use Rattle.laws.proofs.Ahead.{Ahead, label_ahead}
use Rattle.laws.proofs.Sides.{seen_as, seen_is}

-- ---- a label

-- What an edge leads to passes a test.
abbrev Tested : (ℕ → Bool) → ℕ → ℕ → Type 0
Tested test x y = test y ≡ true

module _ (rule : Rule) (K : ℕ) (label : List ℕ) where
  abbrev shown : ℕ → Bool
  shown = shows K label (windows K label)

  label_shown : Readable K label → EachSighted (Ahead K (Tested shown)) (sightings rule K label (windows K label))
  label_shown r = label_ahead rule K label (Tested shown) r
      (λ b i h. shows_window K label (windows K label) (suc i) (omega arith))
      (λ b i h. shows_window K label (windows K label) i (omega arith))

-- ---- all labels

-- Every label is one that adding reads.
abbrev pub AllReadable : ℕ → List (List ℕ) → Type 0
AllReadable K [] = Unit {0}
AllReadable K (l ∷ ls) = Readable K l × AllReadable K ls

pub grown_readable : {κ : Kind} {rule : Rule} {K : ℕ} {ls : List (List ℕ)} {n : ℕ} {keys counts : List ℕ}
    → Grown κ rule K ls n keys counts → AllReadable K ls
grown_readable (fresh keys counts) = tt
grown_readable {κ} {rule} {K} (accepts {n = n} {keys = keys} {counts = counts} g l e h) =
    ((accepted κ rule K n keys counts l e h).reads, grown_readable g)
grown_readable (moves g keys' counts' e) = grown_readable g

labels_shown : (rule : Rule) (K : ℕ) (ls : List (List ℕ)) → AllReadable K ls → (x j : ℕ) → 0 < sighted_in rule K ls x j → Ahead K (Tested (seen_in K ls)) x j
unfolding sighted_in seen_in
labels_shown rule K [] r x j h s b lt e = absurd (omega arith)
labels_shown rule K (l ∷ ls) r x j h s b lt e =
    let y = canon K (forward K (seen_as K x s) (leaving s b)) in
    ⊎_elim
    (λ z. rw (labels_shown rule K ls r.1 x j z s b lt e))
    (λ z.
    let t : 0 < times (sightings rule K l (windows K l)) x j = omega arith in
    rw (each_hit (Ahead K (Tested (shown rule K l))) (sightings rule K l (windows K l)) (label_shown rule K l r.0) x j t s b lt e)
    (or-true (seen_in K ls y)))
    (lt_or_ge 0 (sighted_in rule K ls x j))

-- ---- a grown table

module _ {κ : Kind} {rule : Rule} {K : ℕ} {ls : List (List ℕ)} {n : ℕ} {keys counts : List ℕ} (g : Grown κ rule K ls n keys counts) where
  -- The edge of a counter that is not 0 leads to a stored k-mer.
  pub grown_closed : (v : ℕ) (s : Side) (b : ℕ) → v < n → b < 4 → 0 < count κ (get_or counts v 0) (slot_of s b)
      → stored (keys_of n keys) (canon K (forward K (seen K (keys_of n keys) v s) (leaving s b))) ≡ true
  grown_closed v s b h l c =
      let x = get_or (keys_of n keys) v 0 in
      let j = slot_of s b in
      let z : 0 < sighted_in rule K ls x j = omega (arith, grown_counts_at g v j h) in
      grown_keys g (canon K (forward K (seen K (keys_of n keys) v s) (leaving s b)))
      ∙ rw (seen_is K (keys_of n keys) v s) (labels_shown rule K ls (grown_readable g) x j z s b l refl)
