-- A vertex that is left: by which edge, and the step that comes of it. Assumes nothing.
use mathlib.Core.Path.{◌≡◌, refl, sym, ap, ◌∙◌}
use mathlib.Core.List.{List}
use Prim.Native.Nat.{ℕ, ◌%◌, ◌<◌}
use native.Mathlib.Omega.{arith}
use borrow.Author.Tests.{eq-eqb, ne_eqb}
use lib.ListN.{length, get_or}
use Rattle.kmer.specs.Kmer.{forward}
use Rattle.state.specs.declared.Side.{Side}
use Rattle.graph.specs.declared.Step.{Step}
use Rattle.graph.specs.declared.Step.TheVariants.{Stop}
use Rattle.graph.specs.declared.StopReason.TheVariants.{NoEdge, SeveralEdges}
use Rattle.graph.specs.Walks.{edge, seen, leaving, step}
use Rattle.laws.proofs.Sides.{leaving_lt}
use Rattle.marks.specs.Marks.{end_in, ends}
use Rattle.contraction.specs.Over.{arrive_in, step_in}
use Rattle.contraction.specs.Says.{Advances}
use Rattle.marks.proofs.Marking.{edge_is, marking, visits_marking, ends_marking}
use Rattle.marks.specs.Ready.{keys_for, Ready}

-- A code below 4 is the remainder that its base was taken from.
pub code_small : {b e : ℕ} → b ≡ e % 4 → e < 4 → b ≡ e
code_small p l = omega arith

-- Vertex v is left by side s, on which its mark holds e.
module _ {K : ℕ} {keys ms : List ℕ} (r : Ready K keys ms) (a : ℕ) (start : Side) (v : ℕ) (s : Side) (h : v < length ms)
    {e : ℕ} (q : e ≡ end_in (get_or ms v 0) s) where
  here : edge (ends ms) v s ≡ e
  here = edge_is ms v h s ∙ sym q

  pub leave_none : e ≡ 5 → Stop NoEdge ≡ step_in K keys ms a start v s
  unfolding step
  leave_none f = rw (here, eq-eqb e 5 f)

  pub leave_several : e ≡ 4 → Stop SeveralEdges ≡ step_in K keys ms a start v s
  unfolding step
  leave_several f = rw (here, f)

  module _ (some : e ≡ 5 → ⊥) (single : e ≡ 4 → ⊥) where
    pub leave_base : e < 4
    leave_base = omega (arith, r.known v s, here, some, single)

    -- By a base, from the k-mer that is seen to the one ahead.
    module _ (b : ℕ) (base : b ≡ leaving s (e % 4)) where
      base_is : b ≡ leaving s e
      base_is = base ∙ ap (leaving s) (code_small refl leave_base)

      pub leave_code : b < 4
      leave_code = rw base_is (leaving_lt s e leave_base)

      pub leave_on : (x : ℕ) → x ≡ seen K (keys_for ms keys) v s → {y : ℕ} → y ≡ forward K x b → {n : ℕ} → n ≡ b
          → {st : Step} → st ≡ arrive_in K keys ms a start y n → st ≡ step_in K keys ms a start v s
      unfolding step
      leave_on x from to n t = t ∙ rw (to, n, from, base_is, here, ne_eqb e 5 some, ne_eqb e 4 single)

-- Vertex v is marked, and then left.
module _ {K : ℕ} {keys ms : List ℕ} (a : ℕ) (start : Side) (v : ℕ) (s : Side) {st : Step}
    (stepped : st ≡ step_in K keys (marking ms v) a start v s) where
  pub advanced : Advances K keys ms a start v s st (marking ms v)
  advanced = record { stepped = stepped; ends_kept = ends_marking ms v; visits_after = visits_marking ms v }
