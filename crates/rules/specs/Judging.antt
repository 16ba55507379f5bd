-- The call that judges a FASTA text over a lent table. Assumes nothing.
use Rattle.std.specs.Prelude.{ℕ, ◌%◌, cond, not, List, [], ◌∷◌, ltb, eqb, length, replicate}
use Rattle.dna.specs.Text.{over}
use Rattle.dna.specs.Answer.{Answer, gives, refuses}
use Rattle.kmer.specs.Kmer.{ok_k}
use Rattle.state.specs.Counted.{Kind, answers_for}
use Rattle.graph.specs.Table.{table_of, fit_for}
use Rattle.graph.specs.Contraction.{ends_in}
use Rattle.rules.specs.Listing.{Listing, holds, no_list, listing}
use Rattle.rules.specs.Verdict.{Verdict, verdict}

-- What is answered, and the lent marks afterwards.
pub record Judgement : Type 0 where
  pub answer : Answer Verdict
  pub marks : List ℕ

module _ (κ : Kind) (K cutoff n : ℕ) (keys counts text marks : List ℕ) where
  -- A refusal changes nothing.
  abbrev pub refused : ℕ → List ℕ → Judgement
  refused r beside = record { answer = refuses r beside; marks = marks }

  -- The list judged: after yes or no the first n marks are 0.
  unfoldable pub on_list : Listing → Judgement
  on_list (holds ls) =
      let t = table_of n keys counts in
      record { answer = gives (verdict K t.keys (ends_in κ cutoff t) ls); marks = over (replicate n 0) marks }
  on_list no_list = refused 17 []

  -- The refusals 1, 5, 15, 7, 16, 17.
  unfoldable pub judge : Judgement
  judge =
      cond (not (ok_k K)) (refused 1 (K ∷ []))
      (cond (not (fit_for κ K n keys counts)) (refused 5 [])
      (cond (not (answers_for κ cutoff)) (refused 15 [])
      (cond (ltb (length marks) n) (refused 7 [])
      (cond (eqb (K % 2) 0) (refused 16 [])
      (on_list (listing K text))))))

-- Opens this file's definitions to a proof that computes.
unfoldable pub open_judging : Unit {0}
unfolding on_list judge
open_judging = tt
