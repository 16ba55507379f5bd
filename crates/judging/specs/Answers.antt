-- What a judgement answers in the documents' numbers, and what its parts say. Assumes nothing.
use Rattle.std.specs.Prelude.{ℕ, ◌≡◌, cond, ◌||◌, Option, Some, None, Result, Ok, Err, List, [], ◌∷◌, ltb, length}
use Rattle.dna.specs.Answer.{Answer, gives, refuses}
use Rattle.graph.specs.Walks.{Ends}
use Rattle.rules.specs.Verdict.{Verdict, yes, no, first_of, breaks2, lacks, breaks3, breaks4}
use Rattle.rules.specs.Judging.{Judgement}
use Rattle.table.specs.declared.FitError.{FitError}
use Rattle.table.specs.declared.FitError.TheVariants as fits
use Rattle.judging.specs.declared.Broken.{Broken}
use Rattle.judging.specs.declared.JudgeError.{JudgeError}
use Rattle.judging.specs.declared.JudgeError.TheVariants as errors

-- A verdict, or a refusal.
abbrev pub judge_answer : Result (Option Broken) JudgeError → Answer Verdict
judge_answer (Ok None) = gives yes
judge_answer (Ok (Some b)) = gives (no b.rule b.label)
judge_answer (Err (errors.UnsupportedK K)) = refuses 1 (K ∷ [])
judge_answer (Err errors.Unfit) = refuses 5 []
judge_answer (Err errors.WrongCutoff) = refuses 15 []
judge_answer (Err errors.FewMarks) = refuses 7 []
judge_answer (Err errors.EvenK) = refuses 16 []
judge_answer (Err errors.NoList) = refuses 17 []

-- Why a list is not judged over a table that is not fit.
abbrev pub refused_fit : FitError → JudgeError
refused_fit (fits.UnsupportedK K) = errors.UnsupportedK K
refused_fit fits.Unfit = errors.Unfit

-- A judgement: its answer, and the marks at exit.
pub record Judges (r : Result (Option Broken) JudgeError) (marks : List ℕ) (j : Judgement) : Type 0 where
  pub answer : judge_answer r ≡ j.answer
  pub marks_after : marks ≡ j.marks

module _ (K : ℕ) (ks : List ℕ) (es : List Ends) (ls : List (List ℕ)) where
  -- What rule 4 leaves of a verdict.
  abbrev pub ends_verdict : Verdict
  ends_verdict = cond (ltb (first_of (breaks4 K ks es) [] ls) (length ls)) (no 4 (first_of (breaks4 K ks es) [] ls)) yes

  -- What rules 2 to 4 do.
  abbrev pub kmers_verdict : Verdict
  kmers_verdict =
      cond (ltb (first_of (breaks2 K ks es) [] ls) (length ls) || lacks K ks es ls)
      (no 2 (first_of (breaks2 K ks es) [] ls))
      (cond (ltb (first_of (breaks3 K ks es) [] ls) (length ls)) (no 3 (first_of (breaks3 K ks es) [] ls)) ends_verdict)
