-- The definition of what a judgement answers tells its cases apart, so its contract allows one answer and one content
-- of the marks. Assumes nothing.
use mathlib.Core.Path.{◌≡◌, refl, sym, ap, ◌∙◌}
use mathlib.Core.List.{List, [], ◌∷◌}
use Prim.Native.Nat.{ℕ}
use lib.ListN.{get_or}
use Rattle.std.proofs.Common.{Option, Some, None, Result, Ok, Err}
use Rattle.dna.specs.Answer.{Answer, gives, refuses}
use Rattle.rules.specs.Verdict.{Verdict, yes, no}
use Rattle.rules.specs.Judging.{Judgement}
use Rattle.judging.specs.declared.Broken.{Broken}
use Rattle.judging.specs.declared.JudgeError.{JudgeError}
use Rattle.judging.specs.declared.JudgeError.TheVariants as errors
use Rattle.judging.specs.Answers.{judge_answer, Judges}

-- The error of a refusal; a judgement has none but 1, 5, 7, 15, 16 and 17.
abbrev error_of : ℕ → List ℕ → JudgeError
error_of r values =
    let u = errors.Unfit in
    get_or
    (u ∷ errors.UnsupportedK (get_or values 0 0) ∷ u ∷ u ∷ u ∷ u ∷ u ∷ errors.FewMarks ∷ u ∷ u ∷ u ∷ u ∷ u ∷ u ∷ u
    ∷ errors.WrongCutoff ∷ errors.EvenK ∷ errors.NoList ∷ [])
    r u

-- The case of an answer.
abbrev case_of : Answer Verdict → Result (Option Broken) JudgeError
case_of (gives yes) = Ok None
case_of (gives (no rule label)) = Ok (Some (record { rule = rule; label = label }))
case_of (refuses r values) = Err (error_of r values)

case_back : (a : Result (Option Broken) JudgeError) → case_of (judge_answer a) ≡ a
case_back (Ok None) = refl
case_back (Ok (Some b)) = refl
case_back (Err (errors.UnsupportedK K)) = refl
case_back (Err errors.Unfit) = refl
case_back (Err errors.WrongCutoff) = refl
case_back (Err errors.FewMarks) = refl
case_back (Err errors.EvenK) = refl
case_back (Err errors.NoList) = refl

pub judges_one : {r s : Result (Option Broken) JudgeError} {marks marks' : List ℕ} {j : Judgement} → Judges r marks j
    → Judges s marks' j
    → (r ≡ s) × (marks ≡ marks')
judges_one {r} {s} p q =
    (sym (case_back r) ∙ ap case_of (p.answer ∙ sym q.answer) ∙ case_back s, p.marks_after ∙ sym q.marks_after)
