-- A list judged by the table of a file's labels: the line of the verdict. Assumes nothing.
use mathlib.Core.Path.{◌≡◌, refl, ap, ◌∙◌}
use mathlib.Core.List.{List, []}
use Prim.Native.Nat.{ℕ}
use Rattle.std.specs.Prelude.{Option, Some, None, Result, Ok, Err}
use Rattle.dna.specs.Answer.{fill}
use Rattle.state.specs.Counted.{four_bits}
use Rattle.rules.specs.Judging.{judge}
use Rattle.judging.specs.declared.Broken.{Broken}
use Rattle.judging.specs.declared.JudgeError.{JudgeError}
use Rattle.judging.specs.declared.JudgeError.TheVariants as error
use Rattle.judging.specs.Answers.{judge_answer, Judges}
use Rattle.label_file.specs.LabelFile.{file_of, labels_of}
use Rattle.label_file.specs.Output.{Buffers, with_text, refusal}
use Rattle.label_file.specs.Judged.{lent_few, answer_line, judged_after, judge_all, judgement}
use Rattle.label_file.specs.Reasons.{number_of, Numbers}
use Rattle.label_file.specs.Says.{Takes, head_says, line_of}
use Rattle.label_file.specs.declared.form.Head.{Head}
use Rattle.label_file.specs.declared.list.Taken.{Taken}
use Rattle.label_file.specs.declared.refusal.Reason.{Reason}
use Rattle.label_file.proofs.Whole.{Stage, added, run, run_taken}

-- A list judged by the table of the buffers.
abbrev pub judging : List ℕ → Stage
judging list k cutoff n p b = judged_after p b (judge four_bits k cutoff n b.keys b.counts list b.marks)

pub judgement_run : (b : Buffers) (file list : List ℕ) → judgement b file list ≡ run (judging list) b file
unfolding judgement judge_all
judgement_run b file list = refl

pub verdict_said : (p : ℕ) (v : Option Broken) → answer_line p (judge_answer (Ok v)) ≡ line_of (Ok v)
verdict_said p None = refl
verdict_said p (Some b) = refl

pub refusal_said : (p : ℕ) (e : JudgeError) (r : Reason) → (e ≡ error.EvenK → ⊥) → Numbers (judge_answer (Err e)) r
    → answer_line p (judge_answer (Err e)) ≡ refusal (number_of r) p
refusal_said p (error.UnsupportedK k) r h n = let e : 1 ≡ number_of r = cc in ap (λ x. refusal x p) e
refusal_said p error.Unfit r h n = let e : 5 ≡ number_of r = cc in ap (λ x. refusal x p) e
refusal_said p error.WrongCutoff r h n = let e : 15 ≡ number_of r = cc in ap (λ x. refusal x p) e
refusal_said p error.FewMarks r h n = let e : 7 ≡ number_of r = cc in ap (λ x. refusal x p) e
refusal_said p error.EvenK r h n = absurd (h refl)
refusal_said p error.NoList r h n = let e : 17 ≡ number_of r = cc in ap (λ x. refusal x p) e

module _ (file list keys₀ counts₀ marks₀ : List ℕ) {h : Head} (s : head_says (Ok h) file)
    {x : Taken} {keys counts : List ℕ}
    (t : Takes (Ok x) keys counts (added h.k (labels_of (file_of file)) (lent_few keys₀ counts₀ marks₀ []))) where
  -- A judgement is made, whose line is this.
  pub judged_line : {r : Result (Option Broken) JudgeError} {marks : List ℕ}
      → Judges r marks (judge four_bits h.k h.cutoff x.vertices keys counts list marks₀)
      → (line : List ℕ) → answer_line x.records (judge_answer r) ≡ line → (text : List ℕ)
      → judgement (lent_few keys₀ counts₀ marks₀ text) file list
      ≡ with_text (lent_few keys counts marks text) (fill 11 line text)
  judged_line j line e text =
      let b = lent_few keys₀ counts₀ marks₀ text in
      judgement_run b file list ∙ run_taken (judging list) b file h s x t ∙ rw (← j.answer, e, ← j.marks_after)
