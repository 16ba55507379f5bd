-- The answers' definitions tell their cases apart, so that each contract allows one answer and one content of a slice;
-- what each answer of the call for all vertices has to show. Assumes nothing.
use mathlib.Core.Path.{◌≡◌, refl, sym, ap, ◌∙◌}
use mathlib.Core.Bool.{Bool, true, false, cond}
use mathlib.Core.List.{List, []}
use Prim.Native.Nat.{ℕ, ◌≤◌, ◌<◌}
use borrow.Author.Tests.{lt-ltb, le-ltb}
use lib.Dec.{eqb}
use lib.ListN.{length}
use Rattle.std.specs.Prelude.{Result, Ok, Err}
use Rattle.dna.specs.Text.{over}
use Rattle.dna.specs.Answer.{gives, refuses, Filled}
use Rattle.dna.proofs.Answers.{ungiven, told_apart}
use Rattle.colours.specs.Runs.{sound_runs, colors_from, check_call, colors_call}
use Rattle.colours.specs.Says.{coordinate_answer, part_answer, run_answer, runs_answer, color_answer, colors_answer}
use Rattle.colours.specs.Says.{refusal_of, WritesColors}
use Rattle.colours.specs.declared.ColorCoordinate.{ColorCoordinate}
use Rattle.colours.specs.declared.ColorError.{ColorError}
use Rattle.colours.specs.declared.ColorError.TheVariants.{BrokenRuns, PastLabel, NoRoom}
use Rattle.colours.specs.declared.OutOfRange.{OutOfRange}
use Rattle.colours.specs.declared.UnitigColor.{UnitigColor}
use Rattle.colours.proofs.Painting.{length_colors}

pub coordinate_inj : (a b : Result ColorCoordinate OutOfRange) → coordinate_answer a ≡ coordinate_answer b → a ≡ b
coordinate_inj =
    told_apart coordinate_answer (λ c. c.0) (λ _. 22) (λ _. refl) (λ _. refl) (λ _ _ h. ap (λ n. record { 0 = n }) h)
    (λ _ _ _. refl)

pub part_inj : (a b : Result ℕ OutOfRange) → part_answer a ≡ part_answer b → a ≡ b
part_inj = told_apart part_answer (λ n. n) (λ _. 22) (λ _. refl) (λ _. refl) (λ _ _ h. h) (λ _ _ _. refl)

pub run_inj : (a b : Result UnitigColor OutOfRange) → run_answer a ≡ run_answer b → a ≡ b
run_inj =
    told_apart run_answer (λ r. r.0) (λ _. 22) (λ _. refl) (λ _. refl) (λ _ _ h. ap (λ n. record { 0 = n }) h)
    (λ _ _ _. refl)

-- An error is known by its number.
error_inj : (d e : ColorError) → refusal_of d ≡ refusal_of e → d ≡ e
error_inj d e h = sym (back d) ∙ ap error_of h ∙ back e
  where
    error_of : ℕ → ColorError
    error_of r = cond (eqb r 23) BrokenRuns (cond (eqb r 24) PastLabel NoRoom)

    back : (e : ColorError) → error_of (refusal_of e) ≡ e
    back BrokenRuns = refl
    back PastLabel = refl
    back NoRoom = refl

pub runs_inj : (a b : Result (Unit {0}) ColorError) → runs_answer a ≡ runs_answer b → a ≡ b
runs_inj = told_apart runs_answer (λ u. u) refusal_of (λ _. refl) (λ _. refl) (λ _ _ h. h) error_inj

pub color_inj : (a b : Result ColorCoordinate ColorError) → color_answer a ≡ color_answer b → a ≡ b
color_inj =
    told_apart color_answer (λ c. c.0) refusal_of (λ _. refl) (λ _. refl) (λ _ _ h. ap (λ n. record { 0 = n }) h)
    error_inj

colors_inj : (a b : Result ℕ ColorError) → colors_answer a ≡ colors_answer b → a ≡ b
colors_inj = told_apart colors_answer (λ n. n) refusal_of (λ _. refl) (λ _. refl) (λ _ _ h. h) error_inj

pub writes_one : (r s : Result ℕ ColorError) {out out' : List ℕ} {f : Filled}
    → WritesColors r out f → WritesColors s out' f → (r ≡ s) × (out ≡ out')
writes_one r s w v = (colors_inj r s (w.answer ∙ sym v.answer), w.slice ∙ sym v.slice)

-- A list that the check passed.
pub checked : (kmers : ℕ) (list : List ℕ) → gives (tt {0}) ≡ check_call kmers list → sound_runs kmers list ≡ true
checked kmers list h = go (sound_runs kmers list) h
  where
    go : (t : Bool) → gives (tt {0}) ≡ cond t (gives (tt {0})) (refuses 23 []) → t ≡ true
    go true h = refl
    go false h = ungiven (tt {0}) 23 [] h

module _ (kmers : ℕ) (list slice : List ℕ) where
  abbrev result : Filled
  result = colors_call kmers list slice

  -- The list breaks a rule.
  pub writes_broken : sound_runs kmers list ≡ false → WritesColors (Err BrokenRuns) slice result
  writes_broken s = rw s (record { answer = refl; slice = refl })

  module _ (s : sound_runs kmers list ≡ true) where
    abbrev all : List ℕ
    all = colors_from list 0 kmers

    -- The colours do not fit.
    pub writes_none : length slice < kmers → WritesColors (Err NoRoom) slice result
    writes_none h =
        let l : length slice < length all = rw (length_colors list 0 kmers) h in
        rw (s, lt-ltb (length slice) (length all) l) (record { answer = refl; slice = refl })

    -- They are written.
    pub writes_all : kmers ≤ length slice → (out : List ℕ) → out ≡ over all slice
        → WritesColors (Ok kmers) out result
    writes_all h out o =
        let l : length all ≤ length slice = rw (length_colors list 0 kmers) h in
        rw (s, le-ltb (length slice) (length all) l) (record { answer = rw (length_colors list 0 kmers); slice = o })
