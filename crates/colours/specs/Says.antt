-- What this crate's answers say in the numbers of documents 01 and 02. Assumes nothing.
use Rattle.std.specs.Prelude.{ℕ, ◌≡◌, List, [], Result, Ok, Err}
use Rattle.dna.specs.Answer.{Answer, gives, refuses, Filled}
use Rattle.colours.specs.declared.ColorCoordinate.{ColorCoordinate}
use Rattle.colours.specs.declared.ColorError.{ColorError}
use Rattle.colours.specs.declared.ColorError.TheVariants.{BrokenRuns, PastLabel, NoRoom}
use Rattle.colours.specs.declared.OutOfRange.{OutOfRange}
use Rattle.colours.specs.declared.UnitigColor.{UnitigColor}

abbrev pub coordinate_answer : Result ColorCoordinate OutOfRange → Answer ℕ
coordinate_answer (Ok c) = gives c.0
coordinate_answer (Err e) = refuses 22 []

abbrev pub part_answer : Result ℕ OutOfRange → Answer ℕ
part_answer (Ok n) = gives n
part_answer (Err e) = refuses 22 []

abbrev pub run_answer : Result UnitigColor OutOfRange → Answer ℕ
run_answer (Ok r) = gives r.0
run_answer (Err e) = refuses 22 []

-- The number of a refusal.
abbrev pub refusal_of : ColorError → ℕ
refusal_of BrokenRuns = 23
refusal_of PastLabel = 24
refusal_of NoRoom = 9

abbrev pub runs_answer : Result (Unit {0}) ColorError → Answer (Unit {0})
runs_answer (Ok u) = gives u
runs_answer (Err e) = refuses (refusal_of e) []

abbrev pub color_answer : Result ColorCoordinate ColorError → Answer ℕ
color_answer (Ok c) = gives c.0
color_answer (Err e) = refuses (refusal_of e) []

abbrev pub colors_answer : Result ℕ ColorError → Answer ℕ
colors_answer (Ok n) = gives n
colors_answer (Err e) = refuses (refusal_of e) []

-- The call for all vertices: its answer, and the slice of colours at exit.
pub record WritesColors (r : Result ℕ ColorError) (out : List ℕ) (f : Filled) : Type 0 where
  pub answer : colors_answer r ≡ f.answer
  pub slice : out ≡ f.slice
